use Rattle.std.proofs.Common.{◌∙◌, ◌++◌, ap, sym, take}
use Rattle.std.specs.List.{concat}
use Rattle.ig_faces.proofs.PlaneLaws.{concat-more}
use Rattle.ig_faces.proofs.planes.join_planes.Goals as goal

pub loop-plane-preserved : goal.loop-plane-preserved
loop-plane-preserved c =
    let p = c.plane-item.result in
    c.in_ok-extend_from_slice.ensures.items ∙ ap (λ l. l ++ c.as_slice.result.now) c.loop-plane.invariant
    ∙ ap (λ l. concat (take c.loop-plane.plane-index c.args.planes.now) ++ l) c.as_slice.ensures
    ∙ sym (concat-more c.args.planes.now c.loop-plane.plane-index p c.loop-plane-test.true c.plane-item.is)
