use Rattle.std.proofs.Common.{◌∙◌}
use Rattle.ig_faces.proofs.PlaneLaws.{cut-step}
use Rattle.ig_faces.proofs.planes.cut_planes.Goals as goal

pub loop-size-preserved : goal.loop-size-preserved
loop-size-preserved c =
    let kept = c.loop-size.invariant in
    cut-step c.loop-size.planes c.push.new.self c.args.numbers.now c.args.sizes.now c.loop-size.from c.loop-size.size-index c.from_vec.result
    kept.0 kept.1 kept.2 c.loop-size-test.true c.requires c.in_ok-push.ensures.ok (c.from_vec.ensures ∙ c.in_ok-from_slice.ensures.items)
