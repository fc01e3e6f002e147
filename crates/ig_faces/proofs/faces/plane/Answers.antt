use Rattle.std.proofs.Common.{arith, ◌+◌, ◌*◌, ◌<◌, ◌++◌, ap, sym, ◌∙◌, length, slice_index}
use Rattle.ig_space.specs.Chunks.{listed}
use Rattle.ig_faces.proofs.FaceLaws.{plane-more}
use Rattle.ig_faces.proofs.faces.plane.Goals as goal

pub overflow_add-from : goal.overflow_add-from
overflow_add-from c =
    let here : c.args.from + 0 * c.args.step + c.loop-row.row * c.args.leap < length c.args.local.now =
    c.requires.within 0 c.loop-row.row (omega (arith, c.requires.some)) c.loop-row-test.true in
    omega (arith, here, c.requires.few)

pub loop-row-preserved : goal.loop-row-preserved
loop-row-preserved c =
    c.in_ok-push_row.ensures
    ∙ ap (λ l. l ++ listed (λ k. slice_index c.args.local.now (c.args.from + c.loop-row.row * c.args.leap + k * c.args.step)) c.args.width) c.loop-row.invariant
    ∙ sym (plane-more c.args.local.now c.args.from c.args.step c.args.width c.args.leap c.loop-row.row c.requires.some)
