use Rattle.std.proofs.Common.{arith, ◌∙◌, sym}
use Rattle.ig_record.proofs.HullLaws.{both-max, greatest-of_three, greatest-of_two}
use Rattle.ig_record.proofs.hulls.greatest_along.Goals as goal
use Rattle.ig_record.proofs.hulls.greatest_along.Goals.{else-shift-gt0-via-then-shift-gt0+else-chunk-shift, else-shift-gt0-via-else-shift-gt0}

pub returns-then-chunk-shift-clause-value : goal.returns-then-chunk-shift-clause-value
returns-then-chunk-shift-clause-value c =
    c.max.ensures
    ∙ both-max _ _ _ _ (c.max-ends.ensures ∙ both-max _ _ _ _ c.hull_along.ensures.value c.hull_along-2.ensures.value) c.hull_along-then-chunk-shift.ensures.value
    ∙ sym (greatest-of_three c.args.size c.args.step c.args.chunk c.requires.some c.requires.step c.requires.chunk (omega (arith, c.if-chunk-shift.true)))

pub returns-else-shift-gt0-clause-value : goal.returns-else-shift-gt0-clause-value
returns-else-shift-gt0-clause-value c =
    c.max-ends.ensures ∙ both-max _ _ _ _ c.hull_along.ensures.value c.hull_along-2.ensures.value
    ∙ sym (greatest-of_two c.args.size c.args.step c.args.chunk c.requires.some c.requires.step c.requires.chunk
    (λ shifted.
    elim c.else-shift-gt0.branch [
      | else-shift-gt0-via-then-shift-gt0+else-chunk-shift w ↦ omega (arith, w.if-chunk-shift.false)
      | else-shift-gt0-via-else-shift-gt0 w ↦ absurd (omega (arith, shifted, w.if-shift-gt0.false))
    ]))
