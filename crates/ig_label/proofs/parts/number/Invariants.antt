use Rattle.ig_label.proofs.NumberingLaws.{AreNumbered}
use Rattle.ig_label.proofs.parts.number.Given as goal

abbrev pub invariant-loop-place : goal.invariant-loop-place
invariant-loop-place l = AreNumbered l.runs l.fn.classes l.classes l.firsts l.values l.place
