use Rattle.ig_label.specs.Painting.{ArePainted}
use Rattle.ig_label.proofs.parts.paint.Given as goal

abbrev pub invariant-loop-place : goal.invariant-loop-place
invariant-loop-place l = ArePainted l.runs l.parts l.place l.fn.local l.local
