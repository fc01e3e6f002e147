-- The list has the values of the nodes so far that stand for their class.
use Rattle.ig_global.specs.Numbers.{HaveTallies}
use Rattle.ig_global.proofs.numbering.ascending_firsts.Given as goal

abbrev pub invariant-loop-place : goal.invariant-loop-place
invariant-loop-place l = HaveTallies l.classes l.least l.place l.ascending.items
