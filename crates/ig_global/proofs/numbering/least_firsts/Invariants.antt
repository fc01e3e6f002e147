-- Each number has the least first value of the nodes so far of this class.
use Rattle.ig_global.specs.Numbers.{HaveLeast}
use Rattle.ig_global.proofs.numbering.least_firsts.Given as goal

abbrev pub invariant-loop-place : goal.invariant-loop-place
invariant-loop-place l = HaveLeast l.classes l.firsts l.place l.least.items
