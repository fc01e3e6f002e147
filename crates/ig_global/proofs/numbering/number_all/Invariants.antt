-- The nodes so far have their numbers.
use Rattle.std.proofs.Common.{◌≡◌, vec_len}
use Rattle.ig_global.specs.Numbers.{AreDone}
use Rattle.ig_global.proofs.numbering.number_all.Given as goal

abbrev pub invariant-loop-place : goal.invariant-loop-place
invariant-loop-place l = record { size : vec_len l.numbers ≡ l.place; done : AreDone l.classes l.least.items l.place l.numbers.items }
