-- The directories so far, and then those that are left, are all.
use Rattle.std.proofs.Common.{◌≡◌, ◌++◌, drop}
use Rattle.ig_record.specs.Columns.{dirs_of_all}
use Rattle.ig_record.proofs.lists.dirs_of.Given as goal

abbrev pub invariant-loop-place : goal.invariant-loop-place
invariant-loop-place l = dirs_of_all l.places ≡ l.dirs ++ dirs_of_all (drop l.place-index l.places)
