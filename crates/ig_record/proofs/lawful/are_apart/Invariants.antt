-- All differ where those that are left do.
use Rattle.std.proofs.Common.{◌≡◌, drop}
use Rattle.ig_record.specs.Columns.{dirs_of_all}
use Rattle.ig_record.specs.Sound.{are_apart}
use Rattle.ig_record.proofs.lawful.are_apart.Given as goal

abbrev pub invariant-loop-place : goal.invariant-loop-place
invariant-loop-place l = are_apart (dirs_of_all l.places) ≡ are_apart (dirs_of_all (drop l.place l.places))
