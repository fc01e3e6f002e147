-- The directory is among all where it is among those that are left.
use Rattle.std.proofs.Common.{◌≡◌, drop}
use Rattle.ig_record.specs.Columns.{dirs_of_all, is_among}
use Rattle.ig_record.proofs.lists.is_among.Given as goal

abbrev pub invariant-loop-place : goal.invariant-loop-place
invariant-loop-place l = is_among l.dir (dirs_of_all l.places) ≡ is_among l.dir (dirs_of_all (drop l.place-index l.places))
