use Rattle.std.specs.List.Sorted.{IsStrictlySortedBy}
use Rattle.igneous.proofs.posix_files.entries_of.Goals as goal

pub returns-in-Err : goal.returns-in-Err
unfolding IsStrictlySortedBy
returns-in-Err g c = rw c.new-names.ensures.items tt
