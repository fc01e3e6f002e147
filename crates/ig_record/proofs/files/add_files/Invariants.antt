-- So far the files of the first numbers were added.
use Rattle.std.proofs.Common.{◌≡◌, ◌++◌}
use Rattle.ig_space.specs.Chunks.{listed}
use Rattle.ig_record.specs.Columns.{numbered}
use Rattle.ig_record.proofs.files.add_files.Given as goal

abbrev pub invariant-loop-number : goal.invariant-loop-number
invariant-loop-number l = l.paths ≡ l.fn.paths ++ listed (numbered l.dir l.ending) l.number
