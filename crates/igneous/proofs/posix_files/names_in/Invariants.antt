-- The names so far and the entries that are left are in order.
use Rattle.std.proofs.Common.{All, ◌++◌, drop, map, string_bytes}
use Rattle.ig_defs.specs.Names.{IsNameIn}
use Rattle.igneous.proofs.Sorted.{Ascending}
use Rattle.igneous.proofs.posix_files.names_in.Given as goal

abbrev pub invariant-loop-name : goal.invariant-loop-name
invariant-loop-name g l = All (IsNameIn l.dir) l.names × Ascending (l.names ++ drop l.name-index (map string_bytes l.name-items))
