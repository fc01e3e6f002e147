-- The copy with the rest put in is all of the files.
use Rattle.std.proofs.Common.{◌≡◌}
use Rattle.std.specs.FinMap as map
use Rattle.ig_store.proofs.Entries.{with_all}
use Rattle.ig_store.proofs.files.FileMapTryClone.copy.Given as goal

abbrev pub invariant-loop-path : goal.invariant-loop-path
invariant-loop-path l = with_all l.copy l.path-iterator ≡ with_all map.empty l.initial.path-iterator
