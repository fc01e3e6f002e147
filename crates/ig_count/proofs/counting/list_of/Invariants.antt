-- So far the first entries are listed.
use Rattle.std.proofs.Common.{◌≡◌, ◌++◌, map}
use Rattle.ig_count.specs.Tables.{as_count}
use Rattle.ig_count.proofs.counting.list_of.Given as goal

abbrev pub invariant-loop-label : goal.invariant-loop-label
invariant-loop-label l = l.items.items ++ map as_count l.label-iterator ≡ map as_count l.tallies.entries
