use Rattle.std.proofs.Common.{◌≡◌}
use Rattle.ig_graph.specs.Sets.{each_alone}
use Rattle.ig_graph.proofs.sets.DisjointSets.new.Given as goal

abbrev pub invariant-loop-number : goal.invariant-loop-number
invariant-loop-number l = l.parents.items ≡ each_alone l.number
