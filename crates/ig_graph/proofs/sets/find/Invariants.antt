-- The sets stay as they were, and the number is in the set of the first.
use Rattle.std.proofs.Common.{◌≡◌, ◌<◌, length, get_or}
use Rattle.ig_graph.specs.Forest.{top}
use Rattle.ig_graph.specs.Kept.{IsSameForest}
use Rattle.ig_graph.proofs.sets.find.Given as goal

abbrev pub invariant-loop-parent : goal.invariant-loop-parent
invariant-loop-parent l = record {
  same : IsSameForest l.fn.parents l.parents;
  below : l.at < length l.parents;
  parent : l.parent ≡ get_or l.parents l.at 0;
  found : top l.fn.parents l.at ≡ top l.fn.parents l.fn.number;
}

abbrev pub decreases-loop-parent : goal.decreases-loop-parent
decreases-loop-parent l = l.at
