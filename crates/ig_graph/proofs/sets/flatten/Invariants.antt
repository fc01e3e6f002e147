-- The numbers so far have the least members of their sets, and the others their parents.
use Rattle.std.proofs.Common.{◌≡◌, ◌<◌, ◌≤◌, ℕ, length, get_or}
use Rattle.ig_graph.specs.Forest.{top}
use Rattle.ig_graph.proofs.sets.flatten.Given as goal

abbrev pub invariant-loop-number : goal.invariant-loop-number
invariant-loop-number l = record {
  done : (k : ℕ) → k < l.number → get_or l.parents k 0 ≡ top l.fn.parents k;
  left : (k : ℕ) → l.number ≤ k → get_or l.parents k 0 ≡ get_or l.fn.parents k 0;
  size : length l.parents ≡ length l.fn.parents;
}
