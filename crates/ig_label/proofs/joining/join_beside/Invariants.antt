-- The runs that one of the two places has passed are told of.
use Rattle.std.proofs.Common.{◌≤◌, ◌<◌, ◌+◌, ◌-◌, ℕ, length}
use Rattle.ig_label.specs.Runs.{run_at}
use Rattle.ig_label.specs.Joining.{HasJoined}
use Rattle.ig_label.proofs.joining.join_beside.Given as goal

abbrev pub invariant-loop-high : goal.invariant-loop-high
invariant-loop-high l = record {
  from : l.from ≤ l.low;
  order : l.low ≤ l.high;
  within : l.high ≤ length l.runs;
  before : (i : ℕ) → l.from ≤ i → i < l.high → (run_at l.runs i).first < l.bound;
  joined : HasJoined l.runs l.shift l.bound l.from l.low l.high l.fn.sets l.sets;
}

abbrev pub decreases-loop-high : goal.decreases-loop-high
decreases-loop-high l = (length l.runs - l.low) + (length l.runs - l.high)
