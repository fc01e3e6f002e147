-- The runs of the whole rows so far.
use Rattle.std.proofs.Common.{◌≡◌, ◌≤◌, ◌-◌, ◌*◌, ℕ, length}
use Rattle.ig_label.specs.Runs.{AreRunsTo}
use Rattle.ig_label.proofs.rows.runs_of.Given as goal

abbrev pub invariant-loop-first : goal.invariant-loop-first
invariant-loop-first l = record {
  so_far : AreRunsTo l.width l.labels l.first l.runs;
  whole : (n : ℕ) × (l.first ≡ n * l.width);
  within : l.first ≤ length l.labels;
}

abbrev pub decreases-loop-first : goal.decreases-loop-first
decreases-loop-first l = length l.labels - l.first
