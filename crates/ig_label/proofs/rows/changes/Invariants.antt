use Rattle.std.proofs.Common.{◌≤◌}
use Rattle.ig_label.proofs.rows.changes.Given as goal

abbrev pub invariant-loop-place : goal.invariant-loop-place
invariant-loop-place l = l.count ≤ l.place
