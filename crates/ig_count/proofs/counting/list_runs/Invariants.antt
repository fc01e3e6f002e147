-- So far the first runs are listed.
use Rattle.std.proofs.Common.{◌≤◌, ◌-◌, length}
use Rattle.ig_count.proofs.SortedRuns.{AreListed}
use Rattle.ig_count.proofs.counting.list_runs.Given as goal

abbrev pub invariant-loop-from : goal.invariant-loop-from
invariant-loop-from l = (l.from ≤ length l.sorted) × AreListed l.sorted l.from l.items.items

abbrev pub decreases-loop-from : goal.decreases-loop-from
decreases-loop-from l = length l.sorted - l.from
