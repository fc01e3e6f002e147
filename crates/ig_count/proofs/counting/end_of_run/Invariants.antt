-- So far the voxels from the first on have its label.
use Rattle.std.proofs.Common.{◌≡◌, ◌+◌, ◌-◌, ◌<◌, ◌≤◌, ℕ, length, take, slice_index}
use Rattle.ig_count.specs.Tables.{times, where_same}
use Rattle.ig_count.proofs.counting.end_of_run.Given as goal

abbrev pub invariant-loop-to : goal.invariant-loop-to
invariant-loop-to l =
    (l.from < l.to) × (l.to ≤ length l.labels) × (l.label ≡ slice_index l.labels l.from)
    × ((label : ℕ) → times (take l.to l.labels) label ≡ times (take l.from l.labels) label + where_same (slice_index l.labels l.from) label (l.to - l.from))

abbrev pub decreases-loop-to : goal.decreases-loop-to
decreases-loop-to l = length l.labels - l.to
