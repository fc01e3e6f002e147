-- So far the first voxels are counted.
use Rattle.std.proofs.Common.{◌≡◌, ◌-◌, ◌≤◌, ℕ, Some, length, take, nat_eq, unwrap_or}
use Rattle.std.specs.HashMap as hash
use Rattle.ig_count.specs.Tables.{times}
use Rattle.ig_count.proofs.counting.tally_runs.Given as goal

abbrev pub invariant-loop-from : goal.invariant-loop-from
invariant-loop-from l =
    (l.from ≤ length l.labels) × ((label : ℕ) → unwrap_or (hash.get nat_eq l.tallies label) 0 ≡ times (take l.from l.labels) label)
    × ((label voxels : ℕ) → hash.get nat_eq l.tallies label ≡ Some voxels → 1 ≤ voxels)

abbrev pub decreases-loop-from : goal.decreases-loop-from
decreases-loop-from l = length l.labels - l.from
