-- So far the first items of both tables are merged.
use Rattle.std.proofs.Common.{◌≤◌, ◌+◌, ◌-◌, drop, length}
use Rattle.ig_count.specs.Merging.{IsMergedTo}
use Rattle.ig_count.proofs.merging.merged.Given as goal

abbrev pub invariant-loop-here : goal.invariant-loop-here
invariant-loop-here l = (l.here ≤ length l.old) × (l.there ≤ length l.more) × IsMergedTo l.old l.more (drop l.here l.old) (drop l.there l.more) l.items.items

abbrev pub decreases-loop-here : goal.decreases-loop-here
decreases-loop-here l = length l.old + length l.more - (l.here + l.there)
