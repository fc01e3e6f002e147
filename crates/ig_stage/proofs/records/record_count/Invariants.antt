-- The names that are left make the count that of all of them.
use Rattle.std.proofs.Common.{◌≡◌, ◌≤◌, ◌^◌, max, drop}
use Rattle.ig_meaning.specs.QueueMaking.{record_count}
use Rattle.ig_stage.proofs.records.record_count.Given as goal

abbrev pub invariant-loop-name : goal.invariant-loop-name
invariant-loop-name l = (l.count ≤ 10 ^ 4) × (max l.count (record_count (drop l.name-index l.names)) ≡ record_count l.names)
