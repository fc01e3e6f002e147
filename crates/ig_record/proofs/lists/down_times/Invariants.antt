-- The place is still to be halved as often as is left.
use Rattle.std.proofs.Common.{◌≡◌, ◌≤◌}
use Rattle.ig_mode.specs.Mips.{down_times}
use Rattle.ig_record.proofs.lists.down_times.Given as goal

abbrev pub invariant-loop-rest : goal.invariant-loop-rest
invariant-loop-rest l = record { value : down_times l.times l.place ≡ down_times l.rest l.halved; most : l.halved ≤ l.place }

abbrev pub decreases-loop-rest : goal.decreases-loop-rest
decreases-loop-rest l = l.rest
