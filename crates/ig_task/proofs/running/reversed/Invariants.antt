-- What was taken, and then what is left, the last one first, are all.
use Rattle.std.proofs.Common.{◌≡◌, ◌++◌, length, reverse}
use Rattle.ig_task.proofs.running.reversed.Given as goal

abbrev pub invariant-loop-output : goal.invariant-loop-output
invariant-loop-output l = reverse l.fn.outputs ≡ l.last_first ++ reverse l.rest

abbrev pub decreases-loop-output : goal.decreases-loop-output
decreases-loop-output l = length l.rest
