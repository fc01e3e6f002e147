-- What stands there, and then what is left, the last one first, are all.
use Rattle.std.proofs.Common.{◌≡◌, ◌++◌, length, reverse}
use Rattle.ig_task.proofs.running.add_all.Given as goal

abbrev pub invariant-loop-output : goal.invariant-loop-output
invariant-loop-output l = l.fn.outputs ++ l.fn.more ≡ l.outputs ++ reverse l.rest

abbrev pub decreases-loop-output : goal.decreases-loop-output
decreases-loop-output l = length l.rest
