-- The list is that of the names so far.
use Rattle.std.proofs.Common.{◌≡◌, take}
use Rattle.ig_queue.proofs.due.candidates.Given as goal

abbrev pub invariant-loop-name : goal.invariant-loop-name
invariant-loop-name l = l.list ≡ take l.name-index l.name-items
