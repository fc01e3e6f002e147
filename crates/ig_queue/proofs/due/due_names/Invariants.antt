-- These are the names among those so far.
use Rattle.std.proofs.Common.{take}
use Rattle.ig_queue.proofs.DueNames.{AreDue}
use Rattle.ig_queue.proofs.due.due_names.Given as goal

abbrev pub invariant-loop-text : goal.invariant-loop-text
invariant-loop-text l = AreDue (take l.text-index l.names) l.now l.due.items
