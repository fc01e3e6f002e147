-- These are the numbers of the names so far.
use Rattle.std.proofs.Common.{take}
use Rattle.ig_queue.proofs.Counted.{AreCounted}
use Rattle.ig_queue.proofs.listing.progress.Given as goal

abbrev pub invariant-loop-text : goal.invariant-loop-text
invariant-loop-text l = AreCounted (take l.text-index l.names) l.now l.listed l.visible
