-- The number is that of the bytes so far.
use Rattle.ig_queue.proofs.Numbers.{ReadSoFar}
use Rattle.ig_queue.proofs.digits.number_of.Given as goal

abbrev pub invariant-loop-c : goal.invariant-loop-c
invariant-loop-c l = ReadSoFar l.text l.c-index l.number
