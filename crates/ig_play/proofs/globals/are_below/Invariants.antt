-- The classes so far are numbers of nodes.
use Rattle.std.proofs.Common.{ℕ, ◌<◌, length, get_or}
use Rattle.ig_play.proofs.globals.are_below.Given as goal

abbrev pub invariant-loop-place : goal.invariant-loop-place
invariant-loop-place l = (i : ℕ) → i < l.place → get_or l.classes i 0 < length l.classes
