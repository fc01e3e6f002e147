-- How many steps a worker has left at most, till it has ended.
use Rattle.std.specs.Prelude.{◌+◌, ◌*◌, ◌-◌, ◌^◌, ◌<◌, ℕ, Bool, true, false, length}
use Rattle.ig_worker.specs.declared.phase.Phase.{Phase}
use Rattle.ig_worker.specs.declared.phase.Phase.TheVariants.{Starting, Learning, Asking, Trying, Fetching, Running, Finishing, Closing, ListingDead, ListingDone, Telling, Over, Broken}
use Rattle.ig_worker.specs.declared.phase.Then.{Then}
use Rattle.ig_worker.specs.declared.phase.Then.TheVariants.{Ask, Try, Count}
use Rattle.ig_worker.specs.Places.{State}

abbrev pub is_over : Phase → Bool
is_over (Over end) = true
is_over (Broken error) = true
is_over phase = false

-- ranks, each of which leads only to lower ones, but for a try, which costs a turn
abbrev pub rank_of_then : Then → ℕ
rank_of_then Ask = 12
rank_of_then (Try names) = 6
rank_of_then Count = 3

-- a list is shorter than 2^64
abbrev pub ranked : ℕ → ℕ → ℕ
ranked rank more = rank * 2 ^ 65 + more

abbrev pub left_at : Phase → ℕ
left_at Starting = ranked 13 0
left_at (Learning unread then) = ranked (rank_of_then then) (length unread)
left_at Asking = ranked 7 0
left_at (Trying names) = ranked 5 0
left_at (Fetching name paths given names) = ranked 10 (length paths - length given)
left_at (Running name given names) = ranked 9 0
left_at (Finishing name outputs names) = ranked 8 (length outputs)
left_at Closing = ranked 4 0
left_at ListingDead = ranked 2 0
left_at (ListingDone letters) = ranked 1 (length letters + 2)
left_at (Telling letters count) = ranked 0 (length letters + 1)
left_at (Over end) = 0
left_at (Broken error) = 0

abbrev pub left_of : State → ℕ
left_of s = (s.notes.plan.turns - s.notes.tried) * 2 ^ 70 + left_at s.phase

-- lists that a place holds, and that say how much is left, are as short as a list in memory is
abbrev pub IsShort : Phase → Type 0
IsShort (Learning unread then) = length unread < 2 ^ 64
IsShort (Fetching name paths given names) = length paths < 2 ^ 64
IsShort (Finishing name outputs names) = length outputs < 2 ^ 64
IsShort (ListingDone letters) = length letters < 2 ^ 64
IsShort phase = Unit {0}
