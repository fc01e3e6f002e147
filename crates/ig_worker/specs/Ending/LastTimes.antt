-- The last time that a worker stood at a place of its course: the last listing of the queue, and the last of the stages.
use Rattle.std.specs.Prelude.{◌≡◌, ℕ, Bool, true, false, List, [], ◌∷◌, ◌++◌}
use Rattle.ig_defs.specs.declared.step.Act.{Act}
use Rattle.ig_defs.specs.Files.{Files}
use Rattle.ig_defs.specs.Log.{Log}
use Rattle.ig_worker.specs.declared.phase.Phase.{Phase}
use Rattle.ig_worker.specs.declared.phase.Phase.TheVariants.{Starting, Learning, Asking, Trying, Fetching, Running, Finishing, Closing, ListingDead, ListingDone, Telling, Over, Broken}
use Rattle.ig_worker.specs.declared.phase.Then.{Then}
use Rattle.ig_worker.specs.declared.phase.Then.TheVariants.{Ask, Try, Count}
use Rattle.ig_worker.specs.Course.{Course}
use Rattle.ig_worker.specs.Moves.{Move}
use Rattle.ig_worker.specs.Places.{State}

-- ---- sorts of places
-- it reads records to count the tasks that are left
abbrev pub is_count : Then → Bool
is_count Ask = false
is_count (Try names) = false
is_count Count = true

-- The worker has listed the stages once more, and leases no task again.
abbrev pub is_ending : Phase → Bool
is_ending Starting = false
is_ending (Learning unread goal) = is_count goal
is_ending Asking = false
is_ending (Trying names) = false
is_ending (Fetching name paths given names) = false
is_ending (Running name given names) = false
is_ending (Finishing name outputs names) = false
is_ending Closing = false
is_ending ListingDead = true
is_ending (ListingDone letters) = true
is_ending (Telling letters count) = true
is_ending (Over end) = true
is_ending (Broken error) = false

-- The queue was listed, and no task of it may be leased, as far as is known.
abbrev pub is_round : Phase → Bool
is_round Starting = false
is_round (Learning unread Ask) = false
is_round (Learning unread (Try names)) = true
is_round (Learning unread Count) = false
is_round Asking = false
is_round (Trying names) = false
is_round (Fetching name paths given names) = false
is_round (Running name given names) = false
is_round (Finishing name outputs names) = false
is_round Closing = true
is_round ListingDead = false
is_round (ListingDone letters) = false
is_round (Telling letters count) = false
is_round (Over end) = false
is_round (Broken error) = false

-- ---- the last time at a gate
-- each place of a course is of this sort
abbrev pub AreAll : (Phase → Bool) → State → List Move → Type 0
AreAll P s [] = P s.phase ≡ true
AreAll P s (m ∷ ms) = (P s.phase ≡ true) × AreAll P m.next ms

-- The last time that the worker stood at the gate, after which it stood only at places of this sort: a course led there, and on
-- to the end.
pub record LastAt (P : Phase → Bool) (gate : Phase) (allows : Bool → Files → Act → Type 0) (from : ℕ) (s : State) (old : Log) (ms : List Move) (to : ℕ) (next : State) (new : Log) : Type 0 where
  pub first : List Move
  pub move : Move
  pub rest : List Move
  pub together : ms ≡ first ++ move ∷ rest
  pub between : ℕ
  pub place : State
  pub mid : Log
  pub before : Course allows from s old first between place mid
  pub there : place.phase ≡ gate
  pub later : Course allows between place mid (move ∷ rest) to next new
  pub since : AreAll P move.next rest

-- The last listing of the stages: `mid` is the log as it was when it began.
abbrev pub LastListing : (Bool → Files → Act → Type 0) → ℕ → State → Log → List Move → ℕ → State → Log → Type 0
LastListing = LastAt is_ending Closing

-- The last listing of the queue: `mid` is the log as it was when it began.
abbrev pub LastRound : (Bool → Files → Act → Type 0) → ℕ → State → Log → List Move → ℕ → State → Log → Type 0
LastRound = LastAt is_round Asking
