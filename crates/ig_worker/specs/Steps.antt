-- What a step of a worker does.
use Rattle.std.specs.Prelude.{◌≡◌, ◌⊎◌, ℕ, Bool, true, false, List, [], ◌∷◌, Result, Ok, Err}
use Rattle.ig_defs.specs.declared.step.Act.{Act}
use Rattle.ig_defs.specs.Files.{Files}
use Rattle.ig_defs.specs.Log.{Log}
use Rattle.ig_defs.specs.Answers.{IsAnswered, IsChange}
use Rattle.ig_defs.specs.Turns.{Idled}
use Rattle.ig_worker.specs.declared.error.WorkerError.{WorkerError}
use Rattle.ig_worker.specs.declared.error.WorkerError.TheVariants.{Failed, Memory}
use Rattle.ig_worker.specs.declared.notes.Notes.{Notes}
use Rattle.ig_worker.specs.declared.phase.Phase.{Phase}
use Rattle.ig_worker.specs.declared.phase.Phase.TheVariants.{Trying, Telling, Over, Broken}
use Rattle.ig_worker.specs.declared.turn.End.TheVariants as end
use Rattle.ig_worker.specs.declared.turn.Line.{Line}
use Rattle.ig_worker.specs.declared.turn.Line.TheVariants as line
use Rattle.ig_worker.specs.declared.turn.Turn.{Turn}
use Rattle.ig_worker.specs.declared.turn.Turn.TheVariants.{On, Said, Ended}
use Rattle.ig_worker.specs.Moves.{Move, Leads}
use Rattle.ig_worker.specs.Places.{State, stands}

-- a move of this sort was made
pub record Made (allows : Bool → Files → Act → Type 0) (old new : Log) (sort : Move → Type 0) (m : Move) : Type 0 where
  pub answered : IsAnswered allows old new m.call m.answer
  pub leads : sort m

-- The log grew by steps of others and then by the own act of this move, which the worker's place allows.
abbrev pub Called : (Bool → Files → Act → Type 0) → ℕ → ℕ → State → Log → Log → Move → Type 0
Called allows from to s old new m = Made allows old new (Leads from to s.notes s.phase) m

-- ---- answers
abbrev pub turn_at : Phase → Result Turn WorkerError
turn_at (Over end) = Ok (Ended end)
turn_at (Broken error) = Err error
turn_at phase = Ok On

-- what a step answers, by what it has to say and where the worker stands then: the first of its lines
abbrev pub answer_of : List Line → Phase → Result Turn WorkerError
answer_of [] phase = turn_at phase
answer_of (l ∷ lines) phase = Ok (Said l)

-- an end or an error
abbrev pub is_last : Result Turn WorkerError → Bool
is_last (Ok On) = false
is_last (Ok (Said l)) = false
is_last (Ok (Ended end)) = true
is_last (Err e) = true

-- want of memory, or a fault of the store
abbrev pub IsStop : WorkerError → Type 0
IsStop Failed = Unit {0}
IsStop Memory = Unit {0}
IsStop error = ⊥

-- ---- steps without a call
abbrev pub Rests : Notes → Phase → State → Result Turn WorkerError → Type 0
Rests notes (Trying names) next result = (notes.tried ≡ notes.plan.turns) × (next ≡ stands notes (Over (end.Spent notes.plan.turns))) × (result ≡ Ok (Ended (end.Spent notes.plan.turns)))
Rests notes (Telling (id ∷ letters) count) next result = (next ≡ stands notes (Telling letters count)) × (result ≡ Ok (Said (line.Letter id)))
Rests notes (Telling [] count) next result = (next ≡ stands notes (Over (end.Letters count))) × (result ≡ Ok (Ended (end.Letters count)))
Rests notes (Over end) next result = (next ≡ stands notes (Over end)) × (result ≡ Ok (Ended end))
Rests notes (Broken error) next result = (next ≡ stands notes (Broken error)) × ((result ≡ Err error) ⊎ (result ≡ Err Memory))
Rests notes phase next result = ⊥

-- ---- a step
-- The worker has stopped at an error, with its plan kept. Want of memory for the error itself is one too.
pub record IsStopped (s next : State) (e : WorkerError) : Type 0 where
  pub plan : next.notes.plan ≡ s.notes.plan
  pub kept : WorkerError
  pub is : next.phase ≡ Broken kept
  pub error : (kept ≡ e) ⊎ (kept ≡ Memory)

-- whether a step from this place may make a call
abbrev pub may_call : Phase → Bool
may_call (Telling letters count) = false
may_call (Over end) = false
may_call (Broken error) = false
may_call phase = true

-- Of an error: the record that was read isn't there, or is none; or the store failed in a call, which was not made, or was made all
-- the same and changed the files; or memory ran out, before the call or after it.
abbrev pub StopsBy : (Bool → Files → Act → Type 0) → ℕ → ℕ → State → Log → Log → WorkerError → Type 0
StopsBy allows from to s old new Failed = (may_call s.phase ≡ true) × (Idled allows old new ⊎ ((m : Move) × Called allows from to s old new m × IsChange m.call m.answer))
StopsBy allows from to s old new Memory = Idled allows old new ⊎ ((m : Move) × Called allows from to s old new m)
StopsBy allows from to s old new error = (m : Move) × Called allows from to s old new m × (m.next ≡ stands s.notes (Broken error))

-- What one step does: it makes a call, or it needs none, or it stops at an error.
pub data Stepped (allows : Bool → Files → Act → Type 0) (from to : ℕ) (s : State) (old new : Log) (next : State) (result : Result Turn WorkerError) : Type 0 where
  calls : (m : Move) → Called allows from to s old new m → next ≡ m.next → (turn : Turn) → result ≡ Ok turn → answer_of m.said m.next.phase ≡ Ok turn → Stepped allows from to s old new next result
  rests : new ≡ old → Rests s.notes s.phase next result → Stepped allows from to s old new next result
  stops : (e : WorkerError) → result ≡ Err e → StopsBy allows from to s old new e → IsStopped s next e → Stepped allows from to s old new next result
