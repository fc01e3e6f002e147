-- The run of a worker: its turns, and how it stops.
use Rattle.std.specs.Prelude.{◌≡◌, ◌⊎◌, ℕ, Bool, List, [], ◌++◌, Option, None, Some, Result, Ok, Err}
use Rattle.ig_defs.specs.Causes.{Rose}
use Rattle.ig_defs.specs.Log.{Log}
use Rattle.ig_defs.specs.Files.{Files}
use Rattle.ig_defs.specs.declared.step.Act.{Act}
use Rattle.ig_defs.specs.Turns.{Idled}
use Rattle.ig_store.specs.Sink.{TakesPrefix}
use Rattle.ig_meaning.specs.Ending.{Ending, Finished, NoMemory}
use Rattle.ig_worker.specs.declared.error.WorkerError.{WorkerError}
use Rattle.ig_worker.specs.declared.error.WorkerError.TheVariants.{Failed, Memory}
use Rattle.ig_worker.specs.declared.phase.Phase.TheVariants.{Broken}
use Rattle.ig_worker.specs.declared.plan.Plan.{Plan}
use Rattle.ig_worker.specs.declared.turn.End.{End}
use Rattle.ig_worker.specs.declared.turn.Line.{Line}
use Rattle.ig_worker.specs.declared.turn.Turn.{Turn}
use Rattle.ig_worker.specs.declared.turn.Turn.TheVariants.{On, Said, Ended}
use Rattle.ig_worker.specs.Course.{Course, end_at, fresh, said_of}
use Rattle.ig_worker.specs.Lines.{end_text, line_text}
use Rattle.ig_worker.specs.Moves.{Move}
use Rattle.ig_worker.specs.Places.{State}
use Rattle.ig_worker.specs.Steps.{Stepped}
use Rattle.ig_cli.specs.declared.working.Stop.{Stop}
use Rattle.ig_cli.specs.declared.working.Stop.TheVariants as stop
use Rattle.ig_cli.specs.Report.{ending_of_worker}
use Rattle.ig_cli.specs.Worked.{SaysAtFault, SaysLines, SaysToLast, status_of_end}

-- ---- why a run stops
-- a fault of the store, or of the output, has its cause in the call
abbrev pub HasStopCause : Stop → ℕ → ℕ → ℕ → ℕ → Type 0
HasStopCause (stop.Worker Failed) store_before store_now out_before out_now = Rose store_before store_now
HasStopCause (stop.Worker error) store_before store_now out_before out_now = Unit {0}
HasStopCause stop.Output store_before store_now out_before out_now = Rose out_before out_now
HasStopCause stop.Memory store_before store_now out_before out_now = Unit {0}

-- ---- a turn: a step, and its line
-- what the output took of a line
abbrev pub TakesLine : Type 0 → Line → List ℕ → List ℕ → Result (Unit {0}) Stop → Type 0
TakesLine tells l before now (Ok done) = tells → now ≡ before ++ line_text l
TakesLine tells l before now (Err (stop.Worker error)) = ⊥
TakesLine tells l before now (Err stop.Output) = tells → TakesPrefix before (line_text l) now
TakesLine tells l before now (Err stop.Memory) = tells → now ≡ before

-- after a line, the turn goes on
abbrev pub as_turn : Result (Option End) Stop → Result (Unit {0}) Stop
as_turn (Ok end) = Ok tt
as_turn (Err e) = Err e

-- of a step's answer, what a turn gives, and what the output took
abbrev pub Answers : Type 0 → Result Turn WorkerError → List ℕ → List ℕ → Result (Option End) Stop → Type 0
Answers tells (Ok On) before now result = (result ≡ Ok None) × (tells → now ≡ before)
Answers tells (Ok (Said l)) before now result = ((end : End) → result ≡ Ok (Some end) → ⊥) × TakesLine tells l before now (as_turn result)
Answers tells (Ok (Ended end)) before now result = (result ≡ Ok (Some end)) × (tells → now ≡ before)
Answers tells (Err e) before now result = (result ≡ Err (stop.Worker e)) × (tells → now ≡ before)

pub record Turned (allows : Bool → Files → Act → Type 0) (from to : ℕ) (s : State) (old new : Log) (next : State) (out_tells : Type 0) (before now : List ℕ) (result : Result (Option End) Stop) : Type 0 where
  pub answer : Result Turn WorkerError
  pub stepped : Stepped allows from to s old new next answer
  pub answers : Answers out_tells answer before now result

-- ---- a run
-- where the worker stands when it stops so
abbrev pub StopsAt : State → Result End Stop → Type 0
StopsAt place (Ok end) = end_at place.notes place.phase ≡ Some end
StopsAt place (Err (stop.Worker Failed)) = Unit {0}
StopsAt place (Err (stop.Worker Memory)) = Unit {0}
StopsAt place (Err (stop.Worker error)) = place.phase ≡ Broken error
StopsAt place (Err stop.Output) = Unit {0}
StopsAt place (Err stop.Memory) = Unit {0}

-- what the output took of the lines of these moves, which led here
abbrev pub SaysTill : List Move → State → Result End Stop → List ℕ → List ℕ → Type 0
SaysTill ms place (Ok end) before now = SaysLines (said_of ms) before now
SaysTill ms place (Err (stop.Worker Failed)) before now = SaysAtFault ms before now
SaysTill ms place (Err (stop.Worker Memory)) before now = SaysToLast ms [] before now
SaysTill ms place (Err (stop.Worker error)) before now = SaysLines (said_of ms) before now
SaysTill ms place (Err stop.Output) before now = SaysToLast ms [] before now
SaysTill ms place (Err stop.Memory) before now = SaysToLast ms [] before now

-- The moves of a worker of this plan, till it stopped so.
pub record Ran (allows : Bool → Files → Act → Type 0) (plan : Plan) (from to : ℕ) (old new : Log) (out_tells : Type 0) (before now : List ℕ) (result : Result End Stop) : Type 0 where
  pub ms : List Move
  pub place : State
  pub last : Log
  pub course : Course allows from (fresh plan) old ms to place last
  pub rest : Idled allows last new
  pub stops : StopsAt place result
  pub said : out_tells → SaysTill ms place result before now

-- ---- how a run is concluded
-- the statuses that may come; 7 in place of others where memory for the line runs out, 9 where the output fails
abbrev pub IsStatusOfRun : Result End Stop → ℕ → Type 0
IsStatusOfRun (Ok end) status = (status ≡ status_of_end end) ⊎ ((status ≡ 7) ⊎ (status ≡ 9))
IsStatusOfRun (Err (stop.Worker Failed)) status = status ≡ 6
IsStatusOfRun (Err (stop.Worker Memory)) status = status ≡ 7
IsStatusOfRun (Err (stop.Worker error)) status = (status ≡ 5) ⊎ (status ≡ 7)
IsStatusOfRun (Err stop.Output) status = status ≡ 9
IsStatusOfRun (Err stop.Memory) status = status ≡ 7

-- the ending of a command that prints the same on standard error
abbrev pub ending_of_run : Result End Stop → Ending
ending_of_run (Ok end) = Finished
ending_of_run (Err (stop.Worker e)) = ending_of_worker e
ending_of_run (Err stop.Output) = Finished
ending_of_run (Err stop.Memory) = NoMemory

-- the line of the end is taken, or some first part of it
pub record TakesEnd (text : List ℕ) (status : ℕ) (before now : List ℕ) : Type 0 where
  pub all : ¬ (status ≡ 7) → ¬ (status ≡ 9) → now ≡ before ++ text
  pub part : TakesPrefix before text now

abbrev pub SaysEnd : Result End Stop → ℕ → List ℕ → List ℕ → Type 0
SaysEnd (Ok end) status before now = TakesEnd (end_text end) status before now
SaysEnd (Err e) status before now = now ≡ before
