-- What the parts of a worker's run come to.
use Rattle.std.specs.Prelude.{◌≡◌, Bool, List, [], ◌∷◌, Option, is_some, Result, Ok, Err}
use Rattle.ig_defs.specs.declared.error.StoreError.{StoreError}
use Rattle.ig_defs.specs.declared.queue_name.QueueName.{QueueName}
use Rattle.ig_defs.specs.declared.step.Act.{Act}
use Rattle.ig_defs.specs.Files.{Files}
use Rattle.ig_defs.specs.Log.{Log}
use Rattle.ig_defs.specs.QueueNames.{task_of}
use Rattle.ig_defs.specs.Answers.{Answer, Answered, Call, IsAnswered, Shifts, WasThere}
use Rattle.ig_cutout.specs.declared.types.Output.{Output}
use Rattle.ig_worker.specs.declared.notes.Notes.{Notes}
use Rattle.ig_worker.specs.declared.turn.Line.TheVariants as line
use Rattle.ig_worker.specs.declared.turn.Why.{Why}
use Rattle.ig_worker.specs.declared.turn.Why.TheVariants as why
use Rattle.ig_worker.specs.Moves.{Move, Makes, Outcome, Refuses, by_presence, dead_path, leased, moves, queued_path, said_if}
use Rattle.ig_worker.specs.Places.{leased_or_gone, next_try, stands}

-- ---- calls
-- by the result: the call was made, whatever it found; one that failed may have been made
abbrev pub WasCalled : (Bool → Files → Act → Type 0) → Log → Log → Call → Result (Unit {0}) StoreError → Type 0
WasCalled allows old new call (Ok done) = (answer : Answer) × IsAnswered allows old new call answer
WasCalled allows old new call (Err e) = Answered allows old new call (Err e)

-- the name of a lease, or that there is none, as an answer
abbrev pub lease_answer : Option QueueName → Answer
lease_answer given = WasThere (is_some given)

-- ---- moves of a name that was counted as tried
abbrev pub BuriesSpent : Notes → QueueName → List QueueName → Move → Type 0
BuriesSpent notes name names m = (there : Bool) × (m ≡ moves (Shifts (queued_path notes name) (dead_path notes name)) (WasThere there) (stands notes (next_try names)) (said_if there (line.Buried (task_of name) (why.Tries name.attempt))))

abbrev pub TakesLease : Notes → QueueName → List QueueName → Move → Type 0
TakesLease notes name names m = (there : Bool) × (m ≡ moves (Shifts (queued_path notes name) (queued_path notes (leased notes notes.at name))) (WasThere there) (stands notes (leased_or_gone there notes.known (leased notes notes.at name) names)) [])

-- a task that refuses is buried, unless its lease was over
abbrev pub BuriesRefused : Notes → QueueName → Why → List QueueName → Move → Type 0
BuriesRefused notes name cause names m = (there : Bool) × (m ≡ moves (Shifts (queued_path notes name) (dead_path notes name)) (WasThere there) (stands notes (next_try names)) (by_presence there (line.Buried (task_of name) cause) (line.Late (task_of name)) ∷ []))

-- ---- runs
abbrev pub outcome_of : Result (List Output) Why → Outcome
outcome_of (Ok outputs) = Makes outputs
outcome_of (Err cause) = Refuses cause
