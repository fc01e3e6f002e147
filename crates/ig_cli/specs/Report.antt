-- What is printed of a command that ended, and its status.
use Rattle.std.specs.Prelude.{◌≡◌, ◌⊎◌, ◌==◌, if◌then◌else◌, ℕ, List, [], ◌∷◌, ◌++◌, Result, Ok, Err, codes, string_bytes}
use Rattle.ig_defs.specs.Causes.{Rose}
use Rattle.ig_store.specs.Sink.{TakesPrefix}
use Rattle.ig_meaning.specs.Ending.{Ending, Finished, Refuses, StoreFailed, NoMemory}
use Rattle.ig_meaning.specs.Lines.{fault_line, memory_text, queue_line, ran_line, refusal_text, store_text, words_text}
use Rattle.ig_meaning.specs.Refusal as meaning
use Rattle.ig_worker.specs.declared.error.WorkerError.{WorkerError}
use Rattle.ig_worker.specs.declared.error.WorkerError.TheVariants.{Absent, BadRecord, Failed, Memory}
use Rattle.ig_cli.specs.declared.done.Done.{Done}
use Rattle.ig_cli.specs.declared.done.Done.TheVariants.{Ran, Made}
use Rattle.ig_cli.specs.declared.lines.FaultLine.{FaultLine}
use Rattle.ig_cli.specs.declared.lines.FaultLine.TheVariants as fault
use Rattle.ig_cli.specs.declared.report.CommandError.{CommandError}
use Rattle.ig_cli.specs.declared.report.CommandError.TheVariants.{Words, Local}
use Rattle.ig_stage.specs.declared.enqueuing.Made as queue
use Rattle.ig_stage.specs.declared.enqueuing.Made.TheVariants.{New, Continued}
use Rattle.ig_stage.specs.declared.local.RanStage.{RanStage}
use Rattle.ig_stage.specs.Running.{ending_of_local}

-- the words were no command's, or a command ended so
pub data Ended : Type 0 where
  NotWords : Ended
  Ends : (ending : Ending) → Ended

abbrev pub ended_of_error : CommandError → Ended
ended_of_error Words = NotWords
ended_of_error (Local e) = Ends (ending_of_local e)

abbrev pub ended_of : Result Done CommandError → Ended
ended_of (Ok done) = Ends Finished
ended_of (Err e) = ended_of_error e

-- the ending of a command that a worker's error ends
abbrev pub ending_of_worker : WorkerError → Ending
ending_of_worker (Absent path) = Refuses (meaning.Missing path)
ending_of_worker (BadRecord path member) = Refuses (meaning.BadRecord path member)
ending_of_worker Failed = StoreFailed
ending_of_worker Memory = NoMemory

-- the statuses that may come; 7 in place of 0 or 5 where memory for the line runs out, 9 where the output failed
abbrev pub IsStatusOf : Ended → ℕ → Type 0
IsStatusOf NotWords status = status ≡ 2
IsStatusOf (Ends Finished) status = (status ≡ 0) ⊎ ((status ≡ 7) ⊎ (status ≡ 9))
IsStatusOf (Ends (Refuses r)) status = (status ≡ 5) ⊎ (status ≡ 7)
IsStatusOf (Ends StoreFailed) status = status ≡ 6
IsStatusOf (Ends NoMemory) status = status ≡ 7

-- on standard error, where memory for it suffices
abbrev pub own_line : Ended → List ℕ
own_line NotWords = fault_line words_text
own_line (Ends Finished) = []
own_line (Ends (Refuses r)) = fault_line (refusal_text r)
own_line (Ends StoreFailed) = fault_line store_text
own_line (Ends NoMemory) = fault_line memory_text

-- on standard error, at this status
abbrev pub err_line : Ended → ℕ → List ℕ
err_line ended status = if status == 7 then fault_line memory_text else own_line ended

-- a line for each stage that was run
abbrev pub ran_text : List RanStage → List ℕ
ran_text [] = []
ran_text (ran ∷ rest) = ran_line ran.kind ran.tasks ++ ran_text rest

-- the line of the stage that was made in a queue
abbrev pub made_text : queue.Made → List ℕ
made_text (New stage kind tasks) = queue_line (codes "made") stage kind tasks
made_text (Continued stage kind tasks) = queue_line (codes "continued") stage kind tasks

abbrev pub done_text : Done → List ℕ
done_text (Ran ran) = ran_text ran
done_text (Made made) = made_text made

-- on standard output, once all was done
abbrev pub out_line : Result Done CommandError → List ℕ
out_line (Ok done) = done_text done
out_line (Err e) = []

-- At status 0 the line was taken, at 9 some first part of it, else nothing.
pub record HasTaken (line : List ℕ) (status : ℕ) (before now : List ℕ) : Type 0 where
  pub all : status ≡ 0 → now ≡ before ++ line
  pub part : status ≡ 9 → TakesPrefix before line now
  pub none : ¬ (status ≡ 0) → ¬ (status ≡ 9) → now ≡ before

-- The line was taken; where the sink failed, some first part of it.
pub record HasTold (line : List ℕ) (faults_before faults_now : ℕ) (before now : List ℕ) : Type 0 where
  pub all : ¬ Rose faults_before faults_now → now ≡ before ++ line
  pub part : TakesPrefix before line now

-- ---- the lines of faults
abbrev pub shown_line : FaultLine → List ℕ
shown_line (fault.Refused line) = string_bytes line
shown_line fault.Words = fault_line words_text
shown_line fault.Store = fault_line store_text
shown_line fault.Memory = fault_line memory_text

abbrev pub status_of : FaultLine → ℕ
status_of (fault.Refused line) = 5
status_of fault.Words = 2
status_of fault.Store = 6
status_of fault.Memory = 7

-- the line and the status are those of a command that ended so
pub record Tells (ended : Ended) (told : FaultLine) : Type 0 where
  pub status : IsStatusOf ended (status_of told)
  pub line : shown_line told ≡ err_line ended (status_of told)
