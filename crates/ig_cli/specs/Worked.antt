-- What the worker of `execute` did, and what was printed of it.
use Rattle.std.specs.Prelude.{◌≡◌, ◌⊎◌, ℕ, Bool, true, List, [], ◌∷◌, ◌++◌, Option, None, Some, option_map}
use Rattle.ig_defs.specs.Answers.{Answer, Call, Shifts, WasThere}
use Rattle.ig_defs.specs.Causes.{Rose}
use Rattle.ig_defs.specs.Log.{Log, files_of}
use Rattle.ig_defs.specs.Files.{Files}
use Rattle.ig_defs.specs.declared.step.Act.{Act}
use Rattle.ig_rule.specs.Facts.{Facts}
use Rattle.ig_rule.specs.QueueFiles.{queue_of}
use Rattle.ig_rule.specs.declared.role.Role.TheVariants.{Worker}
use Rattle.ig_rule.specs.Stages.{Finished as AllDone}
use Rattle.ig_rule.specs.Stages.{stages_in}
use Rattle.ig_defs.specs.Turns.{Idled}
use Rattle.ig_store.specs.Sink.{TakesPrefix}
use Rattle.ig_meaning.specs.Lines.{fault_line, memory_text, store_text}
use Rattle.ig_task.specs.Facts.{stage_reader}
use Rattle.ig_worker.specs.declared.error.WorkerError.TheVariants.{Absent, BadRecord}
use Rattle.ig_worker.specs.declared.notes.Notes.{Notes}
use Rattle.ig_worker.specs.declared.phase.Phase.{Phase}
use Rattle.ig_worker.specs.declared.phase.Phase.TheVariants.{Broken}
use Rattle.ig_worker.specs.declared.plan.Plan.{Plan}
use Rattle.ig_worker.specs.declared.turn.End.{End}
use Rattle.ig_worker.specs.declared.turn.End.TheVariants.{Finished, Waiting, Letters, Spent}
use Rattle.ig_worker.specs.declared.turn.Line.{Line}
use Rattle.ig_worker.specs.Ending.AtEnd.{Ended as HasEnded, Finishes, Tells, Waits}
use Rattle.ig_worker.specs.Course.{Course, end_at, fresh, said_of}
use Rattle.ig_worker.specs.Lines.{end_text, lines_text}
use Rattle.ig_worker.specs.Moves.{Move}
use Rattle.ig_worker.specs.Places.{State}
use Rattle.ig_worker.specs.Ending.Standing.{AllowsFor}
use Rattle.ig_cli.specs.Report.{Ends, ending_of_worker, own_line}

-- ---- statuses
abbrev pub status_of_end : End → ℕ
status_of_end (Finished tasks) = 0
status_of_end (Waiting tasks) = 3
status_of_end (Letters count) = 4
status_of_end (Spent turns) = 8

-- the status of a worker that stands here: where it has ended, and where it has found no record
abbrev pub status_at : Notes → Phase → Option ℕ
status_at notes (Broken (Absent path)) = Some 5
status_at notes (Broken (BadRecord path member)) = Some 5
status_at notes phase = option_map status_of_end (end_at notes phase)

-- The status is that of the worker's place; or the store failed, memory ran out, or the output failed.
abbrev pub IsStatusAt : State → ℕ → Type 0
IsStatusAt place status = (Some status ≡ status_at place.notes place.phase) ⊎ ((status ≡ 6) ⊎ ((status ≡ 7) ⊎ (status ≡ 9)))

-- ---- what is printed
abbrev pub last_text : Option End → List ℕ
last_text None = []
last_text (Some end) = end_text end

-- all that a worker says of these moves, which led it here
abbrev pub text_of : List Move → State → List ℕ
text_of ms place = lines_text (said_of ms) ++ last_text (end_at place.notes place.phase)

-- without the last move
abbrev pub but_last : List Move → List Move
but_last [] = []
but_last (m ∷ []) = []
but_last (m ∷ next ∷ ms) = m ∷ but_last (next ∷ ms)

-- what the last one says
abbrev pub said_last : List Move → List Line
said_last [] = []
said_last (m ∷ []) = m.said
said_last (m ∷ next ∷ ms) = said_last (next ∷ ms)

-- these lines
abbrev pub SaysLines : List Line → List ℕ → List ℕ → Type 0
SaysLines lines before now = now ≡ before ++ lines_text lines

-- The lines of all moves but the last, whole, and some first part of what the last one says and of this text.
abbrev pub SaysToLast : List Move → List ℕ → List ℕ → List ℕ → Type 0
SaysToLast ms text before now = TakesPrefix (before ++ lines_text (said_of (but_last ms))) (lines_text (said_last ms) ++ text) now

-- of a call and what it found: it moved a file
abbrev pub MovesFile : Call → Answer → Type 0
MovesFile (Shifts from to) (WasThere there) = there ≡ true
MovesFile call answer = ⊥

-- the last own step moved a file
abbrev pub EndsByMove : List Move → Type 0
EndsByMove [] = ⊥
EndsByMove (m ∷ []) = MovesFile m.call m.answer
EndsByMove (m ∷ next ∷ ms) = EndsByMove (next ∷ ms)

-- At a fault of the store: the lines of all own steps; or these without the line of the last one, where that moved a file: its call
-- may be the one that failed.
abbrev pub SaysAtFault : List Move → List ℕ → List ℕ → Type 0
SaysAtFault ms before now = SaysLines (said_of ms) before now ⊎ (EndsByMove ms × SaysLines (said_of (but_last ms)) before now)

-- On standard output: all of it, but where the store failed, memory ran out or the output failed; and at each status the lines of
-- all moves but the last, whole, with some first part of what the last move and the end say. So a fault of the output ends it at once.
pub record HasSaid (ms : List Move) (place : State) (status : ℕ) (before now : List ℕ) : Type 0 where
  pub all : ¬ (status ≡ 6) → ¬ (status ≡ 7) → ¬ (status ≡ 9) → now ≡ before ++ text_of ms place
  pub failed : status ≡ 6 → SaysAtFault ms before now
  pub part : SaysToLast ms (last_text (end_at place.notes place.phase)) before now

-- the line of the error that has stopped it
abbrev pub complaint_at : Phase → List ℕ
complaint_at (Broken error) = own_line (Ends (ending_of_worker error))
complaint_at phase = []

-- On standard error, where its count of faults did not rise.
pub record HasWarned (place : State) (status : ℕ) (before now : List ℕ) : Type 0 where
  pub refused : status ≡ 5 → now ≡ before ++ complaint_at place.phase
  pub failed : status ≡ 6 → now ≡ before ++ fault_line store_text
  pub memory : status ≡ 7 → now ≡ before ++ fault_line memory_text
  pub none : ¬ (status ≡ 5) → ¬ (status ≡ 6) → ¬ (status ≡ 7) → now ≡ before

-- ---- all of it
-- The own steps of a worker of this plan, from its beginning to a place, and how it ended there. The clock's last answers are
-- `from` at first and `to` at last.
pub record Worked (allows : Bool → Files → Act → Type 0) (plan : Plan) (from to : ℕ) (old new : Log) (ms : List Move) (place : State) (status : ℕ) : Type 0 where
  pub last : Log
  pub course : Course allows from (fresh plan) old ms to place last
  pub rest : Idled allows last new
  pub ended : IsStatusAt place status

-- The moves and the place are those of what was printed too.
pub record HasWorked (allows : Bool → Files → Act → Type 0) (plan : Plan) (from to : ℕ) (old new : Log) (status : ℕ) (out_tells : Type 0) (out_before out_now : List ℕ) (err_tells : Type 0) (faults_before faults_now : ℕ) (err_before err_now : List ℕ) : Type 0 where
  pub ms : List Move
  pub place : State
  pub worked : Worked allows plan from to old new ms place status
  pub said : out_tells → HasSaid ms place status out_before out_now
  pub warned : err_tells → ¬ Rose faults_before faults_now → HasWarned place status err_before err_now

-- ---- in a legal log, what its end means
-- Of a worker of this plan, whose moves led it to this place and the log to `last`, in a call whose log is `new` now. Its last
-- listings, of the queue, the stages, the dead letters and the done tasks, are own ones at moments of this log.
module _ (plan : Plan) (from to : ℕ) (old new : Log) (ms : List Move) (place : State) (last : Log) where
  abbrev Listings : Type 0
  Listings = HasEnded Worker plan from old ms to place last new

  -- So many tasks are done, and each stage that was recorded when the last listing of the stages began is finished. No dead letter
  -- stood all through the last listing of those.
  pub record HasFinished : Type 0 where
    pub tasks : ℕ
    pub said : end_at place.notes place.phase ≡ Some (Finished tasks)
    pub ended : Listings
    pub means : Finishes Worker plan old ended.listing.mid (ended.listing.move ∷ ended.listing.rest) place last new ended.ending tasks
    pub all : (n : ℕ) (t : Facts) → stages_in stage_reader plan.queue (files_of ended.listing.mid) n ≡ Some t
        → AllDone (queue_of plan.queue (files_of new)) n t

  -- So many tasks were not done when the last listing of the done ones began. No dead letter stood all through the last listing of
  -- those, and no due name of a task that may be run stood all through the last listing of the queue.
  pub record HasWaited : Type 0 where
    pub tasks : ℕ
    pub said : end_at place.notes place.phase ≡ Some (Waiting tasks)
    pub ended : Listings
    pub means : Waits Worker plan old ended.listing.mid (ended.listing.move ∷ ended.listing.rest) place last new ended.ending tasks

  -- So many dead letters were told, each of which stood at a moment of the last listing of them, and among which is each that stood
  -- all through it. No due name of a task that may be run stood all through the last listing of the queue.
  pub record HasTold : Type 0 where
    pub count : ℕ
    pub said : end_at place.notes place.phase ≡ Some (Letters count)
    pub ended : Listings
    pub means : Tells Worker plan old ended.listing.mid (ended.listing.move ∷ ended.listing.rest) place last new ended.ending count

-- What the end means, by the status. No record was missing or malformed. The moves and the place are those of what was printed.
pub record EndsSo (plan : Plan) (from to : ℕ) (old new : Log) (status : ℕ) (out_tells : Type 0) (out_before out_now : List ℕ) : Type 0 where
  pub ms : List Move
  pub place : State
  pub last : Log
  pub course : Course (AllowsFor Worker plan) from (fresh plan) old ms to place last
  pub rest : Idled (AllowsFor Worker plan) last new
  pub said : out_tells → HasSaid ms place status out_before out_now
  pub no_fault : ¬ (status ≡ 5)
  pub finished : status ≡ 0 → HasFinished plan from to old new ms place last
  pub waiting : status ≡ 3 → HasWaited plan from to old new ms place last
  pub letters : status ≡ 4 → HasTold plan from to old new ms place last
