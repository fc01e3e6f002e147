-- What the end of a worker means of the files of its queue.
use Rattle.std.specs.Prelude.{◌≡◌, ◌≢◌, ◌≤◌, ◌<◌, ℕ, Bool, true, false, List, [], ◌∷◌, length, map, None, Contains, IsSome, codes}
use Rattle.ig_space.specs.Path.{joined}
use Rattle.ig_space.specs.declared.task_id.TaskId.{TaskId}
use Rattle.ig_defs.specs.declared.queue_name.QueueName.{QueueName}
use Rattle.ig_defs.specs.declared.step.Act.{Act}
use Rattle.ig_defs.specs.declared.step.Step.{Step}
use Rattle.ig_defs.specs.Files.{Files}
use Rattle.ig_defs.specs.Log.{Log, files_of}
use Rattle.ig_defs.specs.Names.{StandsOnce, StandsThroughout}
use Rattle.ig_defs.specs.QueueNames.{queue_file, queue_fits, task_file, task_fits}
use Rattle.ig_defs.specs.Turns.{IsPrefix, ListedIn}
use Rattle.ig_meaning.specs.QueueMaking.{stages_dir}
use Rattle.ig_rule.specs.Facts.{Facts}
use Rattle.ig_rule.specs.QueueFiles.{Done, queue_of}
use Rattle.ig_rule.specs.declared.role.Role.{Role}
use Rattle.ig_rule.specs.Stages.{Clear, Finished, stages_in}
use Rattle.ig_task.specs.Facts.{stage_reader}
use Rattle.ig_worker.specs.declared.notes.Notes.{Notes}
use Rattle.ig_worker.specs.declared.phase.Phase.TheVariants.{ListingDead, ListingDone}
use Rattle.ig_worker.specs.declared.plan.Plan.{Plan}
use Rattle.ig_worker.specs.declared.turn.Line.{Line}
use Rattle.ig_worker.specs.declared.turn.Line.TheVariants as line
use Rattle.ig_worker.specs.Course.{fresh, said_of}
use Rattle.ig_worker.specs.Ending.LastTimes.{LastListing, LastRound}
use Rattle.ig_worker.specs.Moves.{Move}
use Rattle.ig_worker.specs.Places.{State, counted, stands}
use Rattle.ig_worker.specs.Stages.{tasks_listed}
use Rattle.ig_worker.specs.Ending.Standing.{AllowsFor, IsKnown, IsRecorded, Lasts, Stays}

-- ---- the last listings
abbrev pub queue_dir : Plan → List ℕ
queue_dir plan = joined plan.queue (codes "queue")

abbrev pub dead_dir : Plan → List ℕ
dead_dir plan = joined plan.queue (codes "dead")

abbrev pub done_dir : Plan → List ℕ
done_dir plan = joined plan.queue (codes "done")

-- Of a call whose log was `old` at first and is `new` now: an own listing of the directory that began at the moment `from`.
pub record Listing (allows : Bool → Files → Act → Type 0) (old from new : Log) (dir : List ℕ) : Type 0 where
  pub to : Log
  pub names : List (List ℕ)
  pub others : List Step
  pub is : ListedIn allows old from to new dir names others

-- In the call's log the queue was listed from the moment `queues` on, and this ended before the moment `mid`. No name that stood
-- all through that listing, and was due by the clock's answer `now`, is of a task of a stage that is recorded and not under
-- removal at `mid`.
pub record NoneOpen (role : Role) (plan : Plan) (now : ℕ) (old queues mid new : Log) : Type 0 where
  pub listing : Listing (AllowsFor role plan) old queues new (queue_dir plan)
  pub later : IsPrefix listing.to mid
  pub none : (name : QueueName) (t : Facts) → queue_fits name ≡ true → name.visible ≤ now
      → StandsThroughout (files_of queues) listing.others (queue_dir plan) (queue_file name)
      → IsRecorded plan mid name.stage t → name.task < t.tasks
      → Clear (stages_in stage_reader plan.queue (files_of mid)) name.stage t → ⊥

-- In the call's log the stages were listed for the last time from the moment `mid` on. Then their records were read, so that each
-- is known; then the dead letters were listed, and right after them the done tasks, which ended at the moment `last`. The dead
-- letters are all that the worker says of these moves.
pub record Ending (role : Role) (plan : Plan) (old mid : Log) (ms : List Move) (next : State) (last new : Log) : Type 0 where
  pub stages : Listing (AllowsFor role plan) old mid new (stages_dir plan.queue)
  pub deads : Log
  pub dones : Log
  pub dead_names : List (List ℕ)
  pub dead_others : List Step
  pub later : IsPrefix stages.to deads
  pub lists_dead : ListedIn (AllowsFor role plan) old deads dones new (dead_dir plan) dead_names dead_others
  pub done_names : List (List ℕ)
  pub done_others : List Step
  pub lists_done : ListedIn (AllowsFor role plan) old dones last new (done_dir plan) done_names done_others
  pub notes : Notes
  pub dead_from : ℕ
  pub done_from : ℕ
  pub end_from : ℕ
  pub before_deads : Stays plan dead_from (stands notes ListingDead) deads
  pub before_dones : Stays plan done_from (stands notes (ListingDone (tasks_listed dead_names))) dones
  pub ended : Stays plan end_from (stands notes (counted notes.known (tasks_listed dead_names) done_names)) last
  pub lasts : Lasts plan.queue (files_of mid) (files_of deads)
  pub all : (n : ℕ) (t : Facts) → IsRecorded plan mid n t → IsKnown notes.known n
  pub is : next ≡ stands notes (counted notes.known (tasks_listed dead_names) done_names)
  pub says : said_of ms ≡ map line.Letter (tasks_listed dead_names)

-- the line is of a dead letter
abbrev pub is_letter : Line → Bool
is_letter (line.Letter id) = true
is_letter l = false

-- None of these lines is of a dead letter.
abbrev pub TellsNone : List Line → Type 0
TellsNone [] = Unit {0}
TellsNone (l ∷ lines) = (is_letter l ≡ false) × TellsNone lines

-- In a call whose log is `new` now, a fresh worker listed the queue for the last time, once the clock had answered what this move
-- notes, and none of its tasks could be leased; then it listed the stages for the last time, and the dead letters, and the done
-- tasks. It told no dead letter before that.
pub record Ended (role : Role) (plan : Plan) (from : ℕ) (old : Log) (ms : List Move) (to : ℕ) (next : State) (last new : Log) : Type 0 where
  pub listing : LastListing (AllowsFor role plan) from (fresh plan) old ms to next last
  pub round : LastRound (AllowsFor role plan) from (fresh plan) old listing.first listing.between listing.place listing.mid
  pub none_open : NoneOpen role plan round.move.next.notes.at old round.mid listing.mid new
  pub ending : Ending role plan old listing.mid (listing.move ∷ listing.rest) next last new
  pub told_none : TellsNone (said_of listing.first)

-- ---- tasks
-- No task comes twice.
abbrev pub AreDifferent : List TaskId → Type 0
AreDifferent [] = Unit {0}
AreDifferent (id ∷ ids) = ((other : TaskId) → Contains ids other → id ≢ other) × AreDifferent ids

-- A task of a stage that is recorded in this log, which has its done name there.
pub record IsDone (plan : Plan) (log : Log) (id : TaskId) : Type 0 where
  pub stage : Facts
  pub is : IsRecorded plan log id.stage stage
  pub below : id.task < stage.tasks
  pub done : IsSome (queue_of plan.queue (files_of log) (Done id))

-- So many different tasks are done.
pub record AreDone (plan : Plan) (log : Log) (n : ℕ) : Type 0 where
  pub tasks : List TaskId
  pub count : length tasks ≡ n
  pub different : AreDifferent tasks
  pub each : (id : TaskId) → Contains tasks id → IsDone plan log id

-- A task of a stage that is recorded in this log, which has no done name there.
pub record IsNotDone (plan : Plan) (log : Log) (id : TaskId) : Type 0 where
  pub stage : Facts
  pub is : IsRecorded plan log id.stage stage
  pub below : id.task < stage.tasks
  pub not_done : queue_of plan.queue (files_of log) (Done id) ≡ None

-- So many different tasks aren't done.
pub record AreNotDone (plan : Plan) (log : Log) (n : ℕ) : Type 0 where
  pub tasks : List TaskId
  pub count : length tasks ≡ n
  pub different : AreDifferent tasks
  pub each : (id : TaskId) → Contains tasks id → IsNotDone plan log id

-- ---- what an end means
-- No dead letter stood all through a listing of them that began at this moment, while others took these steps.
abbrev pub NoneIsDead : Plan → Log → List Step → Type 0
NoneIsDead plan deads others =
    (id : TaskId) → task_fits id ≡ true → StandsThroughout (files_of deads) others (dead_dir plan) (task_file id) → ⊥

module _ (role : Role) (plan : Plan) (old mid : Log) (ms : List Move) (next : State) (last new : Log) (e : Ending role plan old mid ms next last new) where
  -- So many different tasks are done, and so is each task of each stage that was recorded at the moment `mid`; and no dead letter
  -- stood all through the last listing of those.
  pub record Finishes (n : ℕ) : Type 0 where
    pub tasks : AreDone plan last n
    pub all : (k : ℕ) (t : Facts) → IsRecorded plan mid k t → Finished (queue_of plan.queue (files_of last)) k t
    pub no_dead : NoneIsDead plan e.deads e.dead_others

  -- So many different tasks of recorded stages were not done when the last listing of the done tasks began, and no dead letter
  -- stood all through the last listing of those.
  pub record Waits (n : ℕ) : Type 0 where
    pub some : 1 ≤ n
    pub tasks : AreNotDone plan e.dones n
    pub no_dead : NoneIsDead plan e.deads e.dead_others

  -- It tells so many dead letters: each of them stood at a moment of the last listing of them, and each that stood all through it
  -- is among them.
  pub record Tells (count : ℕ) : Type 0 where
    pub some : 1 ≤ count
    pub letters : List TaskId
    pub long : length letters ≡ count
    pub said : said_of ms ≡ map line.Letter letters
    pub stood : (id : TaskId) → Contains letters id → StandsOnce (files_of e.deads) e.dead_others (dead_dir plan) (task_file id)
    pub each : (id : TaskId) → task_fits id ≡ true
        → StandsThroughout (files_of e.deads) e.dead_others (dead_dir plan) (task_file id) → Contains letters id
