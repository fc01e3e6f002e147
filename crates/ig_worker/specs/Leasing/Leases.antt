-- What a worker puts or takes away follows a lease of its task: this project's own.
use Rattle.std.specs.Prelude.{◌≡◌, ◌⊎◌, ◌≤◌, ◌<◌, ℕ, Bool, true, false, List, [], ◌∷◌, ◌++◌, map, Some, None, IsSome, Contains, is_some}
use Rattle.ig_space.specs.declared.task_id.TaskId.{TaskId}
use Rattle.ig_defs.specs.declared.queue_name.QueueName.{QueueName}
use Rattle.ig_defs.specs.declared.step.Act.{Act}
use Rattle.ig_defs.specs.declared.step.Act.TheVariants as act
use Rattle.ig_defs.specs.Files.{file_at}
use Rattle.ig_defs.specs.Own.{Moment}
use Rattle.ig_defs.specs.QueueNames.{queue_fits, task_of}
use Rattle.ig_rule.specs.QueueFiles.{Queued, Record, path_of}
use Rattle.ig_record.specs.declared.stage.Stage.{Stage}
use Rattle.ig_record.specs.Columns.{inputs_of, paths_of, removed_dir}
use Rattle.ig_record.specs.Reading.{record_in}
use Rattle.ig_record.specs.Stage.{task_count}
use Rattle.ig_queue.specs.Moves.{leased_name}
use Rattle.ig_worker.specs.declared.plan.Plan.{Plan}

-- An own step, and what the clock had answered last when it was taken.
pub record OwnStep : Type 0 where
  pub clock : ℕ
  pub moment : Moment

abbrev pub moment_of : OwnStep → Moment
moment_of step = step.moment

abbrev pub act_of : OwnStep → Act
act_of step = step.moment.act

-- The clock's answers lie between these two, and none is before an earlier one.
abbrev pub Rises : ℕ → List OwnStep → ℕ → Type 0
Rises from [] to = from ≤ to
Rises from (step ∷ steps) to = (from ≤ step.clock) × Rises step.clock steps to

-- ---- a lease
-- The step leases the task of this name, which stands, is due by the clock, and was not leased too often: its new name has the
-- clock's answer and the plan's seconds as its time, and one attempt more.
pub record IsLease (plan : Plan) (name : QueueName) (step : OwnStep) : Type 0 where
  pub fits : queue_fits name ≡ true
  pub stands : IsSome (file_at step.moment.files (path_of plan.queue (Queued name)))
  pub due : name.visible ≤ step.clock
  pub attempts : name.attempt < plan.tries
  pub moves : act_of step ≡ act.Move (path_of plan.queue (Queued name)) (path_of plan.queue (Queued (leased_name step.clock plan.lease name)))

-- One of these steps read the record with this number, and what stood there is the record of this stage.
pub record HasRead (q : List ℕ) (steps : List OwnStep) (n : ℕ) (s : Stage) : Type 0 where
  pub step : OwnStep
  pub among : Contains steps step
  pub reads : act_of step ≡ act.Read (path_of q (Record n))
  pub text : List ℕ
  pub found : file_at step.moment.files (path_of q (Record n)) ≡ Some text
  pub says : record_in n text ≡ Some s

-- ---- outputs
abbrev pub is_removal : Stage → Bool
is_removal s = is_some (removed_dir s)

-- The step puts a file at this path; of a removal, it takes away what stands there, or finds that nothing does.
abbrev pub Settles : Bool → List ℕ → OwnStep → Type 0
Settles false path step = (bytes : List ℕ) × (act_of step ≡ act.Put path bytes)
Settles true path step = (act_of step ≡ act.Remove path) ⊎ ((act_of step ≡ act.Read path) × (file_at step.moment.files path ≡ None))

-- the steps do so at these paths, in order
abbrev pub SettleAll : Bool → List (List ℕ) → List OwnStep → Type 0
SettleAll removal [] [] = Unit {0}
SettleAll removal (path ∷ paths) (step ∷ steps) = Settles removal path step × SettleAll removal paths steps
SettleAll removal paths steps = ⊥

-- ---- what follows a lease
-- The last of these steps are a lease of the task, then reads of these paths, each once and in order, and then what settles those,
-- in order. Before the lease the record with the number of the task's stage was read: it is of this stage.
pub record UnderLease (plan : Plan) (steps : List OwnStep) (id : TaskId) (s : Stage) (read settled : List (List ℕ)) : Type 0 where
  pub before : List OwnStep
  pub lease : OwnStep
  pub reads : List OwnStep
  pub settles : List OwnStep
  pub together : steps ≡ before ++ lease ∷ (reads ++ settles)
  pub name : QueueName
  pub of_task : task_of name ≡ id
  pub leases : IsLease plan name lease
  pub stage : HasRead plan.queue before id.stage s
  pub inputs : map act_of reads ≡ map act.Read read
  pub outputs : SettleAll (is_removal s) settled settles

-- The step settles a path of a task that was leased before: since then all its inputs were read, and each of its paths before this
-- one was settled, and nothing else was done.
pub record FollowsLease (plan : Plan) (earlier : List OwnStep) (step : OwnStep) : Type 0 where
  pub id : TaskId
  pub stage : Stage
  pub below : id.task < task_count stage
  pub settled : List (List ℕ)
  pub path : List ℕ
  pub left : List (List ℕ)
  pub paths : paths_of stage id.task ≡ settled ++ path ∷ left
  pub lease : UnderLease plan earlier id stage (inputs_of stage id.task) settled
  pub settles : Settles (is_removal stage) path step

-- ---- all own steps
-- a put, or a removal
abbrev pub IsWrite : Act → Type 0
IsWrite (act.Put path bytes) = Unit {0}
IsWrite (act.Remove path) = Unit {0}
IsWrite (act.Read path) = ⊥
IsWrite (act.List dir given) = ⊥
IsWrite (act.Move from to) = ⊥

-- Of the own moments of a call of a worker of this plan, while the clock answered between `from` and `to`: each put and each
-- removal follows a lease of its task.
pub record FollowLeases (plan : Plan) (from to : ℕ) (moments : List Moment) : Type 0 where
  pub steps : List OwnStep
  pub are : map moment_of steps ≡ moments
  pub clock : Rises from steps to
  pub each : (earlier : List OwnStep) (step : OwnStep) (later : List OwnStep) → steps ≡ earlier ++ step ∷ later → IsWrite (act_of step) → FollowsLease plan earlier step
