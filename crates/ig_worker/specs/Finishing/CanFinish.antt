-- Nothing keeps a worker by itself from finishing all tasks of its queue: this project's own.
use Rattle.std.specs.Prelude.{◌≡◌, ◌≤◌, ◌<◌, ℕ, true, List, [], ◌∷◌, All, length, Option, None, Some, Contains, IsSome, option_and_then, option_map}
use Rattle.std.specs.Cmp.Lexicographic.{slice_cmp}
use Rattle.std.specs.List.Sorted.{IsStrictlySortedBy}
use Rattle.std.specs.Ordering.{nat_cmp}
use Rattle.ig_space.specs.declared.task_id.TaskId.{TaskId}
use Rattle.ig_defs.specs.declared.queue_name.QueueName.{QueueName}
use Rattle.ig_defs.specs.declared.step.Step.{Step}
use Rattle.ig_defs.specs.Files.{Files}
use Rattle.ig_defs.specs.Log.{Log}
use Rattle.ig_defs.specs.Own.{steps_since}
use Rattle.ig_record.specs.declared.stage.Stage.{Stage}
use Rattle.ig_record.specs.Reading.{record_in}
use Rattle.ig_meaning.specs.Jobs.{Job, job_of, sequential}
use Rattle.ig_meaning.specs.Wants.{with_first}
use Rattle.ig_rule.specs.Facts.{Facts}
use Rattle.ig_rule.specs.QueueFiles.{Dead, Queued, Record, queue_of}
use Rattle.ig_rule.specs.Stages.{Clear, Sealed, stages_in}
use Rattle.ig_queue.specs.Candidates.{rank}
use Rattle.ig_task.specs.Facts.{stage_reader}
use Rattle.ig_worker.specs.declared.error.WorkerError.{WorkerError}
use Rattle.ig_worker.specs.declared.phase.Phase.TheVariants.{Broken}
use Rattle.ig_worker.specs.declared.plan.Plan.{Plan}
use Rattle.ig_worker.specs.declared.turn.End.{End}
use Rattle.ig_worker.specs.declared.turn.End.TheVariants.{Finished}
use Rattle.ig_worker.specs.Course.{end_at}
use Rattle.ig_worker.specs.Places.{State}

-- the stages that are recorded, by their numbers
abbrev pub stage_at : List ℕ → Files → ℕ → Option Stage
stage_at q files n = option_and_then (record_in n) (queue_of q files (Record n))

-- ---- tasks, one after the other
-- the tasks of these names in order, where the stage of each is recorded
abbrev pub jobs_named : (ℕ → Option Stage) → List QueueName → Option (List Job)
jobs_named stages [] = Some []
jobs_named stages (name ∷ names) = with_first (option_map (λ s. job_of s name.task) (stages name.stage)) (jobs_named stages names)

-- the files that their sequential run leaves; undefined where one refuses
abbrev pub sequential_named : (ℕ → Option Stage) → List QueueName → Files → Option Files
sequential_named stages names files = option_and_then (λ jobs. sequential jobs files) (jobs_named stages names)

-- ---- the tasks of a queue
-- The name stands in the queue, and is that of a task of a stage that is not under removal.
pub record IsAhead (q : List ℕ) (files : Files) (name : QueueName) : Type 0 where
  pub there : IsSome (queue_of q files (Queued name))
  pub stage : Facts
  pub is : stages_in stage_reader q files name.stage ≡ Some stage
  pub clear : Clear (stages_in stage_reader q files) name.stage stage

abbrev pub AreInOrder : List QueueName → Type 0
AreInOrder names = IsStrictlySortedBy (λ a b. slice_cmp nat_cmp (rank a) (rank b)) names

-- Every stage is sealed, and there is no dead letter. Each of the names ahead may be leased from this second on, was leased less
-- often than the plan allows, and there are no more of them than it has turns. The sequential run of their tasks is defined.
pub record CanFinish (plan : Plan) (at : ℕ) (files : Files) : Type 0 where
  pub sealed : (n : ℕ) (t : Facts) → stages_in stage_reader plan.queue files n ≡ Some t → Sealed (queue_of plan.queue files) n
  pub no_letters : (id : TaskId) → queue_of plan.queue files (Dead id) ≡ None
  pub names : List QueueName
  pub in_order : AreInOrder names
  pub only : (name : QueueName) → Contains names name → IsAhead plan.queue files name
  pub each : (name : QueueName) → IsAhead plan.queue files name → Contains names name
  pub due : All (λ name. name.visible ≤ at) names
  pub tries : All (λ name. name.attempt < plan.tries) names
  pub turns : length names ≤ plan.turns
  pub run : IsSome (sequential_named (stage_at plan.queue files) names files)

-- ---- a worker by itself
abbrev pub IsOwn : Step → Type 0
IsOwn step = step.mine ≡ true

-- each step that the log grew by is the worker's own
abbrev pub AreOwn : Log → Log → Type 0
AreOwn old new = All IsOwn (steps_since old new)

-- Where the worker ends it has finished, and it stops at no error of its own.
pub record IsOnItsWay (s : State) : Type 0 where
  pub finishes : (e : End) → end_at s.notes s.phase ≡ Some e → (tasks : ℕ) × (e ≡ Finished tasks)
  pub never_broken : (error : WorkerError) → s.phase ≡ Broken error → ⊥
