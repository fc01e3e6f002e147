-- A stage that is recorded and not sealed, and what its maker does to it: this project's own.
use Rattle.std.specs.Prelude.{◌≡◌, ◌<◌, ℕ, Bool, List, None, Some}
use Rattle.ig_space.specs.declared.task_id.TaskId.{TaskId}
use Rattle.ig_defs.specs.declared.step.Act.{Act}
use Rattle.ig_defs.specs.Files.{Files, file_at}
use Rattle.ig_defs.specs.Log.{Log, files_of}
use Rattle.ig_defs.specs.Own.{Moment}
use Rattle.ig_rule.specs.QueueFiles.{Seal, queue_of}
use Rattle.ig_rule.specs.Rule.{IsLast}
use Rattle.ig_rule.specs.Sound.{Sound, Legal}
use Rattle.ig_rule.specs.Stages.{Named, stages_in, task_id}
use Rattle.ig_rule.specs.Went.{Went}
use Rattle.ig_rule.specs.declared.role.Role.TheVariants.{Maker}
use Rattle.ig_record.specs.declared.stage.InfoFile.{InfoFile}
use Rattle.ig_record.specs.declared.stage.Stage.{Stage}
use Rattle.ig_record.specs.Stage.{task_count}
use Rattle.ig_meaning.specs.QueueActs.{acts_of}
use Rattle.ig_task.specs.Facts.{facts_of, stage_reader}
use Rattle.ig_task.specs.declared.pipeline.Pipeline.{Pipeline}

-- the rule of a maker in this queue
abbrev pub maker_rule : List ℕ → Pipeline
maker_rule q = record { queue = Some q; role = Maker }

-- The own acts among the steps that the log grew by are these.
pub record Does (allows : Bool → Files → Act → Type 0) (old new : Log) (acts : List Act) : Type 0 where
  pub ms : List Moment
  pub went : Went allows old new ms
  pub are : acts_of ms ≡ acts

-- The files of the queue are sound, and stage n, which is s, is the last one recorded, and not sealed.
pub record IsOpen (q : List ℕ) (n : ℕ) (s : Stage) (files : Files) : Type 0 where
  pub sound : Sound stage_reader q files
  pub last : IsLast (stages_in stage_reader q files) (queue_of q files) n (facts_of n s)
  pub unsealed : queue_of q files (Seal n) ≡ None

-- its info, if it has one, stands
abbrev pub HasInfo : Stage → Files → Type 0
HasInfo s files = (info : InfoFile) → s.info ≡ Some info → file_at files info.path ≡ Some info.text

-- each of its tasks has a name
abbrev pub AllNamed : List ℕ → ℕ → Stage → Files → Type 0
AllNamed q n s files = (k : ℕ) → k < task_count s → Named (queue_of q files) (task_id n k)

-- A maker works in this queue, whose log is legal, and its stage is open.
pub record Makes (rule : Pipeline) (q : List ℕ) (n : ℕ) (s : Stage) (log : Log) : Type 0 where
  pub is : rule ≡ maker_rule q
  pub legal : Legal stage_reader q log
  pub is_open : IsOpen q n s (files_of log)

-- The log is legal and the stage is open still, each task that had a name has one, and its info stands if it did.
pub record StaysOpen (q : List ℕ) (n : ℕ) (s : Stage) (old new : Log) : Type 0 where
  pub legal : Legal stage_reader q new
  pub is_open : IsOpen q n s (files_of new)
  pub named : (id : TaskId) → Named (queue_of q (files_of old)) id → Named (queue_of q (files_of new)) id
  pub info : HasInfo s (files_of old) → HasInfo s (files_of new)

-- Some own acts are among the steps that the log grew by.
pub record DoesSome (allows : Bool → Files → Act → Type 0) (old new : Log) : Type 0 where
  pub ms : List Moment
  pub went : Went allows old new ms
