-- Which tasks of a stage the listings of its queue show: this project's own.
use Rattle.std.specs.Prelude.{◌≡◌, ◌⊎◌, ◌<◌, ℕ, zero, suc, Bool, true, false, List, [], ◌∷◌, ◌++◌, length, map, Option, None, Some, Contains, slice_get, codes}
use Rattle.ig_space.specs.declared.task_id.TaskId.{TaskId}
use Rattle.ig_defs.specs.declared.step.Act.{Act}
use Rattle.ig_rule.specs.QueueFiles.{QueueFile, file_name, fits, folder, named_task}
use Rattle.ig_rule.specs.Stages.{task_id}
use Rattle.ig_record.specs.declared.stage.Stage.{Stage}
use Rattle.ig_meaning.specs.QueueActs.{name_file, put_of}
use Rattle.ig_stage.specs.declared.shown.Listing.{Listing}
use Rattle.ig_stage.specs.declared.shown.Listing.TheVariants as listing

-- the directory in the queue's directory that is listed
abbrev pub listed_dir : Listing → List ℕ
listed_dir listing.Queue = codes "queue"
listed_dir listing.Dead = codes "dead"
listed_dir listing.Done = codes "done"

-- A file of a queue in the directory has the name, and is one of the names of the task.
pub record IsNameOf (dir name : List ℕ) (id : TaskId) : Type 0 where
  pub file : QueueFile
  pub fit : fits file ≡ true
  pub is_of : named_task file ≡ Some id
  pub within : folder file ≡ dir
  pub is : name ≡ file_name file

-- One of these names in the directory is the task's.
pub record IsShownIn (dir : List ℕ) (names : List (List ℕ)) (id : TaskId) : Type 0 where
  pub name : List ℕ
  pub among : Contains names name
  pub of_task : IsNameOf dir name id

-- the flag with this number is set
abbrev pub IsSet : List Bool → ℕ → Type 0
IsSet flags k = slice_get flags k ≡ Some true

-- The flags of the numbers with this property were set, and no others.
pub record Marks (P : ℕ → Type 0) (old new : List Bool) : Type 0 where
  pub same : length new ≡ length old
  pub kept : (k : ℕ) → IsSet old k → IsSet new k
  pub marked : (k : ℕ) → k < length old → P k → IsSet new k
  pub only : (k : ℕ) → IsSet new k → IsSet old k ⊎ P k

-- the tasks of stage n that these names in the directory show
abbrev pub ShowsTask : List ℕ → List (List ℕ) → ℕ → ℕ → Type 0
ShowsTask dir names n k = IsShownIn dir names (task_id n k)

-- the number, where its flag is not set
abbrev pub if_unset : Option Bool → ℕ → List ℕ
if_unset (Some false) k = k ∷ []
if_unset (Some true) k = []
if_unset None k = []

-- the numbers below n whose flags are not set, in order
abbrev pub unset : List Bool → ℕ → List ℕ
unset flags zero = []
unset flags (suc n) = unset flags n ++ if_unset (slice_get flags n) n

-- the puts of the names of these tasks
abbrev pub name_puts : List ℕ → ℕ → Stage → List ℕ → List Act
name_puts q n s tasks = map put_of (map (name_file q n s) tasks)
