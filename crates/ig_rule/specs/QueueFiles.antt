-- The files of a queue: this project's own.
use Rattle.std.specs.Prelude.{◌≡◌, ℕ, Bool, if◌then◌else◌, List, Option, None, Some, codes}
use Rattle.ig_space.specs.Path.{joined}
use Rattle.ig_space.specs.declared.task_id.TaskId.{TaskId}
use Rattle.ig_defs.specs.declared.queue_name.QueueName.{QueueName}
use Rattle.ig_defs.specs.Files.{Files, file_at}
use Rattle.ig_defs.specs.QueueNames.{stage_file, stage_fits, task_file, task_fits, queue_file, queue_fits, task_of}

-- A file of a queue: the record of a stage, the seal of a stage, or one of the three names of a task: it is queued, a dead
-- letter, or done.
pub data QueueFile : Type 0 where
  Record : (stage : ℕ) → QueueFile
  Seal : (stage : ℕ) → QueueFile
  Queued : (name : QueueName) → QueueFile
  Dead : (task : TaskId) → QueueFile
  Done : (task : TaskId) → QueueFile

-- Each of its numbers has its places.
abbrev pub fits : QueueFile → Bool
fits (Record stage) = stage_fits stage
fits (Seal stage) = stage_fits stage
fits (Queued name) = queue_fits name
fits (Dead task) = task_fits task
fits (Done task) = task_fits task

-- the directory in the queue's directory that holds files of its sort
unfoldable pub folder : QueueFile → List ℕ
folder (Record stage) = codes "stages"
folder (Seal stage) = codes "seals"
folder (Queued name) = codes "queue"
folder (Dead task) = codes "dead"
folder (Done task) = codes "done"

-- its name there
unfoldable pub file_name : QueueFile → List ℕ
file_name (Record stage) = stage_file stage
file_name (Seal stage) = stage_file stage
file_name (Queued name) = queue_file name
file_name (Dead task) = task_file task
file_name (Done task) = task_file task

-- its path, for a queue with this directory
abbrev pub path_of : List ℕ → QueueFile → List ℕ
path_of dir x = joined dir (joined (folder x) (file_name x))

-- the path is no file's of the queue
abbrev pub IsApartFrom : List ℕ → List ℕ → Type 0
IsApartFrom dir path = (x : QueueFile) → path ≡ path_of dir x → ⊥

-- the task of which it is a name
abbrev pub named_task : QueueFile → Option TaskId
named_task (Record stage) = None
named_task (Seal stage) = None
named_task (Queued name) = Some (task_of name)
named_task (Dead task) = Some task
named_task (Done task) = Some task

-- A queue: what each of its files holds, if it is there.
abbrev pub Queue : Type 0
Queue = QueueFile → Option (List ℕ)

-- the queue with this directory
abbrev pub queue_of : List ℕ → Files → Queue
queue_of dir files x = if fits x then file_at files (path_of dir x) else None
