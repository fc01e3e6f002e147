-- The tasks that a listing of the done or of the dead ones shows: this project's own.
use Rattle.std.specs.Prelude.{ℕ, ◌&&◌, if◌then◌else◌, List, Option, None, Some, drop, filter_map, take}
use Rattle.std.specs.Str.{bytes_eq}
use Rattle.ig_space.specs.declared.task_id.TaskId.{TaskId}
use Rattle.ig_defs.specs.QueueNames.{task_file, task_fits}
use Rattle.ig_queue.specs.Progress.{number}

-- the numbers at their places in a text of the form SSSS-TTTTTT.json
abbrev pub task_fields : List ℕ → TaskId
task_fields text = record { stage = number (take 4 text); task = number (take 6 (drop 5 text)) }

-- the task that this text names, if it names one
unfoldable pub task_in : List ℕ → Option TaskId
task_in text = if task_fits (task_fields text) && bytes_eq (task_file (task_fields text)) text then Some (task_fields text) else None

-- the tasks among the names that a listing gave, as they stand there
abbrev pub tasks_in : List (List ℕ) → List TaskId
tasks_in listing = filter_map task_in listing
