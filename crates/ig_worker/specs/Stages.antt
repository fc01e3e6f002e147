-- The stages that a worker knows, and which of their tasks may be run: this project's own.
use Rattle.std.specs.Prelude.{ℕ, zero, suc, ◌+◌, ◌==◌, ◌&&◌, ◌||◌, not, nat_lt, Bool, true, false, if◌then◌else◌, List, [], ◌∷◌, filter, Option, None, Some, is_some}
use Rattle.std.specs.List.{list_any}
use Rattle.std.specs.Str.{bytes_eq}
use Rattle.ig_space.specs.declared.task_id.TaskId.{TaskId}
use Rattle.ig_defs.specs.declared.queue_name.QueueName.{QueueName}
use Rattle.ig_defs.specs.QueueNames.{task_file}
use Rattle.ig_layer.specs.Faults.{first_of}
use Rattle.ig_rule.specs.Stages.{task_id}
use Rattle.ig_record.specs.declared.stage.Stage.{Stage}
use Rattle.ig_record.specs.Columns.{output_dirs, removed_dir}
use Rattle.ig_record.specs.Stage.{task_count}
use Rattle.ig_meaning.specs.QueueMaking.{stage_named}

-- the stages that it knows, each with its number, in order
abbrev pub Known : Type 0
Known = List (ℕ × Stage)

abbrev pub stage_in : Known → ℕ → Option Stage
stage_in [] n = None
stage_in (r ∷ rest) n = if r.0 == n then Some r.1 else stage_in rest n

-- with this stage too
abbrev pub with_stage : ℕ → Stage → Known → Known
with_stage n s [] = (n, s) ∷ []
with_stage n s (r ∷ rest) = if nat_lt n r.0 then (n, s) ∷ r ∷ rest else (if r.0 == n then (n, s) ∷ rest else r ∷ with_stage n s rest)

-- ---- which tasks may be run
abbrev pub is_dir : Option (List ℕ) → List ℕ → Bool
is_dir None dir = false
is_dir (Some removed) dir = bytes_eq removed dir

-- the stage is a removal other than that of number n, and removes the directory
abbrev pub removes_dir : ℕ → List ℕ → ℕ × Stage → Bool
removes_dir n dir r = not (r.0 == n) && is_dir (removed_dir r.1) dir

-- and removes one of these
abbrev pub removes_among : ℕ → List (List ℕ) → ℕ × Stage → Bool
removes_among n dirs r = list_any (λ dir. removes_dir n dir r) dirs

abbrev pub is_removed : Known → ℕ → List ℕ → Bool
is_removed known n dir = list_any (removes_dir n dir) known

-- stage n is under removal, as far as is known
abbrev pub is_under_removal : Known → ℕ → Stage → Bool
is_under_removal known n s = is_removed known n s.source.dir || list_any (is_removed known n) (output_dirs s)

abbrev pub tasks_by : Known → ℕ → Option Stage → ℕ
tasks_by known n None = 0
tasks_by known n (Some s) = if is_under_removal known n s then 0 else task_count s

-- how many tasks of stage n may be run: none where it is not known, or is under removal
abbrev pub open_tasks : Known → ℕ → ℕ
open_tasks known n = tasks_by known n (stage_in known n)

abbrev pub may_run : Known → QueueName → Bool
may_run known name = nat_lt name.task (open_tasks known name.stage)

abbrev pub open_names : Known → List QueueName → List QueueName
open_names known names = filter (may_run known) names

-- ---- which records are still to be read
abbrev pub with_unknown : Known → Option ℕ → List ℕ → List ℕ
with_unknown known None rest = rest
with_unknown known (Some n) rest = if is_some (stage_in known n) then rest else n ∷ rest

-- of the stages that a listing shows, those that are not known
abbrev pub unknown_listed : Known → List (List ℕ) → List ℕ
unknown_listed known [] = []
unknown_listed known (name ∷ names) = with_unknown known (stage_named name) (unknown_listed known names)

-- this stage was just named
abbrev pub is_last : Option ℕ → ℕ → Bool
is_last None n = false
is_last (Some m) n = m == n

-- of the stages whose tasks these are, those that are not known, each once, after that one
abbrev pub unknown_after : Known → Option ℕ → List QueueName → List ℕ
unknown_after known last [] = []
unknown_after known last (name ∷ names) =
    if is_some (stage_in known name.stage) || is_last last name.stage then unknown_after known last names
    else name.stage ∷ unknown_after known (Some name.stage) names

abbrev pub unknown_named : Known → List QueueName → List ℕ
unknown_named known names = unknown_after known None names

-- ---- tasks by listings
-- the task whose file has this name
unfoldable pub task_named : List ℕ → Option TaskId
task_named name = first_of (λ n. first_of (λ k. if bytes_eq (task_file (task_id n k)) name then Some (task_id n k) else None) 1000000) 10000

abbrev pub with_letter : Option TaskId → List TaskId → List TaskId
with_letter None rest = rest
with_letter (Some id) rest = id ∷ rest

-- the tasks that a listing shows
abbrev pub tasks_listed : List (List ℕ) → List TaskId
tasks_listed [] = []
tasks_listed (name ∷ names) = with_letter (task_named name) (tasks_listed names)

abbrev pub one_unless : Bool → ℕ
one_unless true = 0
one_unless false = 1

-- the task is among those that a listing shows
abbrev pub is_listed : List (List ℕ) → TaskId → Bool
is_listed given id = list_any (bytes_eq (task_file id)) given

-- how many of the first k tasks of stage n a listing does not show
abbrev pub unlisted : List (List ℕ) → ℕ → ℕ → ℕ
unlisted given n zero = 0
unlisted given n (suc k) = unlisted given n k + one_unless (is_listed given (task_id n k))

-- how many tasks of these stages a listing does not show
abbrev pub all_unlisted : List (List ℕ) → Known → ℕ
all_unlisted given [] = 0
all_unlisted given (r ∷ rest) = unlisted given r.0 (task_count r.1) + all_unlisted given rest

-- how many tasks these stages have
abbrev pub all_tasks : Known → ℕ
all_tasks [] = 0
all_tasks (r ∷ rest) = task_count r.1 + all_tasks rest
