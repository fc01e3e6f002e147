-- Tasks by their places among those of all stages, and which of them a listing shows.
use Rattle.std.specs.Prelude.{◌≡◌, ◌+◌, ◌*◌, ◌^◌, ◌==◌, ℕ, Bool, true, false, List, Option, None, Some}
use Rattle.std.specs.BTreeSet.{BTreeSet, contains}
use Rattle.std.specs.Ordering.{nat_cmp}
use Rattle.std.specs.Str.{bytes_eq}
use Rattle.ig_space.specs.declared.task_id.TaskId.{TaskId}
use Rattle.ig_defs.specs.QueueNames.{task_file, task_fits}
use Rattle.ig_worker.specs.Stages.{is_listed}

-- the place of a task
abbrev pub place_of : TaskId → ℕ
place_of id = id.stage * 10 ^ 6 + id.task

-- this task, if it is one, has that place
abbrev pub is_placed : Option TaskId → ℕ → Bool
is_placed None place = false
is_placed (Some id) place = place_of id == place

-- the task is the one whose file has this name, if there is one
abbrev pub Names : List ℕ → Option TaskId → Type 0
Names name found = (id : TaskId) → task_fits id ≡ true → bytes_eq (task_file id) name ≡ is_placed found (place_of id)

-- the places are those of the tasks that a listing shows
abbrev pub HasListed : List (List ℕ) → BTreeSet ℕ → Type 0
HasListed given places = (id : TaskId) → task_fits id ≡ true → contains nat_cmp places (place_of id) ≡ is_listed given id
