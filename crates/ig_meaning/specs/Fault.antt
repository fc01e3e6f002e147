-- The fault of a call: the first refusal whose fact holds. Each fact is taken in the files at the own step that looks at it,
-- and each before it was looked at and does not hold.
use Rattle.std.specs.Prelude.{ℕ, zero, suc, ◌+◌, ◌&&◌, Bool, true, false, if◌then◌else◌, List, [], ◌∷◌, length, take, drop, Option, None, Some}
use Rattle.std.specs.Str.{bytes_eq}
use Rattle.ig_defs.specs.declared.step.Act.{Act}
use Rattle.ig_defs.specs.declared.step.Act.TheVariants as act
use Rattle.ig_defs.specs.Files.{Files, file_at}
use Rattle.ig_defs.specs.Own.{Moment}
use Rattle.ig_meaning.specs.Refusal.{Refusal}
use Rattle.ig_layer.specs.Faults.{or_else}
use Rattle.ig_record.specs.declared.stage.Stage.{Stage}
use Rattle.ig_record.specs.Columns.{inputs_of}
use Rattle.ig_record.specs.Stage.{task_count}
use Rattle.ig_meaning.specs.Task.{task_refusal}
use Rattle.ig_meaning.specs.Making.{Making, Refused, Unfinished, Planned, New, Continues, making_of_request}
use Rattle.ig_meaning.specs.QueueMaking.{making_of_enqueue}
use Rattle.ig_meaning.specs.Words.{Command, Local, Enqueue, command_of}

-- ---- while it runs: the own reads in order, each with what it found, are those of one task after the other
pub record Find : Type 0 where
  pub path : List ℕ
  pub found : Option (List ℕ)

-- each path with what is found there
abbrev pub finds_in : (List ℕ → Option (List ℕ)) → List (List ℕ) → List Find
finds_in given [] = []
finds_in given (path ∷ paths) = record { path = path; found = given path } ∷ finds_in given paths

abbrev pub with_find : Act → Files → List Find → List Find
with_find (act.Read path) files finds = record { path = path; found = file_at files path } ∷ finds
with_find (act.List dir given) files finds = finds
with_find (act.Put path bytes) files finds = finds
with_find (act.Move from to) files finds = finds
with_find (act.Remove path) files finds = finds

abbrev pub finds_of : List Moment → List Find
finds_of [] = []
finds_of (m ∷ ms) = with_find m.act m.files (finds_of ms)

-- the first of these are of these paths, in this order
abbrev pub begin_with : List (List ℕ) → List Find → Bool
begin_with [] finds = true
begin_with (path ∷ paths) [] = false
begin_with (path ∷ paths) (find ∷ finds) = bytes_eq path find.path && begin_with paths finds

-- what was found at the path
abbrev pub found_among : List Find → List ℕ → Option (List ℕ)
found_among [] path = None
found_among (find ∷ finds) path = if bytes_eq find.path path then find.found else found_among finds path

-- the first refusal of the tasks from number k on, so many of them, whose inputs were all read
abbrev pub fault_of_tasks : Stage → ℕ → ℕ → List Find → Option Refusal
fault_of_tasks s zero k finds = None
fault_of_tasks s (suc left) k finds =
    if begin_with (inputs_of s k) finds
    then or_else (task_refusal s k (found_among (take (length (inputs_of s k)) finds))) (fault_of_tasks s left (k + 1) (drop (length (inputs_of s k)) finds))
    else None

abbrev pub fault_of_run : Stage → List Moment → Option Refusal
fault_of_run s ms = fault_of_tasks s (task_count s) 0 (finds_of ms)

-- ---- by the words
abbrev pub making_of_command : Option Command → List Moment → Making
making_of_command None ms = Unfinished
making_of_command (Some (Local request)) ms = making_of_request [] Planned request ms
making_of_command (Some (Enqueue q request)) ms = making_of_enqueue q request ms

-- the making of a call with these words, by its own steps
abbrev pub making_of : List (List ℕ) → List Moment → Making
making_of words ms = making_of_command (command_of words) ms

abbrev pub fault_of_making : Making → Option Refusal
fault_of_making (Refused refusal) = Some refusal
fault_of_making Unfinished = None
fault_of_making (Planned s after) = fault_of_run s after
fault_of_making (New number s after) = None
fault_of_making (Continues number s after) = None

-- the fault of a call with these words, by its own steps
abbrev pub fault_of : List (List ℕ) → List Moment → Option Refusal
fault_of words ms = fault_of_making (making_of words ms)
