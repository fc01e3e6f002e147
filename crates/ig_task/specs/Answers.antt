-- What the answers of a run say.
use Rattle.std.specs.Prelude.{◌≡◌, ◌+◌, if◌then◌else◌, List, [], ◌∷◌, ℕ, Option, None, Some, is_none, slice_get}
use Rattle.ig_space.specs.declared.place.Place.{Place}
use Rattle.ig_space.specs.Chunks.{chunks_in}
use Rattle.ig_layer.specs.Layer.{Labels}
use Rattle.ig_layer.specs.Texts.{labels_in}
use Rattle.ig_record.specs.declared.stage.Stage.{Stage}
use Rattle.ig_record.specs.Columns.{box_written, paths_of}
use Rattle.ig_record.specs.Stage.{task_box}
use Rattle.ig_meaning.specs.Refusal as meaning
use Rattle.ig_meaning.specs.Refusal.{Refusal}
use Rattle.ig_meaning.specs.Wants.{outputs_at}
use Rattle.ig_cutout.specs.declared.types.Input.{Input}
use Rattle.ig_cutout.specs.declared.types.Output.{Output}
use Rattle.ig_cutout.specs.declared.error.CutError.{CutError}
use Rattle.ig_cutout.specs.declared.error.CutError.TheVariants as cut
use Rattle.ig_cutout.specs.Inputs.{cause_of}
use Rattle.ig_task.specs.declared.error.RunError.{RunError}
use Rattle.ig_task.specs.declared.error.RunError.TheVariants.{Missing, Malformed, TooManyParts, Memory}

-- the error of an area whose labels are not there
abbrev pub run_error_of : CutError → RunError
run_error_of (cut.Missing path) = Missing path
run_error_of (cut.Malformed path cause) = Malformed path cause
run_error_of cut.Memory = Memory

-- the path of the first input that was not found
abbrev pub missing_path : List Input → Option (List ℕ)
missing_path [] = None
missing_path (input ∷ inputs) = if is_none input.found then Some input.path else missing_path inputs

-- the error is that refusal; want of memory may always come
abbrev pub RefusesTask : RunError → Option Refusal → Type 0
RefusesTask (Missing path) r = r ≡ Some (meaning.Missing path)
RefusesTask (Malformed path cause) r = r ≡ Some (meaning.Malformed path (cause_of cause))
RefusesTask (TooManyParts count) r = r ≡ Some (meaning.TooManyParts count)
RefusesTask Memory r = Unit {0}

-- Of each volume whose labels in the box of the task are these, the outputs are what is to stand at the task's paths.
abbrev pub AreMadeOf : Stage → ℕ → List ℕ → List Output → Type 0
AreMadeOf s k labels outputs = (volume : Labels) → labels_in volume (task_box s k) ≡ Some labels → outputs_at s volume (paths_of s k) ≡ Some outputs

-- Of each such volume they are what is to stand at the task's chunks of the scale at this place, from 0 on.
abbrev pub AreOfMip : Stage → ℕ → ℕ → List ℕ → List Output → Type 0
AreOfMip s k m labels outputs =
    (place : Place) → slice_get s.dests m ≡ Some place → (volume : Labels) → labels_in volume (task_box s k) ≡ Some labels
    → outputs_at s volume (chunks_in place (box_written s.kind s k (m + 1))) ≡ Some outputs
