-- What a task makes of its inputs, or why it refuses: this project's own.
use Rattle.std.specs.Prelude.{ℕ, Bool, true, if◌then◌else◌, List, [], ◌∷◌, map, Option, None, Some, option_map, unwrap_or}
use Rattle.ig_space.specs.declared.point.Box3.{Box3}
use Rattle.ig_space.specs.Grid.{is_in}
use Rattle.ig_layer.specs.Faults.{first_fault, or_else}
use Rattle.ig_layer.specs.Layer.{Labels, Reading, volume_at}
use Rattle.ig_cutout.specs.declared.types.Output.{Output}
use Rattle.ig_record.specs.declared.stage.Kind.{Kind}
use Rattle.ig_record.specs.declared.stage.Stage.{Stage}
use Rattle.ig_record.specs.Columns.{box_read, inputs_of, paths_of, scratch_read}
use Rattle.ig_meaning.specs.Refusal.{Refusal, Missing, refusal_of}
use Rattle.ig_meaning.specs.Wants.{outputs_at}

-- ---- what it has
-- the labels of the box, and none elsewhere
abbrev pub labels_within : Option Box3 → Labels → Labels
labels_within None volume x y z = None
labels_within (Some box) volume x y z = if is_in box x y z then volume x y z else None

-- the labels of the box that it reads
abbrev pub labels_given : Stage → ℕ → Reading → Labels
labels_given s k given = labels_within (box_read s.kind s k) (volume_at given s.source)

abbrev pub texts_at : Reading → List (List ℕ) → List (List ℕ)
texts_at given paths = map (λ path. unwrap_or (given path) []) paths

-- the texts of earlier passes, in order
abbrev pub texts_given : Stage → ℕ → Reading → List (List ℕ)
texts_given s k given = texts_at given (scratch_read s.kind s k)

-- ---- by the kind
-- why it refuses texts of earlier passes
abbrev pub refusal_by : Kind → Stage → ℕ → List (List ℕ) → Option Refusal
refusal_by kind s k texts = None

-- what it makes of its labels and of texts of earlier passes: kinds that read none make what is wanted of these labels
abbrev pub makes_by : Kind → Stage → ℕ → Labels → List (List ℕ) → Option (List Output)
makes_by kind s k labels texts = outputs_at s labels (paths_of s k)

-- ---- for every kind
abbrev pub absent_in : List ℕ → Option (List ℕ) → Option Refusal
absent_in path None = Some (Missing path)
absent_in path (Some bytes) = None

-- the first input that is absent
abbrev pub first_absent : Reading → List (List ℕ) → Option Refusal
first_absent given [] = None
first_absent given (path ∷ paths) = or_else (absent_in path (given path)) (first_absent given paths)

-- the first chunk that is damaged, of those that meet the box
abbrev pub first_damaged : Stage → Option Box3 → Reading → Option Refusal
first_damaged s None given = None
first_damaged s (Some box) given = option_map refusal_of (first_fault s.source box given)

-- why it refuses: the first input that is absent, else the first that is malformed
abbrev pub task_refusal : Stage → ℕ → Reading → Option Refusal
task_refusal s k given = or_else (first_absent given (inputs_of s k)) (or_else (first_damaged s (box_read s.kind s k) given) (refusal_by s.kind s k (texts_given s k given)))

abbrev pub unless : {A : Type 0} → Option Refusal → Option A → Option A
unless None made = made
unless (Some refusal) made = None

-- what it makes, where it does not refuse
abbrev pub task_outputs : Stage → ℕ → Reading → Option (List Output)
task_outputs s k given = unless (task_refusal s k given) (makes_by s.kind s k (labels_given s k given) (texts_given s k given))
