-- What a task makes, and why it refuses, depends on what is found of its inputs alone.
use Rattle.std.specs.Prelude.{◌≡◌, ◌<◌, ℕ, zero, suc, Bool, true, false, if◌then◌else◌, List, [], ◌∷◌, Option, None, Some, Contains, option_map, unwrap_or, refl}
use Rattle.std.proofs.Common.{arith, ap, sym, subst, ◌∙◌}
use Rattle.std.proofs.lemmas.List.Elements.{Contains-append_left, Contains-append_right}
use Rattle.std.proofs.lemmas.Option.{none-some, same_Some}
use Rattle.ig_space.specs.declared.point.Box3.{Box3}
use Rattle.ig_space.specs.declared.place.Place.{Place}
use Rattle.ig_space.specs.Cells.{cell-number_at, is_in-IsIn, number_at-below}
use Rattle.ig_space.specs.CellBoxes.{chunks-IsGrid}
use Rattle.ig_space.specs.Chunk.{chunk_path}
use Rattle.ig_space.specs.Chunks.{chunk_in, chunks_in}
use Rattle.ig_space.specs.Geometry.{geometry_fits}
use Rattle.ig_space.specs.Grid.{IsIn, IsWithin, cell, cell_at, cell_count, chunks_of, hull, is_in, number_at, space_of}
use Rattle.ig_space.specs.Hulls.{hull-IsGrid, hull-cell_at, hull-holds}
use Rattle.ig_layer.specs.Faults.{chunk_at, fault_in, first_of, or_else}
use Rattle.ig_layer.specs.Layer.{Reading, label_in, volume_at}
use Rattle.ig_cutout.specs.declared.types.Output.{Output}
use Rattle.ig_record.specs.declared.stage.Kind.{Kind}
use Rattle.ig_record.specs.declared.stage.Kind.TheVariants.{Xfer, Downsample, Faces, Links, Labels, Relabel, Count, Sum, Remove}
use Rattle.ig_record.specs.declared.stage.Stage.{Stage}
use Rattle.ig_record.specs.Columns.{box_read, chunks_met, inputs_of, scratch_read}
use Rattle.ig_record.specs.Sound.{is_sound}
use Rattle.ig_record.specs.SoundStages.{IsSound-from, task-within}
use Rattle.ig_record.specs.Stage.{task_box, task_count}
use Rattle.ig_meaning.specs.Lists.{listed-has}
use Rattle.ig_meaning.specs.Refusal.{Refusal, refusal_of}
use Rattle.ig_meaning.specs.Task.{absent_in, first_absent, first_damaged, labels_given, labels_within, makes_by, refusal_by, task_outputs, task_refusal, texts_at, texts_given, unless}

-- the same is found at each of these paths
abbrev pub AgreeOn : List (List ℕ) → Reading → Reading → Type 0
AgreeOn paths given other = (path : List ℕ) → Contains paths path → given path ≡ other path

-- ---- lists of paths
pub here : {A : Type 0} (x : A) (xs : List A) → Contains (x ∷ xs) x
here x xs = (0, omega arith, refl)

pub further : {A : Type 0} (x y : A) (xs : List A) → Contains xs y → Contains (x ∷ xs) y
further x y xs h = (suc h.0, omega (arith, h.1), h.2)

absent-agrees : (given other : Reading) (paths : List (List ℕ)) → AgreeOn paths given other → first_absent given paths ≡ first_absent other paths
absent-agrees given other [] same = refl
absent-agrees given other (path ∷ paths) same =
    ap (λ found. or_else (absent_in path found) (first_absent given paths)) (same path (here path paths))
    ∙ ap (or_else (absent_in path (other path))) (absent-agrees given other paths (λ p h. same p (further path p paths h)))

texts-agree : (given other : Reading) (paths : List (List ℕ)) → AgreeOn paths given other → texts_at given paths ≡ texts_at other paths
texts-agree given other [] same = refl
texts-agree given other (path ∷ paths) same =
    ap (λ found. unwrap_or found [] ∷ texts_at given paths) (same path (here path paths))
    ∙ ap (λ texts. unwrap_or (other path) [] ∷ texts) (texts-agree given other paths (λ p h. same p (further path p paths h)))

-- ---- chunks
first_of-agrees : {A : Type 0} (f g : ℕ → Option A) (n : ℕ) → ((i : ℕ) → i < n → f i ≡ g i) → first_of f n ≡ first_of g n
first_of-agrees f g zero same = refl
first_of-agrees f g (suc n) same =
    ap (λ first. or_else first (f n)) (first_of-agrees f g n (λ i below. same i (omega arith))) ∙ ap (or_else (first_of g n)) (same n (omega arith))

damaged-agrees : (s : Stage) (given other : Reading) (box : Option Box3) → AgreeOn (chunks_met s.source box) given other → first_damaged s box given ≡ first_damaged s box other
damaged-agrees s given other None same = refl
damaged-agrees s given other (Some box) same =
    let n = cell_count (hull (chunks_of s.source.geometry) box) in
    ap (option_map refusal_of)
    (first_of-agrees _ _ n (λ i below. ap (fault_in s.source (chunk_at s.source box i)) (same (chunk_in s.source box i) (listed-has (chunk_in s.source box) n i below))))

-- a voxel of a box is in a chunk that meets the box
pub voxel-chunk : (place : Place) → geometry_fits place.geometry ≡ true → (box : Box3) → IsWithin box (space_of place.geometry) → (x y z : ℕ) → IsIn box x y z
    → Contains (chunks_in place box) (chunk_path place.dir (cell_at (chunks_of place.geometry) x y z))
voxel-chunk place fits box within x y z inside =
    let g = chunks_of place.geometry in
    let grid = chunks-IsGrid place.geometry fits in
    let h = hull g box in
    let h_grid = hull-IsGrid g box grid within in
    let there = hull-holds g box grid within x y z inside in
    let is : cell h (number_at h x y z) ≡ cell_at g x y z = cell-number_at h h_grid x y z there ∙ hull-cell_at g box grid within x y z there in
    subst (λ b. Contains (chunks_in place box) (chunk_path place.dir b)) is
    (listed-has (chunk_in place box) (cell_count h) (number_at h x y z) (number_at-below h h_grid x y z there))

module _ (place : Place) (fits : geometry_fits place.geometry ≡ true) (given other : Reading) where
  label-agrees : (box : Box3) → IsWithin box (space_of place.geometry) → AgreeOn (chunks_in place box) given other → (x y z : ℕ) (inside : Bool) → is_in box x y z ≡ inside
      → (if inside then volume_at given place x y z else None) ≡ (if inside then volume_at other place x y z else None)
  label-agrees box within same x y z true is =
      let c = cell_at (chunks_of place.geometry) x y z in
      ap (λ found. if is_in (space_of place.geometry) x y z then label_in place.geometry c found x y z else None)
      (same (chunk_path place.dir c) (voxel-chunk place fits box within x y z (is_in-IsIn box x y z is)))
  label-agrees box within same x y z false is = refl

  labels-agree : (box : Option Box3) → ((b : Box3) → box ≡ Some b → IsWithin b (space_of place.geometry)) → AgreeOn (chunks_met place box) given other
      → labels_within box (volume_at given place) ≡ labels_within box (volume_at other place)
  labels-agree None within same = refl
  labels-agree (Some box) within same = λ i x y z. label-agrees box (within box refl) same x y z (is_in box x y z) refl i

-- ---- tasks
-- the box that is read is that of the task
pub box_read-is : (kind : Kind) (s : Stage) (k : ℕ) (box : Box3) → box_read kind s k ≡ Some box → task_box s k ≡ box
box_read-is Xfer s k box is = same_Some (task_box s k) box is
box_read-is Downsample s k box is = same_Some (task_box s k) box is
box_read-is Faces s k box is = same_Some (task_box s k) box is
box_read-is Links s k box is = absurd (none-some box is)
box_read-is Labels s k box is = absurd (none-some box is)
box_read-is Relabel s k box is = same_Some (task_box s k) box is
box_read-is Count s k box is = same_Some (task_box s k) box is
box_read-is Sum s k box is = absurd (none-some box is)
box_read-is Remove s k box is = absurd (none-some box is)

pub box_read-within : (s : Stage) (k : ℕ) → is_sound s ≡ true → k < task_count s → (box : Box3) → box_read s.kind s k ≡ Some box → IsWithin box (space_of s.source.geometry)
box_read-within s k sound below box is = subst (λ b. IsWithin b (space_of s.source.geometry)) (box_read-is s.kind s k box is) (task-within s k sound below)

module _ (s : Stage) (k : ℕ) (given other : Reading) (same : AgreeOn (inputs_of s k) given other) where
  chunks-same : AgreeOn (chunks_met s.source (box_read s.kind s k)) given other
  chunks-same path h = same path (Contains-append_left (chunks_met s.source (box_read s.kind s k)) (scratch_read s.kind s k) path h)

  texts-same : texts_given s k given ≡ texts_given s k other
  texts-same = texts-agree given other (scratch_read s.kind s k) (λ path h. same path (Contains-append_right (chunks_met s.source (box_read s.kind s k)) (scratch_read s.kind s k) path h))

  pub task_refusal-agrees : task_refusal s k given ≡ task_refusal s k other
  task_refusal-agrees =
      ap (λ first. or_else first (or_else (first_damaged s (box_read s.kind s k) given) (refusal_by s.kind s k (texts_given s k given)))) (absent-agrees given other (inputs_of s k) same)
      ∙ ap (λ next. or_else (first_absent other (inputs_of s k)) (or_else next (refusal_by s.kind s k (texts_given s k given)))) (damaged-agrees s given other (box_read s.kind s k) chunks-same)
      ∙ ap (λ texts. or_else (first_absent other (inputs_of s k)) (or_else (first_damaged s (box_read s.kind s k) other) (refusal_by s.kind s k texts))) texts-same

  pub task_outputs-agrees : is_sound s ≡ true → k < task_count s → task_outputs s k given ≡ task_outputs s k other
  task_outputs-agrees sound below =
      ap (λ refusal. unless refusal (makes_by s.kind s k (labels_given s k given) (texts_given s k given))) task_refusal-agrees
      ∙ ap (λ labels. unless (task_refusal s k other) (makes_by s.kind s k labels (texts_given s k given)))
      (labels-agree s.source (IsSound-from s sound).fits given other (box_read s.kind s k) (box_read-within s k sound below) chunks-same)
      ∙ ap (λ texts. unless (task_refusal s k other) (makes_by s.kind s k (labels_given s k other) texts)) texts-same

-- ---- refusals
fine_by : (refusal : Option Refusal) (made : Option (List Output)) (outputs : List Output) → unless refusal made ≡ Some outputs → (refusal ≡ None) × (made ≡ Some outputs)
fine_by None made outputs e = (refl, e)
fine_by (Some refusal) made outputs e = absurd (none-some outputs e)

-- a task that makes something does not refuse
pub made-fine : (s : Stage) (k : ℕ) (given : Reading) (outputs : List Output) → task_outputs s k given ≡ Some outputs
    → (task_refusal s k given ≡ None) × (makes_by s.kind s k (labels_given s k given) (texts_given s k given) ≡ Some outputs)
made-fine s k given outputs e = fine_by (task_refusal s k given) (makes_by s.kind s k (labels_given s k given) (texts_given s k given)) outputs e

-- and one that refuses makes nothing
pub refused-none : (s : Stage) (k : ℕ) (given : Reading) (refusal : Refusal) → task_refusal s k given ≡ Some refusal → task_outputs s k given ≡ None
refused-none s k given refusal e = ap (λ r. unless r (makes_by s.kind s k (labels_given s k given) (texts_given s k given))) e
