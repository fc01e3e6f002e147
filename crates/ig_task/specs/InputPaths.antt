-- The inputs of a task are different files.
use Rattle.std.specs.Prelude.{◌≡◌, ◌⊎◌, ◌<◌, ℕ, zero, suc, true, List, [], ◌∷◌, ◌++◌, Option, None, Some, Contains}
use Rattle.std.proofs.Common.{arith, inl, inr, refl, ap, sym, ◌∙◌}
use Rattle.std.proofs.lemmas.List.Elements.{Contains-append_cases}
use Rattle.ig_space.specs.declared.point.Box3.{Box3}
use Rattle.ig_space.specs.declared.geometry.Grid.{Grid}
use Rattle.ig_space.specs.CellBoxes.{cell-IsBox, chunks-IsGrid}
use Rattle.ig_space.specs.declared.place.Place.{Place}
use Rattle.ig_space.specs.ChunkPaths.{chunk_path-injective}
use Rattle.ig_space.specs.Chunks.{chunk_in, listed}
use Rattle.ig_space.specs.Geometry.{geometry_fits}
use Rattle.ig_space.specs.Grid.{IsBox, IsGrid, IsIn, IsWithin, cell, cell_count, chunks_of, hull, number_at, space_of}
use Rattle.ig_space.specs.Hulls.{hull-IsGrid}
use Rattle.ig_record.specs.declared.stage.Stage.{Stage}
use Rattle.ig_record.specs.Columns.{box_read, chunks_met, inputs_of, scratch_read}
use Rattle.ig_record.specs.Sound.{is_sound}
use Rattle.ig_record.specs.SoundStages.{IsSound-from}
use Rattle.ig_record.specs.Stage.{task_count}
use Rattle.ig_meaning.specs.Agreeing.{box_read-within, further, here}
use Rattle.ig_meaning.specs.Lists.{listed-from}
use Rattle.ig_task.specs.Kinds.{stage-laws}
use Rattle.ig_task.specs.OwnInputs.{chunk-read}
use Rattle.ig_task.specs.ReadPasses.{AreApart, reads-passes}
use Rattle.ig_task.specs.Tiles.{number_at-is}

-- ---- lists of paths
-- two lists of different paths that have none in common
apart-append : (xs ys : List (List ℕ)) → AreApart xs → AreApart ys → ((path : List ℕ) → Contains xs path → Contains ys path → ⊥) → AreApart (xs ++ ys)
apart-append [] ys first rest none = rest
apart-append (x ∷ xs) ys first rest none = (
  λ among. by_place (Contains-append_cases xs ys x among),
  apart-append xs ys first.1 rest (λ path h. none path (further x path xs h)),
)
  where
    by_place : Contains xs x ⊎ Contains ys x → ⊥
    by_place (inl h) = first.0 h
    by_place (inr h) = none x (here x xs) h

the_only : (x path : List ℕ) → Contains (x ∷ []) path → x ≡ path
the_only x path (zero, below, is) = is
the_only x path (suc k, below, is) = absurd (omega (arith, below))

-- the values of a function that differ
apart-listed : (f : ℕ → List ℕ) (n : ℕ) → ((i j : ℕ) → i < n → j < n → f i ≡ f j → i ≡ j) → AreApart (listed f n)
apart-listed f zero differ = tt
apart-listed f (suc n) differ =
    apart-append (listed f n) (f n ∷ []) (apart-listed f n (λ i j i_below j_below. differ i j (omega (arith, i_below)) (omega (arith, j_below)))) (λ none. absurd (omega (arith, none.1)), tt)
    (λ path among last.
    let v = listed-from f n path among in
    let same = differ v.number n (omega (arith, v.below)) (omega arith) (v.is ∙ sym (the_only (f n) path last)) in
    omega (arith, v.below, same))

-- ---- chunks
-- the first voxel of a box is in it
low-in : (b : Box3) → IsBox b → IsIn b b.lo.x b.lo.y b.lo.z
low-in b box = record { x_from = omega arith; x_to = box.x_some; y_from = omega arith; y_to = box.y_some; z_from = omega arith; z_to = box.z_some }

-- cells of different numbers differ
cell-injective : (g : Grid) → IsGrid g → (i j : ℕ) → i < cell_count g → j < cell_count g → cell g i ≡ cell g j → i ≡ j
cell-injective g grid i j i_below j_below same =
    let a = cell g i in
    let b = cell g j in
    sym (number_at-is g i a.lo.x a.lo.y a.lo.z (low-in a (cell-IsBox g grid i i_below)))
    ∙ ap (λ (c : Box3). number_at g c.lo.x c.lo.y c.lo.z) same
    ∙ number_at-is g j b.lo.x b.lo.y b.lo.z (low-in b (cell-IsBox g grid j j_below))

-- the chunks that meet a box are different files
chunks-apart : (place : Place) → geometry_fits place.geometry ≡ true → (box : Option Box3) → ((b : Box3) → box ≡ Some b → IsWithin b (space_of place.geometry)) → AreApart (chunks_met place box)
chunks-apart place fits None within = tt
chunks-apart place fits (Some box) within =
    let h : Grid = hull (chunks_of place.geometry) box in
    let grid = hull-IsGrid (chunks_of place.geometry) box (chunks-IsGrid place.geometry fits) (within box refl) in
    apart-listed (chunk_in place box) (cell_count h) (λ i j i_below j_below same.
    cell-injective h grid i j i_below j_below (chunk_path-injective place.dir (cell h i) (cell h j) (cell-IsBox h grid i i_below) (cell-IsBox h grid j j_below) same))

-- ---- inputs
-- The inputs of a task of a sound stage are different paths.
pub inputs-apart : (s : Stage) → is_sound s ≡ true → (k : ℕ) → k < task_count s → AreApart (inputs_of s k)
inputs-apart s sound k below =
    let passes = reads-passes s sound in
    apart-append (chunks_met s.source (box_read s.kind s k)) (scratch_read s.kind s k)
    (chunks-apart s.source (IsSound-from s sound).fits (box_read s.kind s k) (box_read-within s k sound below)) (passes.once k below)
    (λ path chunk scratch. (stage-laws 0 s sound).scratch_apart path (passes.reads k below path scratch) (chunk-read s sound k below path chunk))
