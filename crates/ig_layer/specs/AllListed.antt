-- Values that are listed where each is there: one that is missing leaves no list, so a voxel with no label leaves no files.
use Rattle.std.specs.Prelude.{◌≡◌, ℕ, zero, suc, ◌+◌, ◌-◌, ◌*◌, ◌<◌, ◌≤◌, Option, None, Some, List}
use Rattle.std.proofs.Common.{arith, ap, sym, ◌∙◌, refl, ◌⊎◌, inl, inr}
use Rattle.std.proofs.lemmas.Bool.{cases_lt}
use Rattle.ig_space.specs.declared.point.Point.{Point}
use Rattle.ig_space.specs.declared.point.Box3.{Box3}
use Rattle.ig_space.specs.declared.place.Place.{Place}
use Rattle.ig_space.specs.Chunk.{chunk_path}
use Rattle.ig_space.specs.Geometry.{count}
use Rattle.ig_space.specs.Grid.{IsGrid, IsIn, IsWithin, cell, cell_at, cell_count, chunks_of, hull, number_at, size_of, space_of}
use Rattle.ig_space.specs.Cells.{cell_at-in, number-below, point_at-is}
use Rattle.ig_space.specs.Hulls.{hull-IsGrid, hull-cell_at, hull-holds}
use Rattle.ig_space.specs.HullCells.{hull-numbers}
use Rattle.ig_layer.specs.Texts.{all_listed, chunk_file, file_if, files_in, label_by_number, labels_in, text_of, with_last}

with_last-none : {A : Type 0} (xs : Option (List A)) → with_last xs None ≡ None
with_last-none None = refl
with_last-none (Some xs) = refl

all_listed-once : {A : Type 0} (f : ℕ → Option A) (n k : ℕ) → k < suc n → f k ≡ None → (k < n → all_listed f n ≡ None) → (k < n) ⊎ (n ≤ k) → all_listed f (suc n) ≡ None
all_listed-once f n k below none before (inl less) = ap (λ xs. with_last xs (f n)) (before less)
all_listed-once f n k below none before (inr last) =
    let same : n ≡ k = omega (arith, last, below) in
    ap (with_last (all_listed f n)) (ap f same ∙ none) ∙ with_last-none (all_listed f n)

-- a value that is missing leaves no list
pub all_listed-none : {A : Type 0} (f : ℕ → Option A) (n k : ℕ) → k < n → f k ≡ None → all_listed f n ≡ None
all_listed-none f zero k below none = absurd (omega (arith, below))
all_listed-none f (suc n) k below none = all_listed-once f n k below none (λ less. all_listed-none f n k less none) (cases_lt k n)

-- values that are the same make the same list
pub all_listed-agrees : {A : Type 0} (f g : ℕ → Option A) (n : ℕ) → ((k : ℕ) → k < n → f k ≡ g k) → all_listed f n ≡ all_listed g n
all_listed-agrees f g zero same = refl
all_listed-agrees f g (suc n) same = rw (all_listed-agrees f g n (λ k below. same k (omega (arith, below)))) (rw (same n (omega arith)) refl)

-- ---- a voxel of a box by its number
-- the number of the voxel in the box
abbrev pub number_in : Box3 → ℕ → ℕ → ℕ → ℕ
number_in box x y z = x - box.lo.x + (size_of box).x * (y - box.lo.y + (size_of box).y * (z - box.lo.z))

pub number_in-below : (box : Box3) (x y z : ℕ) → IsIn box x y z → number_in box x y z < count (size_of box)
number_in-below box x y z h =
    let p : Point = record { x = x - box.lo.x; y = y - box.lo.y; z = z - box.lo.z } in
    number-below (size_of box) p (record { x = omega (arith, h.x_from, h.x_to); y = omega (arith, h.y_from, h.y_to); z = omega (arith, h.z_from, h.z_to) })

pub label_by_number-is : (volume : ℕ → ℕ → ℕ → Option ℕ) (box : Box3) (x y z : ℕ) → IsIn box x y z → label_by_number volume box (number_in box x y z) ≡ volume x y z
label_by_number-is volume box x y z h =
    let is = point_at-is (size_of box) (x - box.lo.x) (y - box.lo.y) (z - box.lo.z) (omega (arith, h.x_from, h.x_to)) (omega (arith, h.y_from, h.y_to)) in
    let ex : box.lo.x + (x - box.lo.x) ≡ x = omega (arith, h.x_from) in
    let ey : box.lo.y + (y - box.lo.y) ≡ y = omega (arith, h.y_from) in
    let ez : box.lo.z + (z - box.lo.z) ≡ z = omega (arith, h.z_from) in
    ap (λ (p : Point). volume (box.lo.x + p.x) (box.lo.y + p.y) (box.lo.z + p.z)) is ∙ (λ i. volume (ex i) (ey i) (ez i))

-- ---- a voxel with no label
pub labels_in-none : (volume : ℕ → ℕ → ℕ → Option ℕ) (box : Box3) (x y z : ℕ) → IsIn box x y z → volume x y z ≡ None → labels_in volume box ≡ None
labels_in-none volume box x y z h none =
    all_listed-none (label_by_number volume box) (count (size_of box)) (number_in box x y z) (number_in-below box x y z h) (label_by_number-is volume box x y z h ∙ none)

-- leaves its chunk no file
pub chunk_file-none : (place : Place) (volume : ℕ → ℕ → ℕ → Option ℕ) (box : Box3) (x y z : ℕ) → IsIn box x y z → volume x y z ≡ None → chunk_file place volume box ≡ None
chunk_file-none place volume box x y z h none =
    ap (λ labels. file_if (chunk_path place.dir box) (text_of place.geometry.encoding place.geometry.width (size_of box) labels)) (labels_in-none volume box x y z h none)

-- and each box that it lies in none either
pub files_in-none : (place : Place) (volume : ℕ → ℕ → ℕ → Option ℕ) (box : Box3) → IsGrid (chunks_of place.geometry) → IsWithin box (space_of place.geometry)
    → (x y z : ℕ) → IsIn box x y z → volume x y z ≡ None → files_in place volume box ≡ None
files_in-none place volume box grid within x y z h none =
    let g = chunks_of place.geometry in
    let inside = hull-holds g box grid within x y z h in
    let number = hull-numbers g box grid within x y z h in
    let in_cell : IsIn (cell_at (hull g box) x y z) x y z = cell_at-in (hull g box) (hull-IsGrid g box grid within) x y z inside in
    let m = number_at (hull g box) x y z in
    all_listed-none (λ k. chunk_file place volume (cell (hull g box) k)) (cell_count (hull g box)) m number.0
    (ap (chunk_file place volume) (number.1 ∙ sym (hull-cell_at g box grid within x y z inside)) ∙ chunk_file-none place volume (cell_at (hull g box) x y z) x y z in_cell none)
