-- The chunks that meet a box: their paths, how large they are, and that no two have a voxel in common.
use Rattle.std.proofs.Common.{arith, ◌≡◌, ◌≤◌, ◌<◌, ◌+◌, ◌-◌, ◌*◌, ◌^◌, ◌⊎◌, inl, inr, ℕ, zero, suc, true, List, [], ◌∷◌, ◌++◌, length, get_or, refl, ap, sym, ◌∙◌, length-append, min}
use Rattle.std.proofs.Math.Nat.{eq-or-lt_of_le, mul-le-mul}
use Rattle.std.proofs.lemmas.List.{get_or-map, get_or_append_left, get_or-append_right, length-map}
use Rattle.ig_space.specs.declared.point.Box3.{Box3}
use Rattle.ig_space.specs.declared.geometry.Grid.{Grid}
use Rattle.ig_space.specs.declared.place.Place.{Place}
use Rattle.ig_space.specs.Cells.{cell_at-is}
use Rattle.ig_space.specs.Chunk.{chunk_path}
use Rattle.ig_space.specs.Chunks.{chunk_in, chunks_in, listed}
use Rattle.ig_space.specs.Geometry.{Fits-from, count, geometry_fits}
use Rattle.ig_space.specs.Grid.{IsGrid, IsIn, IsWithin, cell, cell_count, chunks_of, counts, hull, number_at, point_at, size_of}
use Rattle.ig_space.specs.HullCells.{hull-ascends}
use Rattle.ig_space.specs.Hulls.{hull-IsGrid}
use Rattle.ig_layer.specs.Faults.{chunk_at}
use Rattle.ig_cutout.specs.declared.types.Input.{Input}
use Rattle.ig_cutout.specs.Inputs.{path_of, paths_of}

-- ---- values that are listed
pub length-listed : {A : Type 0} (f : ℕ → A) (n : ℕ) → length (listed f n) ≡ n
length-listed f zero = refl
length-listed f (suc n) = length-append (listed f n) (f n ∷ []) ∙ (let e = length-listed f n in omega arith)

listed-at : {A : Type 0} (f : ℕ → A) (n k : ℕ) (d : A) → (k ≡ n) ⊎ (k < n) → ((k : ℕ) → k < n → get_or (listed f n) k d ≡ f k) → get_or (listed f n ++ f n ∷ []) k d ≡ f k
listed-at f n k d (inl last) each =
    let first : k - n ≡ 0 = omega arith in
    get_or-append_right (listed f n) (f n ∷ []) n k d (length-listed f n) (omega arith) ∙ ap (λ i. get_or (f n ∷ []) i d) first ∙ ap f (sym last)
listed-at f n k d (inr less) each = get_or_append_left (listed f n) (f n ∷ []) d k (omega (arith, length-listed f n)) ∙ each k less

pub get_or-listed : {A : Type 0} (f : ℕ → A) (n k : ℕ) (d : A) → k < n → get_or (listed f n) k d ≡ f k
get_or-listed f zero k d below = absurd (omega arith)
get_or-listed f (suc n) k d below = listed-at f n k d (eq-or-lt_of_le (omega arith)) (λ j less. get_or-listed f n j d less)

-- ---- the inputs are those of the chunks
pub inputs-count : (place : Place) (area : Box3) (inputs : List Input) → paths_of inputs ≡ chunks_in place area → length inputs ≡ cell_count (hull (chunks_of place.geometry) area)
inputs-count place area inputs paths =
    sym (length-map inputs path_of) ∙ ap length paths ∙ length-listed (chunk_in place area) (cell_count (hull (chunks_of place.geometry) area))

pub inputs-path : (place : Place) (area : Box3) (inputs : List Input) (k : ℕ) (d : Input) → paths_of inputs ≡ chunks_in place area → k < length inputs
    → (get_or inputs k d).path ≡ chunk_path place.dir (chunk_at place area k)
inputs-path place area inputs k d paths below =
    let few = inputs-count place area inputs paths in
    sym (get_or-map path_of inputs k d d.path below) ∙ ap (λ (ps : List (List ℕ)). get_or ps k d.path) paths
    ∙ get_or-listed (chunk_in place area) (cell_count (hull (chunks_of place.geometry) area)) k d.path (omega arith)

-- ---- no chunk is larger than the step
pub side-few : (lo hi step i : ℕ) → min (lo + (i + 1) * step) hi - (lo + i * step) ≤ step
side-few lo hi step i = let e : (i + 1) * step ≡ i * step + step = omega arith in omega arith

pub cell-few : (g : Grid) (k : ℕ) → count (size_of (cell g k)) ≤ count g.step
cell-few g k =
    let i = point_at (counts g) k in
    mul-le-mul (side-few g.space.lo.x g.space.hi.x g.step.x i.x) (mul-le-mul (side-few g.space.lo.y g.space.hi.y g.step.y i.y) (side-few g.space.lo.z g.space.hi.z g.step.z i.z))

pub chunk-few : (place : Place) (area : Box3) (k : ℕ) → geometry_fits place.geometry ≡ true → count (size_of (chunk_at place area k)) ≤ 2 ^ 21
chunk-few place area k fits =
    omega (arith, cell-few (hull (chunks_of place.geometry) area) k, (Fits-from place.geometry fits).few)

-- ---- no two chunks have a voxel in common
pub cells-apart : (g : Grid) (a : Box3) → IsGrid g → IsWithin a g.space → (j k x y z : ℕ) → j < k → k < cell_count (hull g a)
    → IsIn (cell (hull g a) j) x y z → IsIn (cell (hull g a) k) x y z → ⊥
cells-apart g a grid within j k x y z less below in_j in_k =
    let h = hull g a in
    let whole = hull-IsGrid g a grid within in
    let same : cell h j ≡ cell h k = sym (cell_at-is h whole j x y z (omega arith) in_j) ∙ cell_at-is h whole k x y z below in_k in
    let order = hull-ascends g a grid within j k less below in
    let equal = ap (λ (c : Box3). number_at g c.lo.x c.lo.y c.lo.z) same in
    omega (arith, order, equal)

-- the number of an input is that of a chunk
pub number-below : (h h' : Grid) (xs inputs : List Input) (n : ℕ) → h ≡ h' → xs ≡ inputs → length inputs ≡ cell_count h' → n < length xs → n < cell_count h
number-below h h' xs inputs n grid same few below =
    let e : cell_count h ≡ cell_count h' = ap cell_count grid in
    let f : length xs ≡ length inputs = ap length same in
    omega (arith, e, f, few, below)
