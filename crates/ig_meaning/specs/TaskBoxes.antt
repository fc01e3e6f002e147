-- Laws on the boxes of the tasks of a stage: they have whole chunks of a scale whose chunks the shape is made of, and few voxels.
use Rattle.std.specs.Prelude.{◌≡◌, ℕ, zero, suc, ◌==◌, ◌+◌, ◌-◌, ◌*◌, ◌/◌, ◌%◌, ◌^◌, ◌<◌, ◌≤◌, Bool, true, false, if◌then◌else◌, Option, None, Some}
use Rattle.std.proofs.Common.{arith, ap, sym, ◌∙◌, refl, ◌⊎◌, inl, inr, subst}
use Rattle.std.proofs.Math.Nat.{div-add-mod', div-lt_iff_lt-mul, mul-le-mul_right, mul-le-mul, mul-div_cancel}
use Rattle.std.proofs.lemmas.Bool.{cases_lt, eqb-true}
use Rattle.ig_space.specs.declared.point.Point.{Point}
use Rattle.ig_space.specs.declared.point.Box3.{Box3}
use Rattle.ig_space.specs.declared.geometry.Geometry.{Geometry}
use Rattle.ig_space.specs.declared.geometry.Grid.{Grid}
use Rattle.ig_space.specs.Geometry.{count, geometry_fits}
use Rattle.ig_space.specs.Grid.{IsGrid, IsWithin, cell, cell_count, cell_of, chunks_of, counts, high_along, hull, index_along, low_along, point_at, size_of, space_of}
use Rattle.ig_space.specs.Cells.{cell-within}
use Rattle.ig_space.specs.CellBoxes.{chunks-IsGrid}
use Rattle.ig_space.specs.Hulls.{IsPart, hull_high, hull_high-above, hull_low, hull_low-below, part-x, part-y, part-z}
use Rattle.ig_record.specs.declared.stage.Stage.{Stage}
use Rattle.ig_record.specs.SoundStages.{IsSound, tasks-IsGrid}
use Rattle.ig_record.specs.Stage.{cells, greatest, hull_voxels, task_box, task_count, task_grid, task_size, unfit_axis}

-- ---- shapes
abbrev axis_of : Bool → Bool → Bool → Option ℕ
axis_of x y z = if x then (if y then (if z then None else Some 2) else Some 1) else Some 0

all_whole : (x y z : Bool) → axis_of x y z ≡ None → (x ≡ true) × (y ≡ true) × (z ≡ true)
all_whole true true true none = (refl, refl, refl)
all_whole true true false none = absurd (cc)
all_whole true false z none = absurd (cc)
all_whole false y z none = absurd (cc)

-- each side of the shape is a multiple of the chunk's
pub record IsWhole (unit shape : Point) : Type 0 where
  pub x : shape.x % unit.x ≡ 0
  pub y : shape.y % unit.y ≡ 0
  pub z : shape.z % unit.z ≡ 0

pub unfit_axis-none : (unit shape : Point) → unfit_axis unit shape ≡ None → IsWhole unit shape
unfit_axis-none unit shape none =
    let all = all_whole (shape.x % unit.x == 0) (shape.y % unit.y == 0) (shape.z % unit.z == 0) none in
    record { x = eqb-true _ _ all.0; y = eqb-true _ _ all.1; z = eqb-true _ _ all.2 }

greatest-once : (f : ℕ → ℕ) (n k : ℕ) → k < suc n → (k < n → f k ≤ greatest f n) → (k < n) ⊎ (n ≤ k) → f k ≤ greatest f (suc n)
greatest-once f n k below before (inl less) = omega (arith, before less)
greatest-once f n k below before (inr last) =
    let same : f k ≡ f n = ap f (omega (arith, last, below)) in
    omega (arith, same)

greatest-above : (f : ℕ → ℕ) (n k : ℕ) → k < n → f k ≤ greatest f n
greatest-above f zero k below = absurd (omega (arith, below))
greatest-above f (suc n) k below = greatest-once f n k below (greatest-above f n k) (cases_lt k n)

-- how many voxels the chunks have that meet a box of this size
abbrev met_by : Stage → Point → ℕ → ℕ
met_by s step k = count (size_of (hull (chunks_of s.source.geometry) (cell (record { space = space_of s.source.geometry; step = step }) k)).space)

-- where the boxes of tasks are those of the shape, each meets chunks of few voxels
pub task_hull-few : (s : Stage) → IsSound s → task_size s.kind s ≡ s.shape → (k : ℕ) → k < task_count s → count (size_of (hull (chunks_of s.source.geometry) (task_box s k)).space) ≤ 2 ^ 24
task_hull-few s h size k below =
    let n = cell_count (cells s) in
    let each : k < n → met_by s s.shape k ≤ 2 ^ 24 = λ less. let most = greatest-above (hull_voxels s) n k less in omega (arith, h.light, most) in
    subst (λ (step : Point). k < cell_count (record { space = space_of s.source.geometry; step = step }) → met_by s step k ≤ 2 ^ 24) (sym size) each below

-- ---- one axis: steps of whole chunks
-- a part of the side from a cell of whole chunks on begins with a chunk
aligned-low : (lo step shape i : ℕ) → 1 ≤ step → shape % step ≡ 0 → hull_low lo step (low_along lo shape i) ≡ low_along lo shape i
aligned-low lo step shape i some whole =
    let rows : shape ≡ shape / step * step = omega (arith, div-add-mod' shape step, whole) in
    let cells : lo + i * shape - lo ≡ i * (shape / step) * step = grind arith in
    let number : index_along lo step (low_along lo shape i) ≡ i * (shape / step) = ap (λ n. n / step) cells ∙ mul-div_cancel (i * (shape / step)) some in
    ap (low_along lo step) number ∙ grind arith

-- and ends with one
aligned-high : (lo hi step shape a i : ℕ) → shape % step ≡ 0 → IsPart lo hi step a (high_along lo hi shape i)
    → hull_high lo hi step (high_along lo hi shape i) ≡ high_along lo hi shape i
aligned-high lo hi step shape a i whole part =
    let b = high_along lo hi shape i in
    let rows : shape ≡ shape / step * step = omega (arith, div-add-mod' shape step, whole) in
    let cells : (i + 1) * shape ≡ (i + 1) * (shape / step) * step = grind arith in
    let above = hull_high-above lo hi step a b part in
    let before : b - 1 - lo < (i + 1) * (shape / step) * step = omega (arith, cells, part.from, part.some) in
    let number : index_along lo step (b - 1) < (i + 1) * (shape / step) = (div-lt_iff_lt-mul part.step_some).1 before in
    let end : (index_along lo step (b - 1) + 1) * step ≤ (i + 1) * (shape / step) * step = mul-le-mul_right step (omega (arith, number)) in
    omega (arith, above, end, cells)

-- ---- three axes
-- a space cut by steps of whole chunks
pub cell-aligned : (space : Box3) (step shape i : Point) → IsWhole step shape → IsGrid (record { space = space; step = step })
    → IsWithin (cell_of (record { space = space; step = shape }) i) space
    → (hull (record { space = space; step = step }) (cell_of (record { space = space; step = shape }) i)).space ≡ cell_of (record { space = space; step = shape }) i
cell-aligned space step shape i whole grid within =
    let g : Grid = record { space = space; step = step } in
    let a : Box3 = cell_of (record { space = space; step = shape }) i in
    let lx = aligned-low space.lo.x step.x shape.x i.x grid.x_step whole.x in
    let ly = aligned-low space.lo.y step.y shape.y i.y grid.y_step whole.y in
    let lz = aligned-low space.lo.z step.z shape.z i.z grid.z_step whole.z in
    let hx = aligned-high space.lo.x space.hi.x step.x shape.x a.lo.x i.x whole.x (part-x g a grid within) in
    let hy = aligned-high space.lo.y space.hi.y step.y shape.y a.lo.y i.y whole.y (part-y g a grid within) in
    let hz = aligned-high space.lo.z space.hi.z step.z shape.z a.lo.z i.z whole.z (part-z g a grid within) in
    λ j. record { lo = record { x = lx j; y = ly j; z = lz j }; hi = record { x = hx j; y = hy j; z = hz j } }

-- where the shape is of whole chunks of a scale of the source's space, each task's box is made of such chunks
pub task_box-whole : (s : Stage) (g : Geometry) → IsGrid (task_grid s) → geometry_fits g ≡ true → space_of g ≡ space_of s.source.geometry → IsWhole g.chunk (task_size s.kind s) → (k : ℕ) → k < task_count s
    → (hull (chunks_of g) (task_box s k)).space ≡ task_box s k
task_box-whole s g tasks fits same whole k below =
    let grid = subst (λ space. IsGrid (record { space = space; step = g.chunk })) same (chunks-IsGrid g fits) in
    let aligned = cell-aligned (space_of s.source.geometry) g.chunk (task_size s.kind s) (point_at (counts (task_grid s)) k) whole grid (cell-within (task_grid s) tasks k below) in
    subst (λ space. (hull (record { space = space; step = g.chunk }) (task_box s k)).space ≡ task_box s k) (sym same) aligned

-- ---- few voxels
size-few : (a b : Box3) → IsWithin a b → count (size_of a) ≤ count (size_of b)
size-few a b h = mul-le-mul (omega (arith, h.x_from, h.x_to)) (mul-le-mul (omega (arith, h.y_from, h.y_to)) (omega (arith, h.z_from, h.z_to)))

pub hull-around : (g : Grid) (a : Box3) → IsGrid g → IsWithin a g.space → IsWithin a (hull g a).space
hull-around g a grid within = record {
  x_from = hull_low-below g.space.lo.x g.space.hi.x g.step.x a.lo.x a.hi.x (part-x g a grid within);
  x_some = within.x_some;
  x_to = hull_high-above g.space.lo.x g.space.hi.x g.step.x a.lo.x a.hi.x (part-x g a grid within);
  y_from = hull_low-below g.space.lo.y g.space.hi.y g.step.y a.lo.y a.hi.y (part-y g a grid within);
  y_some = within.y_some;
  y_to = hull_high-above g.space.lo.y g.space.hi.y g.step.y a.lo.y a.hi.y (part-y g a grid within);
  z_from = hull_low-below g.space.lo.z g.space.hi.z g.step.z a.lo.z a.hi.z (part-z g a grid within);
  z_some = within.z_some;
  z_to = hull_high-above g.space.lo.z g.space.hi.z g.step.z a.lo.z a.hi.z (part-z g a grid within);
}

pub task_box-few : (s : Stage) → IsSound s → task_size s.kind s ≡ s.shape → (k : ℕ) → k < task_count s → count (size_of (task_box s k)) ≤ 2 ^ 24
task_box-few s h size k below =
    let g = chunks_of s.source.geometry in
    let b = task_box s k in
    let grid = chunks-IsGrid s.source.geometry h.fits in
    let around = hull-around g b grid (cell-within (task_grid s) (tasks-IsGrid s h.fits h.shape.sides) k below) in
    let less = size-few b (hull g b).space around in
    omega (arith, less, task_hull-few s h size k below)
