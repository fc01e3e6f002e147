-- The cells of a grid of tasks, halved, are those of the halved grid.
use Rattle.std.specs.Prelude.{◌≡◌, ℕ, zero, suc, ◌+◌, ◌-◌, ◌*◌, ◌/◌, ◌^◌, ◌<◌, ◌≤◌, ◌↔◌, ◌⊎◌, min, true}
use Rattle.std.proofs.Common.{arith, refl, ap, sym, ◌∙◌, inl, inr, ⊎_elim}
use Rattle.std.proofs.Math.Nat.{div-lt_iff_lt-mul}
use Rattle.std.proofs.lemmas.Bool.{and_from, and_parts, cases_lt, le-leb}
use Rattle.std.proofs.lemmas.Nat.{pow_pos}
use Rattle.ig_space.specs.declared.point.Point.{Point}
use Rattle.ig_space.specs.declared.point.Box3.{Box3}
use Rattle.ig_space.specs.declared.geometry.Geometry.{Geometry}
use Rattle.ig_space.specs.Geometry.{Fits-from, count, geometry_fits, largest_place}
use Rattle.ig_space.specs.Cells.{cell-within}
use Rattle.ig_space.specs.Grid.{IsGrid, cell, cell_count, cell_of, count_along, counts, high_along, low_along, point_at, space_of}
use Rattle.ig_mode.specs.Mode.{half_up}
use Rattle.ig_mode.specs.Mips.{down_times, halved_offset, offset_times, up_times}
use Rattle.ig_mode.specs.Aligned.{IsAligned, IsAlignedAlong}
use Rattle.ig_mode.specs.HalvedGrids.{halved_box, halved_geometry, halved_grid, halved_high, halved_low, halved_space, long_grid}
use Rattle.ig_mode.specs.Halves.{down-whole, ends-lower, power-double, up-min, up-some, up-whole}
use Rattle.ig_mode.specs.MipLaws.{size-after}

-- ---- one axis
-- so many steps reach over the side exactly where the product does
ceiling-le : (side step n : ℕ) → 1 ≤ step → ((side + (step - 1)) / step ≤ n) ↔ (side ≤ n * step)
ceiling-le side step n some =
    let by_less = div-lt_iff_lt-mul {k = step} {x = side + (step - 1)} {y = n + 1} some in (
      λ few. let less = by_less.0 (omega arith) in let more : (n + 1) * step ≡ n * step + step = grind arith in omega arith,
      λ over. let more : (n + 1) * step ≡ n * step + step = grind arith in let less = by_less.1 (omega arith) in omega arith,
    )

-- as many steps of this length as of one twice as long, once the side is halved
ceiling-half : (side step : ℕ) → 1 ≤ step → (half_up side + (step - 1)) / step ≡ (side + (2 * step - 1)) / (2 * step)
ceiling-half side step some =
    let a = (half_up side + (step - 1)) / step in
    let b = (side + (2 * step - 1)) / (2 * step) in
    let over : half_up side ≤ a * step = (ceiling-le (half_up side) step a some).0 (omega arith) in
    let over_twice : side ≤ b * (2 * step) = (ceiling-le side (2 * step) b (omega arith)).0 (omega arith) in
    let twice_a : a * (2 * step) ≡ 2 * (a * step) = grind arith in
    let twice_b : b * (2 * step) ≡ 2 * (b * step) = grind arith in
    let up : b ≤ a = (ceiling-le side (2 * step) a (omega arith)).1 (omega arith) in
    let down : a ≤ b = (ceiling-le (half_up side) step b some).1 (omega arith) in
    omega arith

step-some : (m step : ℕ) → 1 ≤ step → 1 ≤ 2 ^ m * step
step-some m step some = let power = pow_pos m in grind arith

ceiling-up : (m side step : ℕ) → 1 ≤ step → (up_times m side + (step - 1)) / step ≡ (side + (2 ^ m * step - 1)) / (2 ^ m * step)
ceiling-up zero side step some = let one : step ≡ 2 ^ 0 * step = omega arith in ap (λ s. (side + (s - 1)) / s) one
ceiling-up (suc m) side step some =
    ceiling-up m (half_up side) step some ∙ ceiling-half side (2 ^ m * step) (step-some m step some)
    ∙ ap (λ s. (side + (s - 1)) / s) (sym (power-double m step))

count-along : (m lo hi step : ℕ) → 1 ≤ step → count_along lo hi (2 ^ m * step) ≡ count_along (down_times m lo) (down_times m lo + up_times m (hi - lo)) step
count-along m lo hi step some =
    let same : down_times m lo + up_times m (hi - lo) - down_times m lo ≡ up_times m (hi - lo) = omega arith in
    sym (ap (λ n. (n + (step - 1)) / step) same ∙ ceiling-up m (hi - lo) step some)

-- where a cell begins and ends
low-halved : (m lo step i : ℕ) → halved_low m lo (low_along lo (2 ^ m * step) i) ≡ low_along (down_times m lo) step i
low-halved m lo step i =
    let same : lo + i * (2 ^ m * step) - lo ≡ 2 ^ m * (i * step) = grind arith in
    ap (λ n. down_times m lo + down_times m n) same ∙ ap (λ n. down_times m lo + n) (down-whole m (i * step))

high-halved : (m lo hi step i : ℕ)
    → halved_high m lo (high_along lo hi (2 ^ m * step) i) ≡ high_along (down_times m lo) (down_times m lo + up_times m (hi - lo)) step i
high-halved m lo hi step i =
    let product : (i + 1) * (2 ^ m * step) ≡ 2 ^ m * ((i + 1) * step) = grind arith in
    let less : min (lo + (i + 1) * (2 ^ m * step)) hi - lo ≡ min ((i + 1) * (2 ^ m * step)) (hi - lo) = omega arith in
    let lower = less ∙ ap (λ n. min n (hi - lo)) product in
    ap (λ n. down_times m lo + up_times m n) lower
    ∙ ap (λ n. down_times m lo + n) (up-min m (2 ^ m * ((i + 1) * step)) (hi - lo) ∙ ap (λ n. min n (up_times m (hi - lo))) (up-whole m ((i + 1) * step)))
    ∙ omega arith

-- ---- three axes
step-down : (m step : ℕ) → 1 ≤ 2 ^ m * step → 1 ≤ step
step-down m zero some = let none : 2 ^ m * 0 ≡ 0 = omega arith in omega arith
step-down m (suc step) some = omega arith

pub grid-halved : (m : ℕ) (space : Box3) (step : Point) → IsGrid (long_grid m space step) → IsGrid (halved_grid m space step)
grid-halved m space step grid = record {
  x_step = step-down m step.x grid.x_step;
  y_step = step-down m step.y grid.y_step;
  z_step = grid.z_step;
  x_order = omega arith;
  y_order = omega arith;
  z_order = omega arith;
  x_small = let lower = ends-lower m space.lo.x (space.hi.x - space.lo.x) in omega (arith, grid.x_order, grid.x_small);
  y_small = let lower = ends-lower m space.lo.y (space.hi.y - space.lo.y) in omega (arith, grid.y_order, grid.y_small);
  z_small = omega (arith, grid.z_order, grid.z_small);
}

counts-halved : (m : ℕ) (space : Box3) (step : Point) → IsGrid (long_grid m space step) → counts (long_grid m space step) ≡ counts (halved_grid m space step)
counts-halved m space step grid =
    let x = count-along m space.lo.x space.hi.x step.x (step-down m step.x grid.x_step) in
    let y = count-along m space.lo.y space.hi.y step.y (step-down m step.y grid.y_step) in
    let side : space.hi.z - space.lo.z ≡ space.lo.z + (space.hi.z - space.lo.z) - space.lo.z = omega arith in
    let z = ap (λ n. (n + (step.z - 1)) / step.z) side in
    λ i. record { x = x i; y = y i; z = z i }

pub cells-as-many : (m : ℕ) (space : Box3) (step : Point) → IsGrid (long_grid m space step) → cell_count (long_grid m space step) ≡ cell_count (halved_grid m space step)
cells-as-many m space step grid = ap (λ (p : Point). count p) (counts-halved m space step grid)

cell_of-halved : (m : ℕ) (space : Box3) (step i : Point) → IsGrid (long_grid m space step)
    → halved_box m space.lo (cell_of (long_grid m space step) i) ≡ cell_of (halved_grid m space step) i
cell_of-halved m space step i grid =
    let low_x = low-halved m space.lo.x step.x i.x in
    let low_y = low-halved m space.lo.y step.y i.y in
    let high_x = high-halved m space.lo.x space.hi.x step.x i.x in
    let high_y = high-halved m space.lo.y space.hi.y step.y i.y in
    let high_z : high_along space.lo.z space.hi.z step.z i.z ≡ high_along space.lo.z (space.lo.z + (space.hi.z - space.lo.z)) step.z i.z = omega (arith, grid.z_order) in
    λ j. record {
      lo = record { x = low_x j; y = low_y j; z = low_along space.lo.z step.z i.z };
      hi = record { x = high_x j; y = high_y j; z = high_z j };
    }

-- a cell of the grid with long steps, halved, is the cell of the halved grid
pub cell-halved : (m : ℕ) (space : Box3) (step : Point) → IsGrid (long_grid m space step) → (k : ℕ)
    → halved_box m space.lo (cell (long_grid m space step) k) ≡ cell (halved_grid m space step) k
cell-halved m space step grid k =
    cell_of-halved m space step (point_at (counts (long_grid m space step)) k) grid
    ∙ ap (λ (c : Point). cell_of (halved_grid m space step) (point_at c k)) (counts-halved m space step grid)

-- and it is aligned
ends-whole : (m lo hi step i : ℕ) → ((n : ℕ) × (high_along lo hi (2 ^ m * step) i ≡ lo + 2 ^ m * n)) ⊎ (high_along lo hi (2 ^ m * step) i ≡ hi)
ends-whole m lo hi step i =
    let product : (i + 1) * (2 ^ m * step) ≡ 2 ^ m * ((i + 1) * step) = grind arith in
    ⊎_elim
    (λ (over : hi < lo + (i + 1) * (2 ^ m * step)). inr (omega arith))
    (λ (within : lo + (i + 1) * (2 ^ m * step) ≤ hi). inl ((i + 1) * step, omega arith))
    (cases_lt hi (lo + (i + 1) * (2 ^ m * step)))

along-cell : (m lo hi step i : ℕ) → low_along lo (2 ^ m * step) i < high_along lo hi (2 ^ m * step) i
    → IsAlignedAlong m lo hi (low_along lo (2 ^ m * step) i) (high_along lo hi (2 ^ m * step) i)
along-cell m lo hi step i some = record {
  place = i * step;
  begins = let product : i * (2 ^ m * step) ≡ 2 ^ m * (i * step) = grind arith in omega arith;
  order = omega arith;
  within = omega arith;
  ends = ends-whole m lo hi step i;
}

pub cell-aligned : (m : ℕ) (space : Box3) (step : Point) → IsGrid (long_grid m space step) → (k : ℕ) → k < cell_count (long_grid m space step)
    → IsAligned m space (cell (long_grid m space step) k)
cell-aligned m space step grid k below =
    let within = cell-within (long_grid m space step) grid k below in
    let i = point_at (counts (long_grid m space step)) k in
    record {
      x = along-cell m space.lo.x space.hi.x step.x i.x within.x_some;
      y = along-cell m space.lo.y space.hi.y step.y i.y within.y_some;
      z_from = within.z_from;
      z_to = within.z_to;
    }

-- ---- a geometry
pub space-halved : (m : ℕ) (g : Geometry) → halved_space m (space_of g) ≡ space_of (halved_geometry m g)
space-halved m g =
    let back : (a s : ℕ) → a + s - a ≡ s = λ a s. omega arith in
    λ i. record {
      lo = offset_times m g.offset;
      hi = record {
        x = down_times m g.offset.x + up_times m (back g.offset.x g.size.x i);
        y = down_times m g.offset.y + up_times m (back g.offset.y g.size.y i);
        z = g.offset.z + back g.offset.z g.size.z i;
      };
    }

offset-after : (m : ℕ) (offset : Point) → halved_offset (offset_times m offset) ≡ offset_times (suc m) offset
offset-after zero offset = refl
offset-after (suc m) offset = offset-after m (halved_offset offset)

pub geometry-after : (m : ℕ) (g : Geometry) → halved_geometry 1 (halved_geometry m g) ≡ halved_geometry (m + 1) g
geometry-after m g =
    let one : suc m ≡ m + 1 = omega arith in
    (λ i. record { offset = offset-after m g.offset i; size = size-after m g.size i; chunk = g.chunk; width = g.width; encoding = g.encoding })
    ∙ ap (λ n. halved_geometry n g) one

pub geometry-fits : (m : ℕ) (g : Geometry) → geometry_fits g ≡ true → geometry_fits (halved_geometry m g) ≡ true
unfolding geometry_fits
geometry-fits m g h =
    let fits = Fits-from g h in
    let x = up-some m g.size.x fits.x_some in
    let y = up-some m g.size.y fits.y_some in
    let x_ends : down_times m g.offset.x + up_times m g.size.x ≤ largest_place = omega (arith, ends-lower m g.offset.x g.size.x, fits.x_ends) in
    let y_ends : down_times m g.offset.y + up_times m g.size.y ≤ largest_place = omega (arith, ends-lower m g.offset.y g.size.y, fits.y_ends) in
    let p = and_parts _ _ h in
    let q = and_parts _ _ p.0 in
    and_from _ _
    (and_from _ _
    (and_from _ _
    (and_from _ _ (and_from _ _ (le-leb 1 _ x) (le-leb 1 _ y)) (le-leb 1 _ fits.z_some))
    (and_from _ _
    (and_from _ _ (le-leb _ largest_place x_ends) (le-leb _ largest_place y_ends))
    (le-leb _ largest_place fits.z_ends)))
    q.1)
    p.1
