-- Each cell of a hull meets the box, and they stand in the order of the grid.
use Rattle.std.specs.Prelude.{◌≡◌, ℕ, ◌+◌, ◌-◌, ◌*◌, ◌/◌, ◌%◌, ◌<◌, ◌≤◌, max}
use Rattle.std.proofs.Common.{arith, ap, sym, ◌∙◌, ◌⊎◌, inl, inr}
use Rattle.std.proofs.Math.Nat.{mul-le-mul_left, div-mul-le_self, mod-lt, div-add-mod}
use Rattle.std.proofs.lemmas.Bool.{cases_lt}
use Rattle.std.proofs.lemmas.Nat.{le-div}
use Rattle.ig_space.specs.declared.point.Point.{Point}
use Rattle.ig_space.specs.declared.point.Box3.{Box3}
use Rattle.ig_space.specs.declared.geometry.Grid.{Grid}
use Rattle.ig_space.specs.Grid.{IsGrid, IsIn, IsWithin, Meets, cell, cell_at, cell_count, count_along, counts, high_along, hull, index_along, low_along, number_at, point_at}
use Rattle.ig_space.specs.Cells.{cell-number_at, cell_at-is, low-in_cell, low-in_space, index-below, index_of, index_of-is, low-high, number_at-below, point_at-place}
use Rattle.ig_space.specs.Hulls.{IsPart, hull-in, hull-IsGrid, hull-after, hull-before, hull-cell_at, hull-few, hull-holds, hull-index_of, hull_high, hull_low, part-x, part-y, part-z, shifted}

-- ---- one axis: a coordinate that lies in a cell of the hull and in the part
pub record IsShared (a b low high : ℕ) : Type 0 where
  pub x : ℕ
  pub low_from : low ≤ x
  pub low_to : x < high
  pub from : a ≤ x
  pub to : x < b

pub hull-shared : (lo hi step a b i : ℕ) → IsPart lo hi step a b → i < count_along (hull_low lo step a) (hull_high lo hi step b) step
    → IsShared a b (low_along (hull_low lo step a) step i) (high_along (hull_low lo step a) (hull_high lo hi step b) step i)
hull-shared lo hi step a b i part below =
    let low = low_along (hull_low lo step a) step i in
    let before = hull-before lo hi step a b i part below in
    let after = hull-after lo hi step a b i part below in
    let some = low-high (hull_low lo step a) (hull_high lo hi step b) step i part.step_some below in
    record {
      x = max low a;
      low_from = omega arith;
      low_to = omega (arith, after, some);
      from = omega arith;
      to = omega (arith, before, part.some);
    }

-- each cell of the hull meets the box
pub hull-meets : (g : Grid) (a : Box3) → IsGrid g → IsWithin a g.space → (k : ℕ) → k < cell_count (hull g a) → Meets (cell (hull g a) k) a
hull-meets g a grid within k below =
    let i = point_at (counts (hull g a)) k in
    let place = point_at-place (counts (hull g a)) k below in
    let x = hull-shared g.space.lo.x g.space.hi.x g.step.x a.lo.x a.hi.x i.x (part-x g a grid within) place.x in
    let y = hull-shared g.space.lo.y g.space.hi.y g.step.y a.lo.y a.hi.y i.y (part-y g a grid within) place.y in
    let z = hull-shared g.space.lo.z g.space.hi.z g.step.z a.lo.z a.hi.z i.z (part-z g a grid within) place.z in
    record {
      x = x.x;
      y = y.x;
      z = z.x;
      in_left = record { x_from = x.low_from; x_to = x.low_to; y_from = y.low_from; y_to = y.low_to; z_from = z.low_from; z_to = z.low_to };
      in_right = record { x_from = x.from; x_to = x.to; y_from = y.from; y_to = y.to; z_from = z.from; z_to = z.to };
    }

-- the cell of each voxel of the box is one of the hull's, by its number
pub hull-numbers : (g : Grid) (a : Box3) → IsGrid g → IsWithin a g.space → (x y z : ℕ) → IsIn a x y z
    → (number_at (hull g a) x y z < cell_count (hull g a)) × (cell (hull g a) (number_at (hull g a) x y z) ≡ cell_at g x y z)
hull-numbers g a grid within x y z h =
    let inside = hull-holds g a grid within x y z h in
    let whole = hull-IsGrid g a grid within in
    (number_at-below (hull g a) whole x y z inside, cell-number_at (hull g a) whole x y z inside ∙ hull-cell_at g a grid within x y z inside)

-- ---- in the order of the grid
-- a number of two digits of which the higher one rises, or stays with the lower one rising
by_higher : (c p q r s : ℕ) → p < c → r < s → p + c * r < q + c * s
by_higher c p q r s below less =
    let more : c * (r + 1) ≤ c * s = mul-le-mul_left c (omega (arith, less)) in
    grind arith

digits : (n c f j k r s : ℕ) → f + n ≤ c → 0 < n → j < k → (j / n < k / n → r < s) → (j / n ≡ k / n → r ≡ s)
    → (j / n < k / n) ⊎ (k / n ≤ j / n) → f + j % n + c * r < f + k % n + c * s
digits n c f j k r s fits some less up same (inl higher) =
    by_higher c (f + j % n) (f + k % n) r s (omega (arith, fits, mod-lt j some)) (up higher)
digits n c f j k r s fits some less up same (inr other) =
    let lower : n * (k / n) ≤ n * (j / n) = mul-le-mul_left n other in
    let whole_j = div-add-mod j n in
    let whole_k = div-add-mod k n in
    let rest : j % n < k % n = omega (arith, lower, whole_j, whole_k, less) in
    let order = le-div (j / n) k n some (omega (arith, div-mul-le_self j n, less)) in
    let equal : j / n ≡ k / n = omega (arith, order, other) in
    rw (same equal) (omega (arith, rest))

number_of-less : (nx ny cx cy fx fy fz j k : ℕ) → fx + nx ≤ cx → fy + ny ≤ cy → 0 < nx → 0 < ny → j < k
    → fx + j % nx + cx * (fy + j / nx % ny + cy * (fz + j / nx / ny)) < fx + k % nx + cx * (fy + k / nx % ny + cy * (fz + k / nx / ny))
number_of-less nx ny cx cy fx fy fz j k x_fits y_fits x_some y_some less =
    digits nx cx fx j k (fy + j / nx % ny + cy * (fz + j / nx / ny)) (fy + k / nx % ny + cy * (fz + k / nx / ny)) x_fits x_some less
    (λ up. digits ny cy fy (j / nx) (k / nx) (fz + j / nx / ny) (fz + k / nx / ny) y_fits y_some up
    (λ high. omega (arith, high)) (λ same. ap (λ n. fz + n) same) (cases_lt (j / nx / ny) (k / nx / ny)))
    (λ same. ap (λ n. fy + n % ny + cy * (fz + n / ny)) same) (cases_lt (j / nx) (k / nx))

-- the cells of the part are among those of the side
pub hull-fits : (lo hi step a b : ℕ) → IsPart lo hi step a b → 0 < count_along (hull_low lo step a) (hull_high lo hi step b) step
    → index_along lo step a + count_along (hull_low lo step a) (hull_high lo hi step b) step ≤ count_along lo hi step
hull-fits lo hi step a b part some =
    let n = count_along (hull_low lo step a) (hull_high lo hi step b) step in
    let few = hull-few lo hi step a b (n - 1) part (omega (arith, some)) in
    let last = index-below lo hi step (b - 1) part.step_some (omega (arith, part.from, part.some)) (omega (arith, part.some, part.to)) in
    omega (arith, few, last, some)

-- the numbers in the grid of the first voxel of a cell of the hull
pub hull-index_of_low : (g : Grid) (a : Box3) → IsGrid g → IsWithin a g.space → (k : ℕ) → k < cell_count (hull g a)
    → index_of g (cell (hull g a) k).lo.x (cell (hull g a) k).lo.y (cell (hull g a) k).lo.z ≡ shifted g a (point_at (counts (hull g a)) k)
hull-index_of_low g a grid within k below =
    let h = hull g a in
    let whole = hull-IsGrid g a grid within in
    let c = cell h k in
    hull-index_of g a grid within c.lo.x c.lo.y c.lo.z (low-in_space h whole k below)
    ∙ ap (shifted g a) (index_of-is h (point_at (counts h) k) c.lo.x c.lo.y c.lo.z (low-in_cell h whole k below))

-- each cell of the hull is a cell of the grid, the one of its first voxel
pub hull-cells : (g : Grid) (a : Box3) → IsGrid g → IsWithin a g.space → (k : ℕ) → k < cell_count (hull g a)
    → (number_at g (cell (hull g a) k).lo.x (cell (hull g a) k).lo.y (cell (hull g a) k).lo.z < cell_count g)
    × (cell g (number_at g (cell (hull g a) k).lo.x (cell (hull g a) k).lo.y (cell (hull g a) k).lo.z) ≡ cell (hull g a) k)
hull-cells g a grid within k below =
    let h = hull g a in
    let whole = hull-IsGrid g a grid within in
    let c = cell h k in
    let in_hull = low-in_space h whole k below in
    let in_space = hull-in g a grid within c.lo.x c.lo.y c.lo.z in_hull in
    let of_grid = cell-number_at g grid c.lo.x c.lo.y c.lo.z in_space in
    let of_hull = cell_at-is h whole k c.lo.x c.lo.y c.lo.z below (low-in_cell h whole k below) in
    (number_at-below g grid c.lo.x c.lo.y c.lo.z in_space, of_grid ∙ sym (hull-cell_at g a grid within c.lo.x c.lo.y c.lo.z in_hull) ∙ of_hull)

-- in the order of the grid
pub hull-ascends : (g : Grid) (a : Box3) → IsGrid g → IsWithin a g.space → (j k : ℕ) → j < k → k < cell_count (hull g a)
    → number_at g (cell (hull g a) j).lo.x (cell (hull g a) j).lo.y (cell (hull g a) j).lo.z
    < number_at g (cell (hull g a) k).lo.x (cell (hull g a) k).lo.y (cell (hull g a) k).lo.z
hull-ascends g a grid within j k less below =
    let n = counts (hull g a) in
    let c = counts g in
    let number : Point → ℕ = λ p. p.x + c.x * (p.y + c.y * p.z) in
    let ej = ap number (hull-index_of_low g a grid within j (omega (arith, less, below))) in
    let ek = ap number (hull-index_of_low g a grid within k below) in
    let place = point_at-place n k below in
    let x_some : 0 < n.x = omega (arith, place.x) in
    let y_some : 0 < n.y = omega (arith, place.y) in
    let x_fits = hull-fits g.space.lo.x g.space.hi.x g.step.x a.lo.x a.hi.x (part-x g a grid within) x_some in
    let y_fits = hull-fits g.space.lo.y g.space.hi.y g.step.y a.lo.y a.hi.y (part-y g a grid within) y_some in
    let order = number_of-less n.x n.y c.x c.y
    (index_along g.space.lo.x g.step.x a.lo.x) (index_along g.space.lo.y g.step.y a.lo.y) (index_along g.space.lo.z g.step.z a.lo.z)
    j k x_fits y_fits x_some y_some less in
    rw ej (rw ek order)
