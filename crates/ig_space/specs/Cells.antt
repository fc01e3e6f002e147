-- Laws on the cells of a grid.
use Rattle.std.specs.Prelude.{◌≡◌, ℕ, ◌+◌, ◌-◌, ◌*◌, ◌/◌, ◌%◌, ◌<◌, ◌≤◌, true}
use Rattle.std.proofs.Common.{arith, ap, ◌∙◌}
use Rattle.std.proofs.Math.Nat.{div-mul-le_self, lt-div-mul-add, le-div_iff_mul-le}
use Rattle.std.proofs.Math.Nat.{mod-lt, div-lt_iff_lt-mul}
use Rattle.std.proofs.lemmas.Bool.{and_parts, and_from, leb-true, le-leb, ltb-true, lt-ltb}
use Rattle.std.proofs.lemmas.Nat.{div-mul-add, mod-mul-add, le-div}
use Rattle.ig_space.specs.declared.point.Point.{Point}
use Rattle.ig_space.specs.declared.point.Box3.{Box3}
use Rattle.ig_space.specs.declared.geometry.Grid.{Grid}
use Rattle.ig_space.specs.Geometry.{count}
use Rattle.ig_space.specs.Grid.{IsGrid, IsIn, IsWithin, cell, cell_at, cell_count, cell_of, count_along, counts, high_along, index_along, is_in, low_along, number_at, point_at}

-- ---- one axis
-- a coordinate lies in its cell
pub index-from : (lo step x : ℕ) → lo ≤ x → low_along lo step (index_along lo step x) ≤ x
index-from lo step x from = omega (arith, div-mul-le_self (x - lo) step)

pub index-to : (lo hi step x : ℕ) → 1 ≤ step → lo ≤ x → x < hi → x < high_along lo hi step (index_along lo step x)
index-to lo hi step x some from to =
    let long : x - lo < (x - lo) / step * step + step = lt-div-mul-add some in
    grind arith

-- the cell that a coordinate lies in is the one of its index
pub index-is : (lo hi step i x : ℕ) → low_along lo step i ≤ x → x < high_along lo hi step i → index_along lo step x ≡ i
index-is lo hi step i x from to =
    let whole : x - lo ≡ i * step + (x - lo - i * step) = omega arith in
    let part : x - lo - i * step < step = grind arith in
    rw whole (div-mul-add i step (x - lo - i * step) part)

-- a coordinate of the side has one of the side's cells
pub index-below : (lo hi step x : ℕ) → 1 ≤ step → lo ≤ x → x < hi → index_along lo step x < count_along lo hi step
index-below lo hi step x some from to =
    let start = div-mul-le_self (x - lo) step in
    let fits : (index_along lo step x + 1) * step ≤ hi - lo + (step - 1) = grind arith in
    omega (arith, le-div (index_along lo step x + 1) (hi - lo + (step - 1)) step some fits)

-- a cell begins within the side
pub low-below : (lo hi step i : ℕ) → 1 ≤ step → i < count_along lo hi step → low_along lo step i < hi
low-below lo hi step i some below =
    let whole : (i + 1) * step ≤ hi - lo + (step - 1) = (le-div_iff_mul-le some).0 (omega arith) in
    grind arith

-- a cell has a coordinate
pub low-high : (lo hi step i : ℕ) → 1 ≤ step → i < count_along lo hi step → low_along lo step i < high_along lo hi step i
low-high lo hi step i some below =
    let in_side = low-below lo hi step i some below in
    grind arith

-- ---- numbers of points
-- the point that three numbers make, and the number of a point
pub point_at-is : (size : Point) (x y z : ℕ) → x < size.x → y < size.y
    → point_at size (x + size.x * (y + size.y * z)) ≡ record { x = x; y = y; z = z }
point_at-is size x y z x_below y_below =
    let row : x + size.x * (y + size.y * z) ≡ (y + size.y * z) * size.x + x = grind arith in
    let face : y + size.y * z ≡ z * size.y + y = grind arith in
    let ex : (x + size.x * (y + size.y * z)) % size.x ≡ x = ap (λ n. n % size.x) row ∙ mod-mul-add (y + size.y * z) size.x x x_below in
    let up : (x + size.x * (y + size.y * z)) / size.x ≡ y + size.y * z = ap (λ n. n / size.x) row ∙ div-mul-add (y + size.y * z) size.x x x_below in
    let ey : (x + size.x * (y + size.y * z)) / size.x % size.y ≡ y = ap (λ n. n % size.y) (up ∙ face) ∙ mod-mul-add z size.y y y_below in
    let ez : (x + size.x * (y + size.y * z)) / size.x / size.y ≡ z = ap (λ n. n / size.y) (up ∙ face) ∙ div-mul-add z size.y y y_below in
    λ i. record { x = ex i; y = ey i; z = ez i }

-- the point lies in a box of this size
pub record IsPlace (p size : Point) : Type 0 where
  pub x : p.x < size.x
  pub y : p.y < size.y
  pub z : p.z < size.z

pub point_at-place : (size : Point) (k : ℕ) → k < count size → IsPlace (point_at size k) size
point_at-place size k below =
    let x_some : 0 < size.x = grind arith in
    let y_some : 0 < size.y = grind arith in
    let rows : k / size.x < size.y * size.z = (div-lt_iff_lt-mul x_some).1 (grind arith) in
    record { x = mod-lt k x_some; y = mod-lt (k / size.x) y_some; z = (div-lt_iff_lt-mul y_some).1 (grind arith) }

pub number-below : (size p : Point) → IsPlace p size → p.x + size.x * (p.y + size.y * p.z) < count size
number-below size p place =
    let rows : p.y + size.y * p.z + 1 ≤ size.y * size.z = grind arith in
    let whole : size.x * (p.y + size.y * p.z + 1) ≤ size.x * (size.y * size.z) = grind arith in
    grind arith

-- ---- three axes
pub is_in-IsIn : (b : Box3) (x y z : ℕ) → is_in b x y z ≡ true → IsIn b x y z
is_in-IsIn b x y z h =
    let p = and_parts _ _ h in
    let q = and_parts _ _ p.0 in
    let r = and_parts _ _ q.0 in
    let s = and_parts _ _ r.0 in
    let t = and_parts _ _ s.0 in
    record {
      x_from = leb-true b.lo.x x t.0;
      x_to = ltb-true x b.hi.x t.1;
      y_from = leb-true b.lo.y y s.1;
      y_to = ltb-true y b.hi.y r.1;
      z_from = leb-true b.lo.z z q.1;
      z_to = ltb-true z b.hi.z p.1;
    }

pub IsIn-is_in : (b : Box3) (x y z : ℕ) → IsIn b x y z → is_in b x y z ≡ true
IsIn-is_in b x y z h =
    and_from _ _ (and_from _ _ (and_from _ _ (and_from _ _ (and_from _ _
    (le-leb b.lo.x x h.x_from) (lt-ltb x b.hi.x h.x_to)) (le-leb b.lo.y y h.y_from)) (lt-ltb y b.hi.y h.y_to))
    (le-leb b.lo.z z h.z_from)) (lt-ltb z b.hi.z h.z_to)

-- the three numbers of the cell that the voxel lies in
abbrev pub index_of : Grid → ℕ → ℕ → ℕ → Point
index_of g x y z = record { x = index_along g.space.lo.x g.step.x x; y = index_along g.space.lo.y g.step.y y; z = index_along g.space.lo.z g.step.z z }

pub index_of-place : (g : Grid) → IsGrid g → (x y z : ℕ) → IsIn g.space x y z → IsPlace (index_of g x y z) (counts g)
index_of-place g grid x y z h = record {
  x = index-below g.space.lo.x g.space.hi.x g.step.x x grid.x_step h.x_from h.x_to;
  y = index-below g.space.lo.y g.space.hi.y g.step.y y grid.y_step h.y_from h.y_to;
  z = index-below g.space.lo.z g.space.hi.z g.step.z z grid.z_step h.z_from h.z_to;
}

pub index_of-is : (g : Grid) (i : Point) (x y z : ℕ) → IsIn (cell_of g i) x y z → index_of g x y z ≡ i
index_of-is g i x y z h =
    let ex = index-is g.space.lo.x g.space.hi.x g.step.x i.x x h.x_from h.x_to in
    let ey = index-is g.space.lo.y g.space.hi.y g.step.y i.y y h.y_from h.y_to in
    let ez = index-is g.space.lo.z g.space.hi.z g.step.z i.z z h.z_from h.z_to in
    λ j. record { x = ex j; y = ey j; z = ez j }

-- a voxel that lies in a cell has that cell
pub cell_at-is : (g : Grid) → IsGrid g → (k x y z : ℕ) → k < cell_count g → IsIn (cell g k) x y z → cell_at g x y z ≡ cell g k
cell_at-is g grid k x y z below h = ap (cell_of g) (index_of-is g (point_at (counts g) k) x y z h)

-- each voxel of the space lies in its cell
pub cell_at-in : (g : Grid) → IsGrid g → (x y z : ℕ) → IsIn g.space x y z → IsIn (cell_at g x y z) x y z
cell_at-in g grid x y z h = record {
  x_from = index-from g.space.lo.x g.step.x x h.x_from;
  x_to = index-to g.space.lo.x g.space.hi.x g.step.x x grid.x_step h.x_from h.x_to;
  y_from = index-from g.space.lo.y g.step.y y h.y_from;
  y_to = index-to g.space.lo.y g.space.hi.y g.step.y y grid.y_step h.y_from h.y_to;
  z_from = index-from g.space.lo.z g.step.z z h.z_from;
  z_to = index-to g.space.lo.z g.space.hi.z g.step.z z grid.z_step h.z_from h.z_to;
}

pub number_at-below : (g : Grid) → IsGrid g → (x y z : ℕ) → IsIn g.space x y z → number_at g x y z < cell_count g
number_at-below g grid x y z h = number-below (counts g) (index_of g x y z) (index_of-place g grid x y z h)

pub cell-number_at : (g : Grid) → IsGrid g → (x y z : ℕ) → IsIn g.space x y z → cell g (number_at g x y z) ≡ cell_at g x y z
cell-number_at g grid x y z h =
    let place = index_of-place g grid x y z h in
    let i = index_of g x y z in
    ap (cell_of g) (point_at-is (counts g) i.x i.y i.z place.x place.y)

-- each cell lies in the space and isn't empty
pub cell-within : (g : Grid) → IsGrid g → (k : ℕ) → k < cell_count g → IsWithin (cell g k) g.space
cell-within g grid k below =
    let i = point_at (counts g) k in
    let place = point_at-place (counts g) k below in
    record {
      x_from = omega arith;
      x_some = low-high g.space.lo.x g.space.hi.x g.step.x i.x grid.x_step place.x;
      x_to = omega arith;
      y_from = omega arith;
      y_some = low-high g.space.lo.y g.space.hi.y g.step.y i.y grid.y_step place.y;
      y_to = omega arith;
      z_from = omega arith;
      z_some = low-high g.space.lo.z g.space.hi.z g.step.z i.z grid.z_step place.z;
      z_to = omega arith;
    }

-- the first voxel of a cell lies in it, and in the space
pub low-in_cell : (g : Grid) → IsGrid g → (k : ℕ) → k < cell_count g → IsIn (cell g k) (cell g k).lo.x (cell g k).lo.y (cell g k).lo.z
low-in_cell g grid k below =
    let part = cell-within g grid k below in
    record { x_from = omega arith; x_to = part.x_some; y_from = omega arith; y_to = part.y_some; z_from = omega arith; z_to = part.z_some }

pub low-in_space : (g : Grid) → IsGrid g → (k : ℕ) → k < cell_count g → IsIn g.space (cell g k).lo.x (cell g k).lo.y (cell g k).lo.z
low-in_space g grid k below =
    let part = cell-within g grid k below in
    record {
      x_from = part.x_from;
      x_to = omega (arith, part.x_some, part.x_to);
      y_from = part.y_from;
      y_to = omega (arith, part.y_some, part.y_to);
      z_from = part.z_from;
      z_to = omega (arith, part.z_some, part.z_to);
    }
