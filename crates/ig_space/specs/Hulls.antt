-- Laws on the cells that meet a box.
use Rattle.std.specs.Prelude.{◌≡◌, ℕ, ◌+◌, ◌-◌, ◌*◌, ◌<◌, ◌≤◌}
use Rattle.std.proofs.Common.{arith, ap, sym, ◌∙◌}
use Rattle.std.proofs.Math.Nat.{div-mul-le_self, lt-div-mul-add, lt_of_mul-lt-mul_right, mul-le-mul_right}
use Rattle.std.proofs.lemmas.Nat.{div-mul-add}
use Rattle.ig_space.specs.declared.point.Point.{Point}
use Rattle.ig_space.specs.declared.point.Box3.{Box3}
use Rattle.ig_space.specs.declared.geometry.Grid.{Grid}
use Rattle.ig_space.specs.Grid.{IsGrid, IsIn, IsWithin, cell_at, cell_of, count_along, counts, high_along, hull, index_along, low_along}
use Rattle.ig_space.specs.Cells.{IsPlace, index-from, index-to, index_of, index_of-place, low-below}

-- ---- one axis: the side from lo to hi, and in it the part from a to b
-- the part is some of the side
pub record IsPart (lo hi step a b : ℕ) : Type 0 where
  pub step_some : 1 ≤ step
  pub from : lo ≤ a
  pub some : a < b
  pub to : b ≤ hi

-- where the cells of the part begin and end
abbrev pub hull_low : ℕ → ℕ → ℕ → ℕ
hull_low lo step a = low_along lo step (index_along lo step a)

abbrev pub hull_high : ℕ → ℕ → ℕ → ℕ → ℕ
hull_high lo hi step b = high_along lo hi step (index_along lo step (b - 1))

pub hull_low-below : (lo hi step a b : ℕ) → IsPart lo hi step a b → hull_low lo step a ≤ a
hull_low-below lo hi step a b part = index-from lo step a part.from

pub hull_high-above : (lo hi step a b : ℕ) → IsPart lo hi step a b → b ≤ hull_high lo hi step b
hull_high-above lo hi step a b part =
    let last = index-to lo hi step (b - 1) part.step_some (omega (arith, part.from, part.some)) (omega (arith, part.some, part.to)) in
    omega (arith, last)

-- the cell of a coordinate of the hull begins and ends where that of the side does
pub hull-index : (lo hi step a b x : ℕ) → IsPart lo hi step a b → hull_low lo step a ≤ x
    → index_along lo step x ≡ index_along lo step a + index_along (hull_low lo step a) step x
hull-index lo hi step a b x part from =
    let first = index_along lo step a in
    let more = index_along (hull_low lo step a) step x in
    let start : more * step ≤ x - (lo + first * step) = div-mul-le_self (x - (lo + first * step)) step in
    let end : x - (lo + first * step) < more * step + step = lt-div-mul-add part.step_some in
    let whole : x - lo ≡ (first + more) * step + (x - lo - (first + more) * step) = grind arith in
    let rest : x - lo - (first + more) * step < step = grind arith in
    rw whole (div-mul-add (first + more) step (x - lo - (first + more) * step) rest)

pub hull-low : (lo step a i : ℕ) → low_along (hull_low lo step a) step i ≡ low_along lo step (index_along lo step a + i)
hull-low lo step a i = grind arith

-- a cell of the part is one of the cells from that of a to that of b - 1
pub hull-few : (lo hi step a b i : ℕ) → IsPart lo hi step a b → i < count_along (hull_low lo step a) (hull_high lo hi step b) step
    → index_along lo step a + i ≤ index_along lo step (b - 1)
hull-few lo hi step a b i part below =
    let first = index_along lo step a in
    let last = index_along lo step (b - 1) in
    let start = low-below (hull_low lo step a) (hull_high lo hi step b) step i part.step_some below in
    let less : (first + i) * step < (last + 1) * step = grind arith in
    let order = lt_of_mul-lt-mul_right step less in
    omega (arith, order)

-- it ends where that cell of the side does
pub hull-high : (lo hi step first last i : ℕ) → first + i ≤ last
    → high_along (low_along lo step first) (high_along lo hi step last) step i ≡ high_along lo hi step (first + i)
hull-high lo hi step first last i few =
    let order : (first + i + 1) * step ≤ (last + 1) * step = mul-le-mul_right step (omega (arith, few)) in
    grind arith

-- it has a coordinate of the part
pub hull-before : (lo hi step a b i : ℕ) → IsPart lo hi step a b → i < count_along (hull_low lo step a) (hull_high lo hi step b) step
    → low_along (hull_low lo step a) step i < b
hull-before lo hi step a b i part below =
    let few = mul-le-mul_right step (hull-few lo hi step a b i part below) in
    let end = index-from lo step (b - 1) (omega (arith, part.from, part.some)) in
    let some = part.some in
    let e = hull-low lo step a i in
    omega (arith, few, end, some, e)

pub hull-after : (lo hi step a b i : ℕ) → IsPart lo hi step a b → i < count_along (hull_low lo step a) (hull_high lo hi step b) step
    → a < high_along (hull_low lo step a) (hull_high lo hi step b) step i
hull-after lo hi step a b i part below =
    let first = index_along lo step a in
    let end = index-to lo hi step a part.step_some part.from (omega (arith, part.some, part.to)) in
    let more : (first + 1) * step ≤ (first + i + 1) * step = mul-le-mul_right step (omega arith) in
    let e = hull-high lo hi step first (index_along lo step (b - 1)) i (hull-few lo hi step a b i part below) in
    omega (arith, end, more, e)

-- ---- three axes
pub part-x : (g : Grid) (a : Box3) → IsGrid g → IsWithin a g.space → IsPart g.space.lo.x g.space.hi.x g.step.x a.lo.x a.hi.x
part-x g a grid within = record { step_some = grid.x_step; from = within.x_from; some = within.x_some; to = within.x_to }

pub part-y : (g : Grid) (a : Box3) → IsGrid g → IsWithin a g.space → IsPart g.space.lo.y g.space.hi.y g.step.y a.lo.y a.hi.y
part-y g a grid within = record { step_some = grid.y_step; from = within.y_from; some = within.y_some; to = within.y_to }

pub part-z : (g : Grid) (a : Box3) → IsGrid g → IsWithin a g.space → IsPart g.space.lo.z g.space.hi.z g.step.z a.lo.z a.hi.z
part-z g a grid within = record { step_some = grid.z_step; from = within.z_from; some = within.z_some; to = within.z_to }

-- the hull lies in the space
pub hull-within : (g : Grid) (a : Box3) → IsGrid g → IsWithin a g.space → IsWithin (hull g a).space g.space
hull-within g a grid within =
    let x = part-x g a grid within in
    let y = part-y g a grid within in
    let z = part-z g a grid within in
    let x_low = hull_low-below g.space.lo.x g.space.hi.x g.step.x a.lo.x a.hi.x x in
    let y_low = hull_low-below g.space.lo.y g.space.hi.y g.step.y a.lo.y a.hi.y y in
    let z_low = hull_low-below g.space.lo.z g.space.hi.z g.step.z a.lo.z a.hi.z z in
    let x_high = hull_high-above g.space.lo.x g.space.hi.x g.step.x a.lo.x a.hi.x x in
    let y_high = hull_high-above g.space.lo.y g.space.hi.y g.step.y a.lo.y a.hi.y y in
    let z_high = hull_high-above g.space.lo.z g.space.hi.z g.step.z a.lo.z a.hi.z z in
    record {
      x_from = omega arith;
      x_some = omega (arith, x_low, x_high, x.some);
      x_to = omega arith;
      y_from = omega arith;
      y_some = omega (arith, y_low, y_high, y.some);
      y_to = omega arith;
      z_from = omega arith;
      z_some = omega (arith, z_low, z_high, z.some);
      z_to = omega arith;
    }

pub hull-IsGrid : (g : Grid) (a : Box3) → IsGrid g → IsWithin a g.space → IsGrid (hull g a)
hull-IsGrid g a grid within =
    let part = hull-within g a grid within in
    record {
      x_step = grid.x_step;
      y_step = grid.y_step;
      z_step = grid.z_step;
      x_order = omega (arith, part.x_some);
      y_order = omega (arith, part.y_some);
      z_order = omega (arith, part.z_some);
      x_small = omega (arith, part.x_to, grid.x_small);
      y_small = omega (arith, part.y_to, grid.y_small);
      z_small = omega (arith, part.z_to, grid.z_small);
    }

-- the hull of a box holds it
pub hull-holds : (g : Grid) (a : Box3) → IsGrid g → IsWithin a g.space → (x y z : ℕ) → IsIn a x y z → IsIn (hull g a).space x y z
hull-holds g a grid within x y z h =
    let x_low = hull_low-below g.space.lo.x g.space.hi.x g.step.x a.lo.x a.hi.x (part-x g a grid within) in
    let y_low = hull_low-below g.space.lo.y g.space.hi.y g.step.y a.lo.y a.hi.y (part-y g a grid within) in
    let z_low = hull_low-below g.space.lo.z g.space.hi.z g.step.z a.lo.z a.hi.z (part-z g a grid within) in
    let x_high = hull_high-above g.space.lo.x g.space.hi.x g.step.x a.lo.x a.hi.x (part-x g a grid within) in
    let y_high = hull_high-above g.space.lo.y g.space.hi.y g.step.y a.lo.y a.hi.y (part-y g a grid within) in
    let z_high = hull_high-above g.space.lo.z g.space.hi.z g.step.z a.lo.z a.hi.z (part-z g a grid within) in
    record {
      x_from = omega (arith, x_low, h.x_from);
      x_to = omega (arith, x_high, h.x_to);
      y_from = omega (arith, y_low, h.y_from);
      y_to = omega (arith, y_high, h.y_to);
      z_from = omega (arith, z_low, h.z_from);
      z_to = omega (arith, z_high, h.z_to);
    }

-- the numbers in the grid of a cell of the hull
abbrev pub shifted : Grid → Box3 → Point → Point
shifted g a i = record {
  x = index_along g.space.lo.x g.step.x a.lo.x + i.x;
  y = index_along g.space.lo.y g.step.y a.lo.y + i.y;
  z = index_along g.space.lo.z g.step.z a.lo.z + i.z;
}

pub hull-cell_of : (g : Grid) (a : Box3) → IsGrid g → IsWithin a g.space → (i : Point) → IsPlace i (counts (hull g a)) → cell_of (hull g a) i ≡ cell_of g (shifted g a i)
hull-cell_of g a grid within i place =
    let few_x = hull-few g.space.lo.x g.space.hi.x g.step.x a.lo.x a.hi.x i.x (part-x g a grid within) place.x in
    let few_y = hull-few g.space.lo.y g.space.hi.y g.step.y a.lo.y a.hi.y i.y (part-y g a grid within) place.y in
    let few_z = hull-few g.space.lo.z g.space.hi.z g.step.z a.lo.z a.hi.z i.z (part-z g a grid within) place.z in
    λ j. record {
      lo = record {
        x = hull-low g.space.lo.x g.step.x a.lo.x i.x j;
        y = hull-low g.space.lo.y g.step.y a.lo.y i.y j;
        z = hull-low g.space.lo.z g.step.z a.lo.z i.z j;
      };
      hi = record {
        x = hull-high g.space.lo.x g.space.hi.x g.step.x (index_along g.space.lo.x g.step.x a.lo.x) (index_along g.space.lo.x g.step.x (a.hi.x - 1)) i.x few_x j;
        y = hull-high g.space.lo.y g.space.hi.y g.step.y (index_along g.space.lo.y g.step.y a.lo.y) (index_along g.space.lo.y g.step.y (a.hi.y - 1)) i.y few_y j;
        z = hull-high g.space.lo.z g.space.hi.z g.step.z (index_along g.space.lo.z g.step.z a.lo.z) (index_along g.space.lo.z g.step.z (a.hi.z - 1)) i.z few_z j;
      };
    }

pub hull-index_of : (g : Grid) (a : Box3) → IsGrid g → IsWithin a g.space → (x y z : ℕ) → IsIn (hull g a).space x y z
    → index_of g x y z ≡ shifted g a (index_of (hull g a) x y z)
hull-index_of g a grid within x y z h =
    let ex = hull-index g.space.lo.x g.space.hi.x g.step.x a.lo.x a.hi.x x (part-x g a grid within) h.x_from in
    let ey = hull-index g.space.lo.y g.space.hi.y g.step.y a.lo.y a.hi.y y (part-y g a grid within) h.y_from in
    let ez = hull-index g.space.lo.z g.space.hi.z g.step.z a.lo.z a.hi.z z (part-z g a grid within) h.z_from in
    λ j. record { x = ex j; y = ey j; z = ez j }

-- its cells are the grid's
pub hull-cell_at : (g : Grid) (a : Box3) → IsGrid g → IsWithin a g.space → (x y z : ℕ) → IsIn (hull g a).space x y z
    → cell_at (hull g a) x y z ≡ cell_at g x y z
hull-cell_at g a grid within x y z h =
    let place = index_of-place (hull g a) (hull-IsGrid g a grid within) x y z h in
    hull-cell_of g a grid within (index_of (hull g a) x y z) place ∙ ap (cell_of g) (sym (hull-index_of g a grid within x y z h))

-- a voxel of the hull lies in the space
pub hull-in : (g : Grid) (a : Box3) → IsGrid g → IsWithin a g.space → (x y z : ℕ) → IsIn (hull g a).space x y z → IsIn g.space x y z
hull-in g a grid within x y z h =
    let part = hull-within g a grid within in
    record {
      x_from = omega (arith, part.x_from, h.x_from);
      x_to = omega (arith, part.x_to, h.x_to);
      y_from = omega (arith, part.y_from, h.y_from);
      y_to = omega (arith, part.y_to, h.y_to);
      z_from = omega (arith, part.z_from, h.z_from);
      z_to = omega (arith, part.z_to, h.z_to);
    }
