-- Laws on cells along an axis: the next coordinate is in the same cell, or begins the next one.
use Rattle.std.proofs.Common.{ℕ, ◌+◌, ◌<◌, ◌≤◌, true, ◌≡◌, sym, ap, ◌∙◌, subst, ◌⊎◌, inl, inr, arith}
use Rattle.std.proofs.lemmas.Bool.{and_parts, eqb-true, ltb-true, cases_lt}
use Rattle.ig_space.specs.declared.point.Point.{Point}
use Rattle.ig_space.specs.declared.point.Box3.{Box3}
use Rattle.ig_space.specs.declared.geometry.Grid.{Grid}
use Rattle.ig_space.specs.Grid.{IsGrid, IsIn, cell, cell_at, cell_count, cell_of, count_along, counts, high_along, index_along, low_along, number_at, point_at}
use Rattle.ig_space.specs.Volume.{place_of}
use Rattle.ig_space.specs.Points.{place_of-point_at}
use Rattle.ig_space.specs.Cells.{IsPlace, cell-number_at, cell-within, cell_at-in, index-from, index-is, index-to, index_of, index_of-is, low-below, low-high, number-below, point_at-is, point_at-place}
use Rattle.ig_grid.specs.Links.{Axis, x_axis, y_axis, z_axis, along, up, cell_number, is_upper}

-- ---- one axis
next_begins : (lo hi step i x : ℕ) → 1 ≤ step → x < hi → x ≡ low_along lo step (i + 1) → x < high_along lo hi step (i + 1)
next_begins lo hi step i x some to edge = grind arith

-- the next coordinate has the same cell, or this is the cell's last one
pub next-index : (lo hi step x : ℕ) → 1 ≤ step → lo ≤ x → x + 1 < hi
    → (index_along lo step (x + 1) ≡ index_along lo step x)
    ⊎ ((index_along lo step (x + 1) ≡ index_along lo step x + 1) × (x + 1 ≡ high_along lo hi step (index_along lo step x)))
next-index lo hi step x some from to = by_case (cases_lt (x + 1) (high_along lo hi step i)) where
  i : ℕ
  i = index_along lo step x

  low : low_along lo step i ≤ x
  low = index-from lo step x from

  high : x < high_along lo hi step i
  high = index-to lo hi step x some from (omega (arith, to))

  by_case : (x + 1 < high_along lo hi step i) ⊎ (high_along lo hi step i ≤ x + 1)
      → (index_along lo step (x + 1) ≡ index_along lo step x)
      ⊎ ((index_along lo step (x + 1) ≡ index_along lo step x + 1) × (x + 1 ≡ high_along lo hi step (index_along lo step x)))
  by_case (inl l) = inl (index-is lo hi step i (x + 1) (omega (arith, low)) l)
  by_case (inr m) =
      let last : x + 1 ≡ high_along lo hi step i = omega (arith, high, m) in
      let edge : x + 1 ≡ low_along lo step (i + 1) = omega (arith, last, to) in
      inr (index-is lo hi step (i + 1) (x + 1) (omega (arith, edge)) (next_begins lo hi step i (x + 1) some to edge), last)

-- the cell after a cell begins where that ends
pub high-low : (lo hi step i : ℕ) → 1 ≤ step → i + 1 < count_along lo hi step → high_along lo hi step i ≡ low_along lo step (i + 1)
high-low lo hi step i some below = let l = low-below lo hi step (i + 1) some below in omega (arith, l)

-- ---- three axes
-- the point one above along the axis has the same cell, or begins the next one
pub data NextCell (g : Grid) (axis : Axis) (a : Point) : Type 0 where
  same_cell : number_at g (up axis a).x (up axis a).y (up axis a).z ≡ number_at g a.x a.y a.z → NextCell g axis a
  next_cell : index_of g (up axis a).x (up axis a).y (up axis a).z ≡ up axis (index_of g a.x a.y a.z)
      → along axis a + 1 ≡ along axis (cell_at g a.x a.y a.z).hi → NextCell g axis a

pub next-cell : (g : Grid) → IsGrid g → (axis : Axis) (a : Point) → IsIn g.space a.x a.y a.z → IsIn g.space (up axis a).x (up axis a).y (up axis a).z → NextCell g axis a
next-cell g grid x_axis a h n = by_case (next-index g.space.lo.x g.space.hi.x g.step.x a.x grid.x_step h.x_from n.x_to) where
  by_case : (index_along g.space.lo.x g.step.x (a.x + 1) ≡ index_along g.space.lo.x g.step.x a.x)
      ⊎ ((index_along g.space.lo.x g.step.x (a.x + 1) ≡ index_along g.space.lo.x g.step.x a.x + 1) × (a.x + 1 ≡ high_along g.space.lo.x g.space.hi.x g.step.x (index_along g.space.lo.x g.step.x a.x)))
      → NextCell g x_axis a
  by_case (inl e) = same_cell (ap (λ i. place_of (counts g) i (index_along g.space.lo.y g.step.y a.y) (index_along g.space.lo.z g.step.z a.z)) e)
  by_case (inr e) = next_cell (λ i. record { x = e.0 i; y = index_along g.space.lo.y g.step.y a.y; z = index_along g.space.lo.z g.step.z a.z }) e.1
next-cell g grid y_axis a h n = by_case (next-index g.space.lo.y g.space.hi.y g.step.y a.y grid.y_step h.y_from n.y_to) where
  by_case : (index_along g.space.lo.y g.step.y (a.y + 1) ≡ index_along g.space.lo.y g.step.y a.y)
      ⊎ ((index_along g.space.lo.y g.step.y (a.y + 1) ≡ index_along g.space.lo.y g.step.y a.y + 1) × (a.y + 1 ≡ high_along g.space.lo.y g.space.hi.y g.step.y (index_along g.space.lo.y g.step.y a.y)))
      → NextCell g y_axis a
  by_case (inl e) = same_cell (ap (λ i. place_of (counts g) (index_along g.space.lo.x g.step.x a.x) i (index_along g.space.lo.z g.step.z a.z)) e)
  by_case (inr e) = next_cell (λ i. record { x = index_along g.space.lo.x g.step.x a.x; y = e.0 i; z = index_along g.space.lo.z g.step.z a.z }) e.1
next-cell g grid z_axis a h n = by_case (next-index g.space.lo.z g.space.hi.z g.step.z a.z grid.z_step h.z_from n.z_to) where
  by_case : (index_along g.space.lo.z g.step.z (a.z + 1) ≡ index_along g.space.lo.z g.step.z a.z)
      ⊎ ((index_along g.space.lo.z g.step.z (a.z + 1) ≡ index_along g.space.lo.z g.step.z a.z + 1) × (a.z + 1 ≡ high_along g.space.lo.z g.space.hi.z g.step.z (index_along g.space.lo.z g.step.z a.z)))
      → NextCell g z_axis a
  by_case (inl e) = same_cell (ap (λ i. place_of (counts g) (index_along g.space.lo.x g.step.x a.x) (index_along g.space.lo.y g.step.y a.y) i) e)
  by_case (inr e) = next_cell (λ i. record { x = index_along g.space.lo.x g.step.x a.x; y = index_along g.space.lo.y g.step.y a.y; z = e.0 i }) e.1

-- ---- cells and their numbers
-- the voxel's cell, by its number
pub in-cell : (g : Grid) → IsGrid g → (a : Point) → IsIn g.space a.x a.y a.z → IsIn (cell g (number_at g a.x a.y a.z)) a.x a.y a.z
in-cell g grid a h = subst (λ (b : Box3). IsIn b a.x a.y a.z) (sym (cell-number_at g grid a.x a.y a.z h)) (cell_at-in g grid a.x a.y a.z h)

pub number-in_cell : (g : Grid) (k : ℕ) (a : Point) → k < cell_count g → IsIn (cell g k) a.x a.y a.z → number_at g a.x a.y a.z ≡ k
number-in_cell g k a l h =
    ap (λ (i : Point). place_of (counts g) i.x i.y i.z) (index_of-is g (point_at (counts g) k) a.x a.y a.z h) ∙ place_of-point_at (counts g) k

pub in-space : (g : Grid) → IsGrid g → (k : ℕ) (a : Point) → k < cell_count g → IsIn (cell g k) a.x a.y a.z → IsIn g.space a.x a.y a.z
in-space g grid k a l h =
    let part = cell-within g grid k l in
    record {
      x_from = omega (arith, part.x_from, h.x_from);
      x_to = omega (arith, part.x_to, h.x_to);
      y_from = omega (arith, part.y_from, h.y_from);
      y_to = omega (arith, part.y_to, h.y_to);
      z_from = omega (arith, part.z_from, h.z_from);
      z_to = omega (arith, part.z_to, h.z_to);
    }

-- ---- the upper neighbour
-- the numbers of the upper neighbour are those of a cell
pub up-place : (axis : Axis) (i size : Point) → IsPlace i size → along axis i + 1 < along axis size → IsPlace (up axis i) size
up-place x_axis i size place l = record { x = l; y = place.y; z = place.z }
up-place y_axis i size place l = record { x = place.x; y = l; z = place.z }
up-place z_axis i size place l = record { x = place.x; y = place.y; z = l }

pub record IsUpper (g : Grid) (axis : Axis) (k l : ℕ) : Type 0 where
  pub below : l < cell_count g
  pub room : along axis (point_at (counts g) k) + 1 < along axis (counts g)
  pub is : cell g l ≡ cell_of g (up axis (point_at (counts g) k))

pub upper-is : (g : Grid) (axis : Axis) (k l : ℕ) → k < cell_count g → is_upper g axis k l ≡ true → IsUpper g axis k l
upper-is g axis k l below h =
    let s = and_parts _ _ h in
    let room = ltb-true (along axis (point_at (counts g) k) + 1) (along axis (counts g)) s.0 in
    let e = eqb-true l (cell_number g (up axis (point_at (counts g) k))) s.1 in
    let i = up axis (point_at (counts g) k) in
    let place = up-place axis (point_at (counts g) k) (counts g) (point_at-place (counts g) k below) room in
    record {
      below = subst (λ n. n < cell_count g) (sym e) (number-below (counts g) i place);
      room = room;
      is = ap (cell g) e ∙ ap (cell_of g) (point_at-is (counts g) i.x i.y i.z place.x place.y);
    }

-- the voxel above the last plane of a cell is in the first plane of the next
above_in : (g : Grid) → IsGrid g → (axis : Axis) (i a : Point) → along axis i + 1 < along axis (counts g) → IsIn (cell_of g i) a.x a.y a.z
    → along axis a + 1 ≡ along axis (cell_of g i).hi
    → IsIn (cell_of g (up axis i)) (up axis a).x (up axis a).y (up axis a).z × (along axis (up axis a) ≡ along axis (cell_of g (up axis i)).lo)
above_in g grid x_axis i a room h last =
    let begin = last ∙ high-low g.space.lo.x g.space.hi.x g.step.x i.x grid.x_step room in
    let some = low-high g.space.lo.x g.space.hi.x g.step.x (i.x + 1) grid.x_step room in
    (record { x_from = omega (arith, begin); x_to = omega (arith, begin, some); y_from = h.y_from; y_to = h.y_to; z_from = h.z_from; z_to = h.z_to }, begin)
above_in g grid y_axis i a room h last =
    let begin = last ∙ high-low g.space.lo.y g.space.hi.y g.step.y i.y grid.y_step room in
    let some = low-high g.space.lo.y g.space.hi.y g.step.y (i.y + 1) grid.y_step room in
    (record { x_from = h.x_from; x_to = h.x_to; y_from = omega (arith, begin); y_to = omega (arith, begin, some); z_from = h.z_from; z_to = h.z_to }, begin)
above_in g grid z_axis i a room h last =
    let begin = last ∙ high-low g.space.lo.z g.space.hi.z g.step.z i.z grid.z_step room in
    let some = low-high g.space.lo.z g.space.hi.z g.step.z (i.z + 1) grid.z_step room in
    (record { x_from = h.x_from; x_to = h.x_to; y_from = h.y_from; y_to = h.y_to; z_from = omega (arith, begin); z_to = omega (arith, begin, some) }, begin)

pub above-first_plane : (g : Grid) → IsGrid g → (axis : Axis) (k l : ℕ) (a : Point) → k < cell_count g → is_upper g axis k l ≡ true → IsIn (cell g k) a.x a.y a.z
    → along axis a + 1 ≡ along axis (cell g k).hi
    → IsIn (cell g l) (up axis a).x (up axis a).y (up axis a).z × (along axis (up axis a) ≡ along axis (cell g l).lo)
above-first_plane g grid axis k l a below h inside last =
    let upper = upper-is g axis k l below h in
    subst (λ (b : Box3). IsIn b (up axis a).x (up axis a).y (up axis a).z × (along axis (up axis a) ≡ along axis b.lo)) (sym upper.is)
    (above_in g grid axis (point_at (counts g) k) a upper.room inside last)
