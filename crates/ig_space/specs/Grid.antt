-- Boxes, and spaces cut into cells (Neuroglancer precomputed volume format, "Unsharded chunk storage").
use Rattle.std.specs.Prelude.{ℕ, ◌+◌, ◌-◌, ◌*◌, ◌/◌, ◌%◌, ◌<◌, ◌≤◌, min, Bool, ◌&&◌, nat_le, nat_lt}
use Rattle.ig_space.specs.declared.point.Point.{Point}
use Rattle.ig_space.specs.declared.point.Box3.{Box3}
use Rattle.ig_space.specs.declared.geometry.Grid.{Grid}
use Rattle.ig_space.specs.declared.geometry.Geometry.{Geometry}
use Rattle.ig_space.specs.Geometry.{count, largest_place}

-- how long a box is on each axis
abbrev pub size_of : Box3 → Point
size_of b = record { x = b.hi.x - b.lo.x; y = b.hi.y - b.lo.y; z = b.hi.z - b.lo.z }

-- the whole box of a scale
abbrev pub space_of : Geometry → Box3
space_of g = record { lo = g.offset; hi = record { x = g.offset.x + g.size.x; y = g.offset.y + g.size.y; z = g.offset.z + g.size.z } }

-- the chunk grid of a scale
abbrev pub chunks_of : Geometry → Grid
chunks_of g = record { space = space_of g; step = g.chunk }

-- the point with this number in a box of this size: x fastest, then y, then z
abbrev pub point_at : Point → ℕ → Point
point_at size k = record { x = k % size.x; y = k / size.x % size.y; z = k / size.x / size.y }

-- ---- one axis: how many cells, where a cell begins and ends, the cell of a coordinate
abbrev pub count_along : ℕ → ℕ → ℕ → ℕ
count_along lo hi step = (hi - lo + (step - 1)) / step

abbrev pub low_along : ℕ → ℕ → ℕ → ℕ
low_along lo step i = lo + i * step

abbrev pub high_along : ℕ → ℕ → ℕ → ℕ → ℕ
high_along lo hi step i = min (lo + (i + 1) * step) hi

abbrev pub index_along : ℕ → ℕ → ℕ → ℕ
index_along lo step x = (x - lo) / step

-- ---- three axes
-- how many cells there are along each axis
abbrev pub counts : Grid → Point
counts g = record {
  x = count_along g.space.lo.x g.space.hi.x g.step.x;
  y = count_along g.space.lo.y g.space.hi.y g.step.y;
  z = count_along g.space.lo.z g.space.hi.z g.step.z;
}

-- how many cells there are
abbrev pub cell_count : Grid → ℕ
cell_count g = count (counts g)

-- the cell with these three numbers, clipped
abbrev pub cell_of : Grid → Point → Box3
cell_of g i = record {
  lo = record { x = low_along g.space.lo.x g.step.x i.x; y = low_along g.space.lo.y g.step.y i.y; z = low_along g.space.lo.z g.step.z i.z };
  hi = record { x = high_along g.space.lo.x g.space.hi.x g.step.x i.x; y = high_along g.space.lo.y g.space.hi.y g.step.y i.y; z = high_along g.space.lo.z g.space.hi.z g.step.z i.z };
}

-- the cell with this number, x fastest
abbrev pub cell : Grid → ℕ → Box3
cell g k = cell_of g (point_at (counts g) k)

-- the cell that the voxel lies in
abbrev pub cell_at : Grid → ℕ → ℕ → ℕ → Box3
cell_at g x y z = cell_of g (record { x = index_along g.space.lo.x g.step.x x; y = index_along g.space.lo.y g.step.y y; z = index_along g.space.lo.z g.step.z z })

-- the voxel lies in the box
abbrev pub is_in : Box3 → ℕ → ℕ → ℕ → Bool
is_in b x y z = nat_le b.lo.x x && nat_lt x b.hi.x && nat_le b.lo.y y && nat_lt y b.hi.y && nat_le b.lo.z z && nat_lt z b.hi.z

-- the number of the cell that the voxel lies in, x fastest
abbrev pub number_at : Grid → ℕ → ℕ → ℕ → ℕ
number_at g x y z =
    index_along g.space.lo.x g.step.x x
    + (counts g).x * (index_along g.space.lo.y g.step.y y + (counts g).y * index_along g.space.lo.z g.step.z z)

-- the grid of those cells that meet the box: its cells are cells of g, in the same order
abbrev pub hull : Grid → Box3 → Grid
hull g a = record {
  space = record {
    lo = (cell_at g a.lo.x a.lo.y a.lo.z).lo;
    hi = (cell_at g (a.hi.x - 1) (a.hi.y - 1) (a.hi.z - 1)).hi;
  };
  step = g.step;
}

-- the voxel lies in the box
pub record IsIn (b : Box3) (x y z : ℕ) : Type 0 where
  pub x_from : b.lo.x ≤ x
  pub x_to : x < b.hi.x
  pub y_from : b.lo.y ≤ y
  pub y_to : y < b.hi.y
  pub z_from : b.lo.z ≤ z
  pub z_to : z < b.hi.z

-- there is a voxel that lies in both boxes
pub record Meets (a b : Box3) : Type 0 where
  pub x : ℕ
  pub y : ℕ
  pub z : ℕ
  pub in_left : IsIn a x y z
  pub in_right : IsIn b x y z

-- the box isn't empty, and ends within the largest place
pub record IsBox (b : Box3) : Type 0 where
  pub x_some : b.lo.x < b.hi.x
  pub y_some : b.lo.y < b.hi.y
  pub z_some : b.lo.z < b.hi.z
  pub x_small : b.hi.x ≤ largest_place
  pub y_small : b.hi.y ≤ largest_place
  pub z_small : b.hi.z ≤ largest_place

-- a space cut into cells: steps of at least 1, and a space within the largest place
pub record IsGrid (g : Grid) : Type 0 where
  pub x_step : 1 ≤ g.step.x
  pub y_step : 1 ≤ g.step.y
  pub z_step : 1 ≤ g.step.z
  pub x_order : g.space.lo.x ≤ g.space.hi.x
  pub y_order : g.space.lo.y ≤ g.space.hi.y
  pub z_order : g.space.lo.z ≤ g.space.hi.z
  pub x_small : g.space.hi.x ≤ largest_place
  pub y_small : g.space.hi.y ≤ largest_place
  pub z_small : g.space.hi.z ≤ largest_place

-- the box isn't empty and lies in the space
pub record IsWithin (a space : Box3) : Type 0 where
  pub x_from : space.lo.x ≤ a.lo.x
  pub x_some : a.lo.x < a.hi.x
  pub x_to : a.hi.x ≤ space.hi.x
  pub y_from : space.lo.y ≤ a.lo.y
  pub y_some : a.lo.y < a.hi.y
  pub y_to : a.hi.y ≤ space.hi.y
  pub z_from : space.lo.z ≤ a.lo.z
  pub z_some : a.lo.z < a.hi.z
  pub z_to : a.hi.z ≤ space.hi.z
