-- Links between the parts of the cells of a grid.
use Rattle.std.specs.Prelude.{ℕ, ◌+◌, Bool, not, ◌==◌, ◌&&◌, ◌||◌, nat_lt}
use Rattle.ig_space.specs.declared.point.Point.{Point}
use Rattle.ig_space.specs.declared.point.Box3.{Box3}
use Rattle.ig_space.specs.declared.geometry.Grid.{Grid}
use Rattle.ig_space.specs.Geometry.{count}
use Rattle.ig_space.specs.Grid.{cell, cell_count, counts, number_at, point_at, size_of}
use Rattle.ig_space.specs.Volume.{place_of}
use Rattle.ig_graph.specs.Graph.{Graph, part_of}
use Rattle.ig_grid.specs.Sums.{some_below}
use Rattle.ig_grid.specs.BoxGraph.{voxel_at, place_in, label_of, box_graph}
use Rattle.ig_grid.specs.Tiling.{Tiling, node_of, first_node, parts_graph}

pub data Axis : Type 0 where
  x_axis : Axis
  y_axis : Axis
  z_axis : Axis

-- a point's number along an axis, and the point one above along it
abbrev pub along : Axis → Point → ℕ
along x_axis a = a.x
along y_axis a = a.y
along z_axis a = a.z

abbrev pub up : Axis → Point → Point
up x_axis a = record { x = a.x + 1; y = a.y; z = a.z }
up y_axis a = record { x = a.x; y = a.y + 1; z = a.z }
up z_axis a = record { x = a.x; y = a.y; z = a.z + 1 }

-- the number of the cell with these three numbers
abbrev pub cell_number : Grid → Point → ℕ
cell_number g i = place_of (counts g) i.x i.y i.z

-- the cell k has an upper neighbour along the axis, and that is l
abbrev pub is_upper : Grid → Axis → ℕ → ℕ → Bool
is_upper g axis k l = nat_lt (along axis (point_at (counts g) k) + 1) (along axis (counts g)) && (l == cell_number g (up axis (point_at (counts g) k)))

-- Along the axis the voxel is in the last plane of `box`, it and the voxel beside it in the upper neighbour `other` have one
-- nonzero label, and they are of the parts `part` and `beyond` of these boxes.
abbrev pub is_touching : (ℕ → ℕ → ℕ → ℕ) → Axis → Box3 → Box3 → ℕ → ℕ → ℕ → Bool
is_touching volume axis box other part beyond i =
    (along axis (voxel_at box i) + 1 == along axis box.hi)
    && ((not (label_of volume (voxel_at box i) == 0) && (label_of volume (voxel_at box i) == label_of volume (up axis (voxel_at box i))))
    && ((part_of (box_graph volume box) i == part) && (part_of (box_graph volume other) (place_in other (up axis (voxel_at box i))) == beyond)))

-- some voxel shows that the parts are linked along the axis
abbrev pub is_linked_along : (ℕ → ℕ → ℕ → ℕ) → Grid → Axis → ℕ → ℕ → ℕ → ℕ → Bool
is_linked_along volume g axis k a l b =
    is_upper g axis k l && some_below (is_touching volume axis (cell g k) (cell g l) a b) (count (size_of (cell g k)))

-- part a of cell k is linked with part b of its upper neighbour l along some axis
abbrev pub has_link : (ℕ → ℕ → ℕ → ℕ) → Grid → ℕ → ℕ → ℕ → ℕ → Bool
has_link volume g k a l b =
    is_linked_along volume g x_axis k a l b || (is_linked_along volume g y_axis k a l b || is_linked_along volume g z_axis k a l b)

-- the cell of the voxel with a number in the whole
abbrev pub cell_of_voxel : Grid → ℕ → ℕ
cell_of_voxel g p = number_at g (voxel_at g.space p).x (voxel_at g.space p).y (voxel_at g.space p).z

-- the volume in a grid's space, cut into the grid's cells
abbrev pub grid_tiling : (ℕ → ℕ → ℕ → ℕ) → Grid → Tiling
grid_tiling volume g = record {
  whole = box_graph volume g.space;
  cells = cell_count g;
  tile = λ k. box_graph volume (cell g k);
  cell = cell_of_voxel g;
  place = λ p. place_in (cell g (cell_of_voxel g p)) (voxel_at g.space p);
  back = λ k i. place_in g.space (voxel_at (cell g k) i);
  has_link = has_link volume g;
}

-- the whole volume's graph, and the graph of the cells' parts and their links
abbrev pub whole_graph : (ℕ → ℕ → ℕ → ℕ) → Grid → Graph
whole_graph volume g = box_graph volume g.space

abbrev pub links_graph : (ℕ → ℕ → ℕ → ℕ) → Grid → Graph
links_graph volume g = parts_graph (grid_tiling volume g)

-- the number of the part that a voxel has in its cell, and the first voxel of the part with a number
abbrev pub node_at : (ℕ → ℕ → ℕ → ℕ) → Grid → ℕ → ℕ
node_at volume g p = node_of (grid_tiling volume g) p

abbrev pub first_at : (ℕ → ℕ → ℕ → ℕ) → Grid → ℕ → ℕ
first_at volume g a = first_node (grid_tiling volume g) a
