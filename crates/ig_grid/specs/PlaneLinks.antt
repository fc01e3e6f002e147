-- Links between two cells, as the lists of their parts show them.
use Rattle.std.specs.Prelude.{ℕ, ◌+◌, ◌-◌, ◌≤◌, ◌<◌, ◌≡◌, List, slice_index}
use Rattle.ig_space.specs.declared.point.Box3.{Box3}
use Rattle.ig_space.specs.Geometry.{count}
use Rattle.ig_space.specs.Grid.{size_of}
use Rattle.ig_grid.specs.BoxGraph.{voxel_at, place_in}
use Rattle.ig_grid.specs.Links.{Axis, along, up}

-- A voxel in the last plane of `box` along the axis has the part a, and the one beside it in the upper neighbour `other` the
-- part b; and these parts have one label.
pub record IsPlaneLink (axis : Axis) (box other : Box3) (local values others labels : List ℕ) (a b : ℕ) : Type 0 where
  pub own_some : 1 ≤ a
  pub other_some : 1 ≤ b
  pub place : ℕ
  pub below : place < count (size_of box)
  pub last : along axis (voxel_at box place) + 1 ≡ along axis box.hi
  pub own : slice_index local place ≡ a
  pub other_is : slice_index others (place_in other (up axis (voxel_at box place))) ≡ b
  pub same_label : slice_index values (a - 1) ≡ slice_index labels (b - 1)
