-- The graph of the voxels of a box of a volume, which gives each voxel its label: steps by one along one axis, between voxels
-- with one nonzero label.
use Rattle.std.specs.Prelude.{ℕ, ◌+◌, ◌-◌, ◌≡◌, not, ◌==◌, ◌&&◌, List, map}
use Rattle.std.specs.List.{range_with_len}
use Rattle.ig_space.specs.declared.point.Point.{Point}
use Rattle.ig_space.specs.declared.point.Box3.{Box3}
use Rattle.ig_space.specs.Geometry.{count}
use Rattle.ig_space.specs.Grid.{point_at, size_of}
use Rattle.ig_space.specs.Volume.{place_of}
use Rattle.ig_graph.specs.Counts.{those_below}
use Rattle.ig_graph.specs.Graph.{Graph, is_root, part_of}
use Rattle.ig_label.specs.VoxelGraph.{are_beside}

-- the voxel with this number in a box, x fastest, then y, then z
abbrev pub voxel_at : Box3 → ℕ → Point
voxel_at b p = record { x = b.lo.x + (point_at (size_of b) p).x; y = b.lo.y + (point_at (size_of b) p).y; z = b.lo.z + (point_at (size_of b) p).z }

-- the number of a voxel in a box
abbrev pub place_in : Box3 → Point → ℕ
place_in b a = place_of (size_of b) (a.x - b.lo.x) (a.y - b.lo.y) (a.z - b.lo.z)

-- the label of a voxel
abbrev pub label_of : (ℕ → ℕ → ℕ → ℕ) → Point → ℕ
label_of volume a = volume a.x a.y a.z

-- The voxels of the box whose label is not 0, each a neighbour of those beside it that have its label.
abbrev pub box_graph : (ℕ → ℕ → ℕ → ℕ) → Box3 → Graph
box_graph volume b = record {
  size = count (size_of b);
  is_node = λ p. not (label_of volume (voxel_at b p) == 0);
  adj = λ p q. are_beside (voxel_at b p) (voxel_at b q) && (label_of volume (voxel_at b p) == label_of volume (voxel_at b q));
}

-- The lists have the parts of the box: each voxel's part, and of the parts 1, 2, .. the first voxel and the label.
pub record HaveParts (volume : ℕ → ℕ → ℕ → ℕ) (b : Box3) (local firsts values : List ℕ) : Type 0 where
  pub local_are : local ≡ map (part_of (box_graph volume b)) (range_with_len 0 (count (size_of b)))
  pub firsts_are : firsts ≡ those_below (is_root (box_graph volume b)) (count (size_of b))
  pub values_are : values ≡ map (λ p. label_of volume (voxel_at b p)) firsts
