-- The graph of the voxels of a volume: steps by one along one axis, between voxels of one nonzero label.
use Rattle.std.specs.Prelude.{ℕ, ◌+◌, Bool, not, ◌==◌, ◌&&◌, ◌||◌, slice_index}
use Rattle.ig_space.specs.declared.point.Point.{Point}
use Rattle.ig_space.specs.Geometry.{count}
use Rattle.ig_space.specs.Grid.{point_at}
use Rattle.ig_space.specs.Volume.{Voxels}
use Rattle.ig_graph.specs.Graph.{Graph}

-- the label of the voxel with this number: x fastest, then y, then z
abbrev pub label_at : Voxels → ℕ → ℕ
label_at v p = slice_index v.labels p

-- two numbers differ by one
abbrev pub differ_by_one : ℕ → ℕ → Bool
differ_by_one i j = (i + 1 == j) || (j + 1 == i)

-- two points differ by one along one axis, and in nothing else
abbrev pub are_beside : Point → Point → Bool
are_beside a b =
    (differ_by_one a.x b.x && ((a.y == b.y) && (a.z == b.z)))
    || (((a.x == b.x) && (differ_by_one a.y b.y && (a.z == b.z)))
    || ((a.x == b.x) && ((a.y == b.y) && differ_by_one a.z b.z)))

-- The voxels whose label is not 0, each a neighbour of those beside it that have its label.
abbrev pub voxel_graph : Voxels → Graph
voxel_graph v = record {
  size = count v.size;
  is_node = λ p. not (label_at v p == 0);
  adj = λ p q. are_beside (point_at v.size p) (point_at v.size q) && (label_at v p == label_at v q);
}
