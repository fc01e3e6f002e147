-- A volume as a size and a list of labels: x fastest, then y, then z (Neuroglancer precomputed volume format, "raw").
use Rattle.std.specs.Prelude.{ℕ, ◌+◌, ◌*◌, ◌^◌, ◌<◌, ◌≤◌, ◌≡◌, List, length, slice_index, ◌++◌, take, drop}
use Rattle.ig_space.specs.declared.point.Point.{Point}
use Rattle.ig_space.specs.Geometry.{count}

pub record Voxels : Type 0 where
  pub size : Point
  pub labels : List ℕ

-- with these labels written over the first ones
abbrev pub with_labels : Voxels → List ℕ → Voxels
with_labels v labels = record { size = v.size; labels = take (length v.labels) (labels ++ drop (length labels) v.labels) }

-- where the voxel at (x, y, z) stands in the list of a box of this size
abbrev pub place_of : Point → ℕ → ℕ → ℕ → ℕ
place_of size x y z = x + size.x * (y + size.y * z)

-- the label of the voxel
abbrev pub voxel : Voxels → ℕ → ℕ → ℕ → ℕ
voxel v x y z = slice_index v.labels (place_of v.size x y z)

-- the voxel is one of a box of this size
pub record IsInside (size : Point) (x y z : ℕ) : Type 0 where
  pub x_below : x < size.x
  pub y_below : y < size.y
  pub z_below : z < size.z

-- the labels are those of a box of this size, which has few voxels
pub record IsWhole (size : Point) (labels : List ℕ) : Type 0 where
  pub length : length labels ≡ count size
  pub bound : count size ≤ 2 ^ 24
