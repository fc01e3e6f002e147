-- A volume holds the mip of another, taken n times.
use Rattle.std.specs.Prelude.{ℕ, ◌+◌, ◌<◌, ◌≡◌, List, [], length, slice_index, slice_index_or}
use Rattle.ig_space.specs.declared.point.Point.{Point}
use Rattle.ig_space.specs.Volume.{IsInside, Voxels, place_of, voxel}
use Rattle.ig_mode.specs.Mips.{Labels, mip_times, size_times}

-- the labels of a list, in a box of this size
abbrev pub labels_of : Point → List ℕ → Labels ℕ
labels_of size labels = λ x y z. slice_index labels (place_of size x y z)

pub record HasMip (n : ℕ) (from out : Voxels) : Type 0 where
  pub size : out.size ≡ size_times n from.size
  pub each : (x y z : ℕ) → IsInside out.size x y z → voxel out x y z ≡ mip_times n from.size (voxel from) x y z

-- the volume with this number in a list, from 0 on
abbrev pub volume_of : List Voxels → ℕ → Voxels
volume_of volumes k = slice_index_or volumes k (record { size = record { x = 0; y = 0; z = 0 }; labels = [] })

-- the volumes are the first, the second and further mips
abbrev pub HaveMips : Voxels → List Voxels → Type 0
HaveMips from volumes = (k : ℕ) → k < length volumes → HasMip (k + 1) from (volume_of volumes k)
