-- Maps of voxels to labels, and files that hold the chunks of a volume.
use Rattle.std.specs.Prelude.{◌≡◌, ◌<◌, ℕ, if◌then◌else◌, List, None, Some}
use Rattle.std.specs.List.{All}
use Rattle.ig_space.specs.declared.point.Box3.{Box3}
use Rattle.ig_space.specs.declared.geometry.Width.{Width}
use Rattle.ig_space.specs.declared.place.Place.{Place}
use Rattle.ig_space.specs.Chunk.{chunk_path}
use Rattle.ig_space.specs.Grid.{IsIn, cell, cell_count, chunks_of, is_in}
use Rattle.ig_space.specs.Raw.{FitsWidth}
use Rattle.ig_defs.specs.Own.{File}
use Rattle.ig_layer.specs.Layer.{Labels, Reading, label_in}
use Rattle.ig_layer.specs.Texts.{chunk_text}

-- a label for each voxel
abbrev pub VoxelMap : Type 0
VoxelMap = ℕ → ℕ → ℕ → ℕ

-- the volume that is the map on the box, and has no other voxel
abbrev pub map_on : Box3 → VoxelMap → Labels
map_on box voxels x y z = if is_in box x y z then Some (voxels x y z) else None

-- each voxel of the box has a label of this width
abbrev pub FitsOn : Width → Box3 → VoxelMap → Type 0
FitsOn width box voxels = (x y z : ℕ) → IsIn box x y z → FitsWidth width (voxels x y z)

-- at the path of each chunk the files have what the chunk's text of the volume is
abbrev pub HoldTexts : Reading → Place → Labels → Type 0
HoldTexts files place volume = (k : ℕ) → k < cell_count (chunks_of place.geometry)
    → files (chunk_path place.dir (cell (chunks_of place.geometry) k)) ≡ chunk_text place.geometry volume (cell (chunks_of place.geometry) k)

-- at the path of each chunk the files have a text that reads as the map's labels
abbrev pub ReadAs : Reading → Place → VoxelMap → Type 0
ReadAs files place voxels = (k : ℕ) → k < cell_count (chunks_of place.geometry)
    → (x y z : ℕ) → IsIn (cell (chunks_of place.geometry) k) x y z
    → label_in place.geometry (cell (chunks_of place.geometry) k) (files (chunk_path place.dir (cell (chunks_of place.geometry) k))) x y z ≡ Some (voxels x y z)

-- the files have each of these
abbrev pub HoldEach : Reading → List File → Type 0
HoldEach files list = All (λ (file : File). files file.path ≡ Some file.bytes) list
