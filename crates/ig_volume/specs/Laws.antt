-- The laws of layers, for every place, encoding and size of chunks.
use Rattle.std.specs.Prelude.{◌≡◌, ◌<◌, ◌↔◌, ℕ, true, List, Some, IsSome}
use Rattle.ig_space.specs.declared.point.Box3.{Box3}
use Rattle.ig_space.specs.declared.place.Place.{Place}
use Rattle.ig_space.specs.Geometry.{geometry_fits}
use Rattle.ig_space.specs.Grid.{IsIn, IsWithin, cell, cell_count, chunks_of, space_of}
use Rattle.ig_defs.specs.Own.{File}
use Rattle.ig_layer.specs.Layer.{Labels, Reading, volume_at}
use Rattle.ig_layer.specs.Texts.{chunk_text, files_in, layer_files}
use Rattle.ig_volume.specs.Maps.{FitsOn, HoldEach, HoldTexts, ReadAs, VoxelMap, map_on}

-- Files that have the chunks' texts of a map to labels in range have that map as their volume.
abbrev pub TextsHoldMaps : Type 0
TextsHoldMaps = (files : Reading) (place : Place) (voxels : VoxelMap) → geometry_fits place.geometry ≡ true
    → FitsOn place.geometry.width (space_of place.geometry) voxels
    → HoldTexts files place (map_on (space_of place.geometry) voxels)
    → volume_at files place ≡ map_on (space_of place.geometry) voxels

-- Each chunk of a map to labels in range has a text.
abbrev pub MapsHaveTexts : Type 0
MapsHaveTexts = (place : Place) (voxels : VoxelMap) → geometry_fits place.geometry ≡ true
    → FitsOn place.geometry.width (space_of place.geometry) voxels
    → (k : ℕ) → k < cell_count (chunks_of place.geometry)
    → IsSome (chunk_text place.geometry (map_on (space_of place.geometry) voxels) (cell (chunks_of place.geometry) k))

-- So there are the files of a layer that holds the map.
abbrev pub MapsHaveLayers : Type 0
MapsHaveLayers = (place : Place) (voxels : VoxelMap) → geometry_fits place.geometry ≡ true
    → FitsOn place.geometry.width (space_of place.geometry) voxels
    → IsSome (layer_files place (map_on (space_of place.geometry) voxels))

-- Files that have all files of a layer that holds the volume have its labels.
abbrev pub LayerFilesHoldVolumes : Type 0
LayerFilesHoldVolumes = (files : Reading) (place : Place) (volume : Labels) (list : List File) → geometry_fits place.geometry ≡ true
    → layer_files place volume ≡ Some list → HoldEach files list
    → (x y z : ℕ) → IsIn (space_of place.geometry) x y z → volume_at files place x y z ≡ volume x y z

-- Files that have those of the chunks that meet a box have the labels of the box.
abbrev pub BoxFilesHoldVolumes : Type 0
BoxFilesHoldVolumes = (files : Reading) (place : Place) (volume : Labels) (box : Box3) (list : List File) → geometry_fits place.geometry ≡ true
    → IsWithin box (space_of place.geometry) → files_in place volume box ≡ Some list → HoldEach files list
    → (x y z : ℕ) → IsIn box x y z → volume_at files place x y z ≡ volume x y z

-- The volume is the map exactly where each chunk reads as it.
abbrev pub ChunksMakeVolumes : Type 0
ChunksMakeVolumes = (files : Reading) (place : Place) (voxels : VoxelMap) → geometry_fits place.geometry ≡ true
    → (volume_at files place ≡ map_on (space_of place.geometry) voxels) ↔ ReadAs files place voxels

-- Files that have all files of another layer over the same box that holds the volume of the first have the same volume.
abbrev pub CopiesKeepVolumes : Type 0
CopiesKeepVolumes = (files copied : Reading) (source dest : Place) (list : List File) → geometry_fits dest.geometry ≡ true
    → space_of source.geometry ≡ space_of dest.geometry
    → layer_files dest (volume_at files source) ≡ Some list → HoldEach copied list
    → volume_at copied dest ≡ volume_at files source
