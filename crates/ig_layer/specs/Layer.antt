-- The volume of a layer: a label for each voxel, from the files of its chunks (Neuroglancer precomputed volume format).
use Rattle.std.specs.Prelude.{ℕ, ◌==◌, ◌-◌, ◌*◌, Bool, if◌then◌else◌, List, length, drop, Option, None, Some, is_none}
use Rattle.byteorder.specs.Endian.{little_number}
use Rattle.ig_space.specs.declared.point.Point.{Point}
use Rattle.ig_space.specs.declared.point.Box3.{Box3}
use Rattle.ig_space.specs.declared.geometry.Width.{Width}
use Rattle.ig_space.specs.declared.geometry.Encoding.{Encoding}
use Rattle.ig_space.specs.declared.geometry.Encoding.TheVariants.{Raw, Cseg}
use Rattle.ig_space.specs.declared.geometry.Geometry.{Geometry}
use Rattle.ig_space.specs.declared.place.Place.{Place}
use Rattle.ig_space.specs.Chunk.{chunk_path}
use Rattle.ig_space.specs.Geometry.{count, label_len}
use Rattle.ig_space.specs.Grid.{cell_at, chunks_of, is_in, size_of, space_of}
use Rattle.ig_space.specs.Volume.{place_of}
use Rattle.ig_cseg.specs.Cseg.{fault_of, label_at}

-- files: what stands at a path, if anything
abbrev pub Reading : Type 0
Reading = List ℕ → Option (List ℕ)

-- a volume: a label for each voxel, where it is defined
abbrev pub Labels : Type 0
Labels = ℕ → ℕ → ℕ → Option ℕ

-- how long the text of a raw chunk is
abbrev pub raw_len : Width → Point → ℕ
raw_len width size = label_len width * count size

-- the bytes are the text of a chunk of this size
abbrev pub is_text : Encoding → Width → Point → List ℕ → Bool
is_text Raw width size bytes = length bytes == raw_len width size
is_text (Cseg block) width size bytes = is_none (fault_of block width size bytes)

-- the label at a place of the chunk
abbrev pub label_of : Encoding → Width → Point → List ℕ → ℕ → ℕ → ℕ → ℕ
label_of Raw width size bytes x y z = little_number (label_len width) (drop (label_len width * place_of size x y z) bytes)
label_of (Cseg block) width size bytes x y z = label_at block width size bytes x y z

-- the label of the voxel by what was found of its chunk, if that is there and well formed
abbrev pub label_in : Geometry → Box3 → Option (List ℕ) → ℕ → ℕ → ℕ → Option ℕ
label_in g chunk None x y z = None
label_in g chunk (Some bytes) x y z =
    if is_text g.encoding g.width (size_of chunk) bytes
    then Some (label_of g.encoding g.width (size_of chunk) bytes (x - chunk.lo.x) (y - chunk.lo.y) (z - chunk.lo.z))
    else None

-- the volume of a layer in the files: the label that the voxel's one chunk gives
abbrev pub volume_at : (List ℕ → Option (List ℕ)) → Place → ℕ → ℕ → ℕ → Option ℕ
volume_at files place x y z =
    if is_in (space_of place.geometry) x y z
    then label_in place.geometry (cell_at (chunks_of place.geometry) x y z) (files (chunk_path place.dir (cell_at (chunks_of place.geometry) x y z))) x y z
    else None
