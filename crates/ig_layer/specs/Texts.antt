-- The texts of the chunks of a volume.
use Rattle.std.specs.Prelude.{ℕ, zero, suc, ◌+◌, ◌^◌, ◌&&◌, Bool, true, nat_lt, if◌then◌else◌, List, [], ◌∷◌, ◌++◌, Option, None, Some}
use Rattle.ig_space.specs.declared.point.Point.{Point}
use Rattle.ig_space.specs.declared.point.Box3.{Box3}
use Rattle.ig_space.specs.declared.geometry.Width.{Width}
use Rattle.ig_space.specs.declared.geometry.Encoding.{Encoding}
use Rattle.ig_space.specs.declared.geometry.Encoding.TheVariants.{Raw, Cseg}
use Rattle.ig_space.specs.declared.geometry.Geometry.{Geometry}
use Rattle.ig_space.specs.declared.place.Place.{Place}
use Rattle.ig_space.specs.Chunk.{chunk_path}
use Rattle.ig_space.specs.Geometry.{count, label_len}
use Rattle.ig_space.specs.Grid.{cell, cell_count, chunks_of, hull, point_at, size_of}
use Rattle.ig_space.specs.Raw.{raw_text}
use Rattle.ig_cseg.specs.CsegText.{cseg_text}
use Rattle.ig_defs.specs.Own.{File}

abbrev pub with_last : {A : Type 0} → Option (List A) → Option A → Option (List A)
with_last (Some xs) (Some x) = Some (xs ++ x ∷ [])
with_last (Some xs) None = None
with_last None x = None

-- the values at 0, 1, .. below n, if each is there
abbrev pub all_listed : {A : Type 0} → (ℕ → Option A) → ℕ → Option (List A)
all_listed f zero = Some []
all_listed f (suc n) = with_last (all_listed f n) (f n)

-- the label of the voxel with this number in the box
abbrev pub label_by_number : (ℕ → ℕ → ℕ → Option ℕ) → Box3 → ℕ → Option ℕ
label_by_number volume box k = volume (box.lo.x + (point_at (size_of box) k).x) (box.lo.y + (point_at (size_of box) k).y) (box.lo.z + (point_at (size_of box) k).z)

-- the labels of the box in order, if each voxel has one
abbrev pub labels_in : (ℕ → ℕ → ℕ → Option ℕ) → Box3 → Option (List ℕ)
labels_in volume box = all_listed (label_by_number volume box) (count (size_of box))

abbrev pub all_fit : Width → List ℕ → Bool
all_fit width [] = true
all_fit width (label ∷ labels) = nat_lt label (256 ^ label_len width) && all_fit width labels

-- the text of the labels of a box of this size
abbrev pub text_in : Encoding → Width → Point → List ℕ → List ℕ
text_in Raw width size labels = raw_text width labels
text_in (Cseg block) width size labels = cseg_text block width size labels

-- and where not all fit, none
abbrev pub text_of : Encoding → Width → Point → Option (List ℕ) → Option (List ℕ)
text_of encoding width size None = None
text_of encoding width size (Some labels) = if all_fit width labels then Some (text_in encoding width size labels) else None

-- the text of a chunk: defined where each of its voxels has a label, and all fit
abbrev pub chunk_text : Geometry → (ℕ → ℕ → ℕ → Option ℕ) → Box3 → Option (List ℕ)
chunk_text g volume box = text_of g.encoding g.width (size_of box) (labels_in volume box)

abbrev pub file_if : List ℕ → Option (List ℕ) → Option File
file_if path None = None
file_if path (Some bytes) = Some (record { path = path; bytes = bytes })

-- the file of a chunk of a layer that holds the volume
abbrev pub chunk_file : Place → (ℕ → ℕ → ℕ → Option ℕ) → Box3 → Option File
chunk_file place volume box = file_if (chunk_path place.dir box) (chunk_text place.geometry volume box)

-- the files of the chunks that meet the box, in grid order, if each is defined
abbrev pub files_in : Place → (ℕ → ℕ → ℕ → Option ℕ) → Box3 → Option (List File)
files_in place volume box =
    all_listed (λ k. chunk_file place volume (cell (hull (chunks_of place.geometry) box) k)) (cell_count (hull (chunks_of place.geometry) box))

-- the files of all chunks of a layer that holds the volume: those of its grid
abbrev pub layer_files : Place → (ℕ → ℕ → ℕ → Option ℕ) → Option (List File)
layer_files place volume = all_listed (λ k. chunk_file place volume (cell (chunks_of place.geometry) k)) (cell_count (chunks_of place.geometry))
