-- What is wanted of a stage, defined from the whole volume of its source: this project's own.
use Rattle.std.specs.Prelude.{ℕ, suc, ◌-◌, Bool, if◌then◌else◌, List, [], ◌∷◌, ◌++◌, codes, Option, None, Some, is_some, option_and_then, option_map, slice_get}
use Rattle.std.specs.Str.{bytes_eq}
use Rattle.ig_space.specs.declared.point.Box3.{Box3}
use Rattle.ig_space.specs.declared.geometry.Geometry.{Geometry}
use Rattle.ig_space.specs.declared.place.Place.{Place}
use Rattle.ig_space.specs.Chunk.{chunk_path}
use Rattle.ig_space.specs.Chunks.{listed}
use Rattle.ig_space.specs.Grid.{cell, cell_count, chunks_of, is_in, size_of, space_of}
use Rattle.ig_space.specs.Volume.{place_of}
use Rattle.ig_layer.specs.Faults.{first_of, or_else}
use Rattle.ig_layer.specs.Layer.{Labels, Reading, volume_at}
use Rattle.ig_layer.specs.Texts.{chunk_text, labels_in, text_of}
use Rattle.ig_mode.specs.HalvedGrids.{long_grid}
use Rattle.ig_mode.specs.Known.{scale_mips}
use Rattle.ig_count.specs.CountsFile.{counts_text}
use Rattle.ig_count.specs.Tables.{counts_of}
use Rattle.ig_cutout.specs.declared.types.Output.{Output}
use Rattle.ig_record.specs.declared.stage.Kind.{Kind}
use Rattle.ig_record.specs.declared.stage.Kind.TheVariants.{Xfer, Downsample, Count}
use Rattle.ig_record.specs.declared.stage.Stage.{Stage}
use Rattle.ig_record.specs.Columns.{paths_of}
use Rattle.ig_record.specs.Stage.{cells, task_count}
use Rattle.ig_meaning.specs.Numbered.{number_with}

-- ---- chunks
-- the chunk with this number, where its file has this path
abbrev pub chunk_if : Place → List ℕ → ℕ → Option Box3
chunk_if place path k = if bytes_eq (chunk_path place.dir (cell (chunks_of place.geometry) k)) path then Some (cell (chunks_of place.geometry) k) else None

-- the chunk of a scale whose file has this path
abbrev pub chunk_with : Place → List ℕ → Option Box3
chunk_with place path = first_of (chunk_if place path) (cell_count (chunks_of place.geometry))

-- the path is that of a chunk of the scale
abbrev pub is_chunk_of : Place → List ℕ → Bool
is_chunk_of place path = is_some (chunk_with place path)

-- ---- by the kind
-- What is wanted at a path: the box of the source whose labels it needs, and by these labels, in order, the text, if it is defined.
pub record Want : Type 0 where
  pub box : Box3
  pub text : List ℕ → Option (List ℕ)

-- the chunk of a scale that has the voxels of the source
abbrev pub chunk_want : Place → Box3 → Want
chunk_want place box = record { box = box; text = λ labels. text_of place.geometry.encoding place.geometry.width (size_of box) (Some labels) }

-- the chunk with this path, of the first of these scales that has one
abbrev pub chunk_among : List Place → List ℕ → Option Want
chunk_among [] path = None
chunk_among (place ∷ places) path = or_else (option_map (chunk_want place) (chunk_with place path)) (chunk_among places path)

-- the labels of a box, in order, and none elsewhere
abbrev pub placed : Box3 → List ℕ → Labels
placed box labels x y z = if is_in box x y z then slice_get labels (place_of (size_of box) (x - box.lo.x) (y - box.lo.y) (z - box.lo.z)) else None

-- the box of the source whose blocks are the voxels of chunk i of this scale, which is the source halved m times
abbrev pub mip_box : Geometry → ℕ → Place → ℕ → Box3
mip_box source m place i = cell (long_grid m (space_of source) place.geometry.chunk) i

-- that chunk of the mip, taken m times of the source
abbrev pub mip_want : Geometry → ℕ → Place → ℕ → Want
mip_want source m place i = record {
  box = mip_box source m place i;
  text = λ labels. chunk_text place.geometry (scale_mips m (space_of source) (placed (mip_box source m place i) labels)) (cell (chunks_of place.geometry) i);
}

abbrev pub mip_if : Geometry → ℕ → Place → List ℕ → ℕ → Option Want
mip_if source m place path i = if bytes_eq (chunk_path place.dir (cell (chunks_of place.geometry) i)) path then Some (mip_want source m place i) else None

-- the chunk with this path, of the first of these scales that has one; the first of them is the source halved m times, and each other the one before it halved
abbrev pub mip_among : Geometry → ℕ → List Place → List ℕ → Option Want
mip_among source m [] path = None
mip_among source m (place ∷ places) path = or_else (first_of (mip_if source m place path) (cell_count (chunks_of place.geometry))) (mip_among source (suc m) places path)

-- the file of the counts of a cell: how many voxels of it have each label
abbrev pub count_want : Stage → ℕ → Want
count_want s t = record { box = cell (cells s) t; text = λ labels. Some (counts_text (counts_of labels)) }

-- what is wanted at a path; nothing of a removal, and of the kinds that are not listed
abbrev pub wants_by : Kind → Stage → List ℕ → Option Want
wants_by Xfer s path = chunk_among s.dests path
wants_by Downsample s path = mip_among s.source.geometry 1 s.dests path
wants_by Count s path = option_map (count_want s) (number_with s.scratch (codes "parts") (codes ".counts") (cell_count (cells s)) path)
wants_by kind s path = None

-- what earlier passes want at a path of a file that they make for the stage; the kinds that are not listed build on none
abbrev pub scratch_by : Kind → Stage → Labels → List ℕ → Option (List ℕ)
scratch_by kind s volume path = None

-- ---- for every kind
-- the text by the labels of a volume
abbrev pub text_by : Labels → Option Want → Option (List ℕ)
text_by volume None = None
text_by volume (Some want) = option_and_then want.text (labels_in volume want.box)

-- the text that is wanted at a path
abbrev pub wanted_text : Stage → Reading → List ℕ → Option (List ℕ)
wanted_text s files path = text_by (volume_at files s.source) (wants_by s.kind s path)

-- the text that earlier passes want at a path
abbrev pub scratch_text : Stage → Reading → List ℕ → Option (List ℕ)
scratch_text s files path = scratch_by s.kind s (volume_at files s.source) path

-- a text to be put at the path
abbrev pub put_at : List ℕ → List ℕ → Output
put_at path text = record { path = path; text = Some text }

-- no file is to stand at the path
abbrev pub removal_of : List ℕ → Output
removal_of path = record { path = path; text = None }

-- what is to stand at the path: where nothing is wanted, no file
abbrev pub output_by : Labels → List ℕ → Option Want → Option Output
output_by volume path None = Some (removal_of path)
output_by volume path (Some want) = option_map (put_at path) (text_by volume (Some want))

abbrev pub with_first : {A : Type 0} → Option A → Option (List A) → Option (List A)
with_first None xs = None
with_first (Some x) None = None
with_first (Some x) (Some xs) = Some (x ∷ xs)

-- what is to stand at each of these paths, if each is defined
abbrev pub outputs_at : Stage → Labels → List (List ℕ) → Option (List Output)
outputs_at s volume [] = Some []
outputs_at s volume (path ∷ paths) = with_first (output_by volume path (wants_by s.kind s path)) (outputs_at s volume paths)

abbrev pub flattened : {A : Type 0} → List (List A) → List A
flattened [] = []
flattened (xs ∷ xss) = xs ++ flattened xss

-- what the stage is to leave, at the paths of its tasks in order
abbrev pub wanted_outputs : Stage → Reading → Option (List Output)
wanted_outputs s files = outputs_at s (volume_at files s.source) (flattened (listed (paths_of s) (task_count s)))
