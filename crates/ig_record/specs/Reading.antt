-- Which stage the bytes of a record are, and which task those of a task's file: this project's own.
use Rattle.std.specs.Prelude.{◌≡◌, ◌<◌, ℕ, ◌-◌, ◌^◌, ◌==◌, ◌&&◌, nat_lt, List, [], ◌∷◌, ◌++◌, Option, None, Some, is_some, option_map, option_and_then, if◌then◌else◌, codes}
use Rattle.std.specs.Str.{bytes_eq}
use Rattle.serde_json.specs.Data.{Data, Items, no_items, item}
use Rattle.serde_json.specs.Find.{get, as_array, as_null, as_number, as_str, as_u64}
use Rattle.ig_space.specs.declared.point.Point.{Point}
use Rattle.ig_space.specs.declared.geometry.Width.{Width}
use Rattle.ig_space.specs.declared.geometry.Width.TheVariants.{W8, W16, W32, W64}
use Rattle.ig_space.specs.declared.geometry.Encoding.{Encoding}
use Rattle.ig_space.specs.declared.geometry.Encoding.TheVariants.{Raw, Cseg}
use Rattle.ig_space.specs.declared.geometry.Geometry.{Geometry}
use Rattle.ig_space.specs.declared.place.Place.{Place}
use Rattle.ig_space.specs.declared.task_id.TaskId.{TaskId}
use Rattle.ig_space.specs.Path.{is_path}
use Rattle.ig_info.specs.Parts.{triple}
use Rattle.ig_info.specs.Whole.{parsed}
use Rattle.ig_record.specs.declared.stage.Kind.{Kind}
use Rattle.ig_record.specs.declared.stage.Kind.TheVariants.{Xfer, Downsample, Faces, Links, Labels, Relabel, Count, Sum, Remove}
use Rattle.ig_record.specs.declared.stage.InfoFile.{InfoFile}
use Rattle.ig_record.specs.declared.stage.Stage.{Stage}
use Rattle.ig_record.specs.Record.{record_text, task_text}
use Rattle.ig_record.specs.Sound.{is_sound}
use Rattle.ig_record.specs.Stage.{task_count}

infixl 10 ◌>>=◌
abbrev pub ◌>>=◌ : {A B : Type 0} → Option A → (A → Option B) → Option B
o >>= f = option_and_then f o

-- ---- members
abbrev pub text_of : Data → List ℕ → Option (List ℕ)
text_of d name = option_and_then as_str (get name d)

abbrev pub number_of : Data → List ℕ → Option ℕ
number_of d name = option_and_then as_u64 (option_and_then as_number (get name d))

-- three numbers of 64 bits
abbrev pub three_of : Data → Option Point
three_of d = triple 0 (2 ^ 64 - 1) d

abbrev pub point_of : Data → List ℕ → Option Point
point_of d name = option_and_then three_of (get name d)

abbrev pub as_path : List ℕ → Option (List ℕ)
as_path text = if is_path text then Some text else None

abbrev pub path_of : Data → List ℕ → Option (List ℕ)
path_of d name = option_and_then as_path (text_of d name)

-- ---- places
-- by the width in bits
abbrev pub width_of : ℕ → Option Width
width_of n = if n == 8 then Some W8 else if n == 16 then Some W16 else if n == 32 then Some W32 else if n == 64 then Some W64 else None

abbrev pub encoding_of : Data → Option Encoding
encoding_of d = if is_some (as_null d) then Some Raw else option_map Cseg (three_of d)

unfoldable pub geometry_of : Data → Option Geometry
geometry_of d = do
  encoding ← option_and_then encoding_of (get (codes "block") d)
  chunk ← point_of d (codes "chunk")
  offset ← point_of d (codes "offset")
  size ← point_of d (codes "size")
  width ← option_and_then width_of (number_of d (codes "width"))
  Some (record { offset = offset; size = size; chunk = chunk; width = width; encoding = encoding })

unfoldable pub place_of : Data → Option Place
place_of d = do
  dir ← path_of d (codes "dir")
  geometry ← option_and_then geometry_of (get (codes "geometry") d)
  Some (record { dir = dir; geometry = geometry })

-- the places, after these
abbrev pub places_after : List Place → Items → Option (List Place)
places_after earlier no_items = Some earlier
places_after earlier (item d ds) = place_of d >>= λ place. places_after (earlier ++ place ∷ []) ds

-- ---- stages
abbrev pub kind_of : List ℕ → Option Kind
kind_of word =
    if bytes_eq word (codes "xfer") then Some Xfer
    else if bytes_eq word (codes "downsample") then Some Downsample
    else if bytes_eq word (codes "ccl-faces") then Some Faces
    else if bytes_eq word (codes "ccl-links") then Some Links
    else if bytes_eq word (codes "ccl-labels") then Some Labels
    else if bytes_eq word (codes "ccl-relabel") then Some Relabel
    else if bytes_eq word (codes "voxels-count") then Some Count
    else if bytes_eq word (codes "voxels-sum") then Some Sum
    else if bytes_eq word (codes "rm") then Some Remove
    else None

unfoldable pub file_of : Data → Option InfoFile
file_of d = do
  path ← path_of d (codes "path")
  text ← text_of d (codes "text")
  Some (record { path = path; text = text })

abbrev pub info_of : Data → Option (Option InfoFile)
info_of d = if is_some (as_null d) then Some None else option_map Some (file_of d)

abbrev pub scratch_of : Data → Option (Option (List ℕ))
scratch_of d = if is_some (as_null d) then Some None else option_map Some (option_and_then as_path (as_str d))

-- the stage, member by member
unfoldable pub stage_of : Data → Option Stage
stage_of d = do
  dests ← option_and_then (places_after []) (option_and_then as_array (get (codes "dests") d))
  info ← option_and_then info_of (get (codes "info") d)
  kind ← option_and_then kind_of (text_of d (codes "kind"))
  scratch ← option_and_then scratch_of (get (codes "scratch") d)
  shape ← point_of d (codes "shape")
  source ← option_and_then place_of (get (codes "source") d)
  Some (record { kind = kind; source = source; dests = dests; scratch = scratch; shape = shape; info = info })

-- the stage, where it is sound, and its record with this number has these bytes
abbrev pub recorded : ℕ → List ℕ → Stage → Option Stage
recorded n bytes s = if is_sound s && bytes_eq bytes (record_text n s) then Some s else None

-- the stage whose record with this number has these bytes
unfoldable pub record_in : ℕ → List ℕ → Option Stage
record_in n bytes = do
  d ← parsed bytes
  s ← stage_of d
  recorded n bytes s

-- ---- tasks
-- the bytes are the text of that task of the stage
pub record IsTask (id : TaskId) (s : Stage) (bytes : List ℕ) : Type 0 where
  pub number : id.stage < 2 ^ 32
  pub below : id.task < task_count s
  pub text : bytes ≡ task_text id s

-- a number of 32 bits
abbrev pub small_of : Data → List ℕ → Option ℕ
small_of d name = number_of d name >>= λ n. if nat_lt n (2 ^ 32) then Some n else None

unfoldable pub id_of : Data → Option TaskId
id_of d = do
  stage ← small_of d (codes "stage")
  task ← small_of d (codes "task")
  Some (record { stage = stage; task = task })

-- the task, where the stage has it, and its text has these bytes
abbrev pub filed : Stage → List ℕ → TaskId → Option TaskId
filed s bytes id = if nat_lt id.task (task_count s) && bytes_eq bytes (task_text id s) then Some id else None

-- the task of the stage whose text has these bytes
unfoldable pub task_in : Stage → List ℕ → Option TaskId
task_in s bytes = do
  d ← parsed bytes
  id ← id_of d
  filed s bytes id
