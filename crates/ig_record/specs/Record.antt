-- The texts of stages and of tasks, as compact JSON with the members in the order of their names: this project's own.
use Rattle.std.specs.Prelude.{ℕ, ◌*◌, true, List, [], ◌∷◌, Option, None, Some, codes, ◌≡◌}
use Rattle.serde_json.specs.Data.{Data, null, number, unsigned, string, array, object, Items, no_items, item, no_members, member}
use Rattle.serde_json.specs.Written.{compact_text}
use Rattle.ig_space.specs.declared.point.Box3.{Box3}
use Rattle.ig_space.specs.declared.geometry.Encoding.{Encoding}
use Rattle.ig_space.specs.declared.geometry.Encoding.TheVariants.{Raw, Cseg}
use Rattle.ig_space.specs.declared.geometry.Geometry.{Geometry}
use Rattle.ig_space.specs.declared.place.Place.{Place}
use Rattle.ig_space.specs.declared.task_id.TaskId.{TaskId}
use Rattle.ig_space.specs.Geometry.{label_len}
use Rattle.ig_info.specs.Dest.{point_data}
use Rattle.ig_record.specs.declared.stage.Kind.{Kind}
use Rattle.ig_record.specs.declared.stage.Kind.TheVariants.{Xfer, Downsample, Faces, Links, Labels, Relabel, Count, Sum, Remove}
use Rattle.ig_record.specs.declared.stage.InfoFile.{InfoFile}
use Rattle.ig_record.specs.declared.stage.Stage.{Stage}
use Rattle.ig_record.specs.Sound.{is_sound}
use Rattle.ig_record.specs.Stage.{task_box}

-- ---- places
abbrev pub block_data : Encoding → Data
block_data Raw = null
block_data (Cseg block) = point_data block

-- where the voxels of a scale are; the width in bits
abbrev pub geometry_data : Geometry → Data
geometry_data g = object
    (member (codes "block") (block_data g.encoding)
    (member (codes "chunk") (point_data g.chunk)
    (member (codes "offset") (point_data g.offset)
    (member (codes "size") (point_data g.size)
    (member (codes "width") (number (unsigned (8 * label_len g.width))) no_members)))))

abbrev pub place_data : Place → Data
place_data p = object (member (codes "dir") (string p.dir) (member (codes "geometry") (geometry_data p.geometry) no_members))

abbrev pub places_data : List Place → Items
places_data [] = no_items
places_data (p ∷ ps) = item (place_data p) (places_data ps)

-- ---- stages
abbrev pub kind_word : Kind → List ℕ
kind_word Xfer = codes "xfer"
kind_word Downsample = codes "downsample"
kind_word Faces = codes "ccl-faces"
kind_word Links = codes "ccl-links"
kind_word Labels = codes "ccl-labels"
kind_word Relabel = codes "ccl-relabel"
kind_word Count = codes "voxels-count"
kind_word Sum = codes "voxels-sum"
kind_word Remove = codes "rm"

abbrev pub info_data : Option InfoFile → Data
info_data None = null
info_data (Some info) = object (member (codes "path") (string info.path) (member (codes "text") (string info.text) no_members))

abbrev pub scratch_data : Option (List ℕ) → Data
scratch_data None = null
scratch_data (Some dir) = string dir

-- the record of a stage with this number
abbrev pub record_data : ℕ → Stage → Data
record_data n s = object
    (member (codes "dests") (array (places_data s.dests))
    (member (codes "info") (info_data s.info)
    (member (codes "kind") (string (kind_word s.kind))
    (member (codes "scratch") (scratch_data s.scratch)
    (member (codes "shape") (point_data s.shape)
    (member (codes "source") (place_data s.source)
    (member (codes "stage") (number (unsigned n))
    (member (codes "version") (number (unsigned 1)) no_members))))))))

abbrev pub record_text : ℕ → Stage → List ℕ
record_text n s = compact_text (record_data n s)

-- the bytes are the record of that sound stage with this number
pub record IsRecord (n : ℕ) (s : Stage) (bytes : List ℕ) : Type 0 where
  pub sound : is_sound s ≡ true
  pub text : bytes ≡ record_text n s

-- ---- tasks
-- a task, with its box
abbrev pub task_data : ℕ → ℕ → Box3 → Data
task_data stage task box = object
    (member (codes "hi") (point_data box.hi)
    (member (codes "lo") (point_data box.lo)
    (member (codes "stage") (number (unsigned stage))
    (member (codes "task") (number (unsigned task)) no_members))))

abbrev pub task_text : TaskId → Stage → List ℕ
task_text id s = compact_text (task_data id.stage id.task (task_box s id.task))
