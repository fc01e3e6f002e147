-- Which stages are sound: this project's own.
use Rattle.std.specs.Prelude.{ℕ, ◌-◌, ◌^◌, ◌==◌, Bool, true, false, not, ◌&&◌, ◌||◌, nat_le, List, [], ◌∷◌, ◌++◌, length, take, drop, Option, None, Some, is_none, suc, codes}
use Rattle.std.specs.Str.{bytes_eq, is_utf8}
use Rattle.ig_space.specs.declared.point.Point.{Point}
use Rattle.ig_space.specs.declared.geometry.Encoding.{Encoding}
use Rattle.ig_space.specs.declared.geometry.Encoding.TheVariants.{Raw, Cseg}
use Rattle.ig_space.specs.declared.geometry.Geometry.{Geometry}
use Rattle.ig_space.specs.declared.place.Place.{Place}
use Rattle.ig_space.specs.Geometry.{geometry_fits, label_len}
use Rattle.ig_space.specs.Grid.{cell_count}
use Rattle.ig_space.specs.Path.{is_path, joined, within}
use Rattle.ig_mode.specs.HalvedGrids.{halved_geometry}
use Rattle.ig_record.specs.declared.stage.Kind.{Kind}
use Rattle.ig_record.specs.declared.stage.Kind.TheVariants.{Xfer, Downsample, Faces, Links, Labels, Relabel, Count, Sum, Remove}
use Rattle.ig_record.specs.declared.stage.InfoFile.{InfoFile}
use Rattle.ig_record.specs.declared.stage.Stage.{Stage}
use Rattle.ig_record.specs.Columns.{dirs_of_all, is_among}
use Rattle.ig_record.specs.Stage.{cells, greatest, hull_voxels, most_tasks, most_voxels, shape_unit, unfit_axis}

-- ---- layers and keys
-- a layer, or the key of a scale: a path of at most 100 bytes
abbrev pub is_word : List ℕ → Bool
is_word text = is_path text && nat_le (length text) 100

-- some `/` of the text has such a text before it and such a text after it
abbrev pub some_split : (List ℕ → List ℕ → Bool) → List ℕ → List ℕ → Bool
some_split test before [] = false
some_split test before (c ∷ cs) = c == 47 && test before cs || some_split test (before ++ c ∷ []) cs

-- what stands before `/` and the name at the end of a path
abbrev pub before_name : List ℕ → List ℕ → List ℕ
before_name path name = take (length path - suc (length name)) path

-- the directory is that of a scale with this key in a layer
abbrev pub has_key : List ℕ → List ℕ → Bool
has_key key dir = is_word (before_name dir key) && bytes_eq (joined (before_name dir key) key) dir

-- ---- the members that a stage of each kind has
abbrev pub same_point : Point → Point → Bool
same_point p q = p.x == q.x && (p.y == q.y && p.z == q.z)

abbrev pub same_encoding : Encoding → Encoding → Bool
same_encoding Raw Raw = true
same_encoding (Cseg a) (Cseg b) = same_point a b
same_encoding a b = false

-- the same box
abbrev pub same_box : Geometry → Geometry → Bool
same_box g h = same_point g.offset h.offset && same_point g.size h.size

-- the same voxels, of labels as wide
abbrev pub same_voxels : Geometry → Geometry → Bool
same_voxels g h = same_box g h && label_len g.width == label_len h.width

-- the same in all
abbrev pub same_geometry : Geometry → Geometry → Bool
same_geometry g h = same_voxels g h && (same_point g.chunk h.chunk && same_encoding g.encoding h.encoding)

-- the same voxels in the same chunks, of labels of 32 bits
abbrev pub is_relabelled : Geometry → Geometry → Bool
is_relabelled g h = same_box g h && (same_point g.chunk h.chunk && label_len h.width == 4)

-- an info file of this layer
abbrev pub is_info_in : List ℕ → InfoFile → Bool
is_info_in layer info = bytes_eq info.path (joined layer (codes "info")) && is_utf8 info.text

-- an info file of the layer whose scale with this key is in the directory
abbrev pub is_info_of : List ℕ → List ℕ → InfoFile → Bool
is_info_of key dir info = is_info_in (before_name dir key) info

-- a scale with this key in a layer
abbrev pub is_scale : List ℕ → Place → Bool
is_scale key dest = has_key key dest.dir && geometry_fits dest.geometry

-- one scale with this key in a layer, whose geometry passes, with the info of the layer
abbrev pub is_layer : (Geometry → Bool) → List ℕ → List Place → Option InfoFile → Bool
is_layer test key (dest ∷ []) (Some info) = is_scale key dest && is_info_of key dest.dir info && test dest.geometry
is_layer test key dests info = false

-- the copy of a scale
abbrev pub is_copy : List ℕ → Place → List Place → Option InfoFile → Bool
is_copy key source dests info = is_layer (same_voxels source.geometry) key dests info

-- its components as a scale
abbrev pub is_numbering : List ℕ → Place → List Place → Option InfoFile → Bool
is_numbering key source dests info = is_layer (is_relabelled source.geometry) key dests info

abbrev pub is_nothing : List Place → Option InfoFile → Bool
is_nothing [] None = true
is_nothing dests info = false

-- ---- mips
-- the directory is that of a scale of this layer
abbrev pub is_in_layer : List ℕ → List ℕ → Bool
is_in_layer layer dir = is_word (drop (suc (length layer)) dir) && bytes_eq (joined layer (drop (suc (length layer)) dir)) dir

-- each scale is the one before, halved, in a directory of the layer
abbrev pub are_mips : List ℕ → Geometry → List Place → Bool
are_mips layer g [] = true
are_mips layer g (dest ∷ dests) = is_in_layer layer dest.dir && (same_geometry (halved_geometry 1 g) dest.geometry && are_mips layer (halved_geometry 1 g) dests)

-- no two of the texts are the same
abbrev pub are_apart : List (List ℕ) → Bool
are_apart [] = true
are_apart (text ∷ texts) = not (is_among text texts) && are_apart texts

abbrev pub most_mips : ℕ
most_mips = 5

-- mips of a scale, one to five of them, each with a key of its own, and the info of the layer
abbrev pub has_mips : List ℕ → Place → List Place → Option InfoFile → Bool
has_mips layer source dests None = false
has_mips layer source dests (Some info) =
    within 1 most_mips (length dests) && (are_apart (source.dir ∷ dirs_of_all dests) && (are_mips layer source.geometry dests && is_info_in layer info))

-- ---- passes
-- the scratch is this directory of the layer, for the scale with this key
abbrev pub has_scratch : List ℕ → List ℕ → List ℕ → Option (List ℕ) → Bool
has_scratch layer name key None = false
has_scratch layer name key (Some dir) = bytes_eq (joined layer name) (before_name dir key) && bytes_eq (joined (before_name dir key) key) dir

-- of the components, and of the voxel counts
abbrev pub components_name : List ℕ
components_name = codes "ccl"

abbrev pub counts_name : List ℕ
counts_name = codes "voxels"

-- a pass that writes no scale
abbrev pub is_pass : List ℕ → List ℕ → List ℕ → Stage → Bool
is_pass layer name key s = has_scratch layer name key s.scratch && is_nothing s.dests s.info

-- ---- by the kind
abbrev pub has_members : Kind → List ℕ → List ℕ → Stage → Bool
has_members Xfer layer key s = is_none s.scratch && is_copy key s.source s.dests s.info
has_members Downsample layer key s = is_none s.scratch && has_mips layer s.source s.dests s.info
has_members Faces layer key s = is_pass layer components_name key s
has_members Links layer key s = is_pass layer components_name key s
has_members Labels layer key s = is_pass layer components_name key s
has_members Relabel layer key s = has_scratch layer components_name key s.scratch && is_numbering key s.source s.dests s.info
has_members Count layer key s = is_pass layer counts_name key s
has_members Sum layer key s = is_pass layer counts_name key s
has_members Remove layer key s = is_none s.scratch && is_nothing s.dests s.info

-- the kinds whose stages can be made and run; of the others no stage is sound
abbrev pub has_come : Kind → Bool
has_come Xfer = true
has_come Downsample = true
has_come Faces = false
has_come Links = false
has_come Labels = false
has_come Relabel = false
has_come Count = true
has_come Sum = false
has_come Remove = true

-- the layer and the key of the source, and the other members as the kind says
abbrev pub has_split : Stage → List ℕ → List ℕ → Bool
has_split s layer key = is_word layer && (is_word key && has_members s.kind layer key s)

-- its source is a scale of a layer, and the other members are as the kind says
abbrev pub has_layers : Stage → Bool
has_layers s = some_split (has_split s) [] s.source.dir

-- ---- the shape
-- at least 1, and a number of 64 bits
abbrev pub is_side : ℕ → Bool
is_side n = within 1 (2 ^ 64 - 1) n

-- each side at least 1 and a multiple of the kind's unit
abbrev pub has_shape : Stage → Bool
has_shape s = is_side s.shape.x && (is_side s.shape.y && (is_side s.shape.z && is_none (unfit_axis (shape_unit s.kind s.source s.dests) s.shape)))

-- not many boxes of the shape, and none of them large
abbrev pub has_tasks : Stage → Bool
has_tasks s = nat_le (cell_count (cells s)) most_tasks && nat_le (greatest (hull_voxels s) (cell_count (cells s))) most_voxels

-- the members, the shape and the tasks are as the kind says
abbrev pub is_lawful : Stage → Bool
is_lawful s = geometry_fits s.source.geometry && (has_layers s && (has_shape s && has_tasks s))

-- a stage that can be recorded and run
unfoldable pub is_sound : Stage → Bool
is_sound s = has_come s.kind && is_lawful s
