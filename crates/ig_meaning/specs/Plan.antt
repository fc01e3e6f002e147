-- The stage that a command plans, kind by kind, from the info of its source layer and from the stages before it.
use Rattle.std.specs.Prelude.{ℕ, zero, suc, ◌*◌, ◌==◌, Bool, true, false, List, [], ◌∷◌, ◌++◌, length, map, decimal, Option, None, Some, Result, Ok, Err, slice_get, unwrap_or, codes}
use Rattle.std.specs.Result.{result_ok}
use Rattle.ig_space.specs.declared.point.Point.{Point}
use Rattle.ig_space.specs.declared.geometry.Encoding.{Encoding}
use Rattle.ig_space.specs.declared.geometry.Encoding.TheVariants.{Raw, Cseg}
use Rattle.ig_space.specs.declared.place.Place.{Place}
use Rattle.ig_space.specs.Path.{joined}
use Rattle.ig_info.specs.declared.error.InfoError.{InfoError}
use Rattle.ig_info.specs.declared.scale.Scale.{Scale}
use Rattle.ig_info.specs.Info.{InfoData}
use Rattle.ig_info.specs.Added.{added}
use Rattle.ig_info.specs.Answer.{◌>>=◌}
use Rattle.ig_info.specs.Dest.{dest_of}
use Rattle.ig_info.specs.Reading.{info_in}
use Rattle.serde_json.specs.Written.{compact_text}
use Rattle.ig_defs.specs.Files.{Files, file_at}
use Rattle.ig_mode.specs.HalvedGrids.{halved_geometry}
use Rattle.ig_meaning.specs.Refusal.{Refusal, BadInfo, NoScale, NoStage}
use Rattle.ig_record.specs.declared.stage.Stage.{Stage}
use Rattle.ig_record.specs.declared.stage.Kind.{Kind}
use Rattle.ig_record.specs.declared.stage.Kind.TheVariants.{Xfer, Downsample, Count}
use Rattle.ig_record.specs.Sound.{counts_name}
use Rattle.ig_record.specs.Stage.{shape_unit, times, usual_units}
use Rattle.ig_meaning.specs.Words.{Coding, Plain, Compressed, Command, Local, Enqueue, Request, command_of, new_layer}

-- the info file of a layer
abbrev pub info_path : List ℕ → List ℕ
info_path layer = joined layer (codes "info")

-- a scale of a layer
abbrev pub place_in : List ℕ → Scale → Place
place_in layer scale = record { dir = joined layer scale.key; geometry = scale.geometry }

-- the same scale in chunks of this size, written so
abbrev pub in_chunks : Point → Encoding → Scale → Scale
in_chunks chunk encoding s = record {
  key = s.key;
  resolution = s.resolution;
  geometry = record { offset = s.geometry.offset; size = s.geometry.size; chunk = chunk; width = s.geometry.width; encoding = encoding };
}

-- the blocks of the source, and where it has none, 8 on each axis
abbrev pub blocks_of : Encoding → Point
blocks_of Raw = record { x = 8; y = 8; z = 8 }
blocks_of (Cseg block) = block

-- compressed in the blocks that are asked for, and else in those of the source
abbrev pub compressed : Option Point → Encoding → Encoding
compressed block source = Cseg (unwrap_or block (blocks_of source))

-- how the new chunks are written: as is asked for, and else as those of the source
abbrev pub new_encoding : Option Coding → Option Point → Encoding → Encoding
new_encoding (Some Plain) block source = Raw
new_encoding (Some Compressed) block source = compressed block source
new_encoding None block Raw = Raw
new_encoding None block (Cseg own) = compressed block (Cseg own)

-- the scale of the new layer: that of the source, in chunks of the size that is asked for, and written so
abbrev pub new_scale : Request → Scale → Scale
new_scale request s = in_chunks (unwrap_or request.chunk s.geometry.chunk) (new_encoding request.encoding request.block s.geometry.encoding) s

-- the shape that is asked for, and else the usual one of the kind
abbrev pub shape_for : Kind → Request → Place → List Place → Point
shape_for kind request source dests = unwrap_or request.shape (times (unwrap_or (usual_units kind) 1) (shape_unit kind source dests))

-- the copy of a scale into a new layer that has this scale and this info
abbrev pub copy_stage : Request → Scale → Scale → InfoData → Stage
copy_stage request scale new info = record {
  kind = Xfer;
  source = place_in request.source scale;
  dests = place_in (new_layer request) new ∷ [];
  scratch = None;
  shape = shape_for Xfer request (place_in request.source scale) (place_in (new_layer request) new ∷ []);
  info = Some (record { path = info_path (new_layer request); text = compact_text info.members });
}

abbrev pub with_dest : Request → Scale → Scale → Result InfoData InfoError → Result Stage Refusal
with_dest request scale new (Ok info) = Ok (copy_stage request scale new info)
with_dest request scale new (Err cause) = Err (BadInfo (info_path (new_layer request)) cause)

-- ---- mips
-- voxels that are twice as long in x and y
abbrev pub coarser : Point → Point
coarser p = record { x = 2 * p.x; y = 2 * p.y; z = p.z }

-- the key of a scale with this resolution: its numbers with `_` between them
abbrev pub resolution_key : Point → List ℕ
resolution_key p = decimal p.x ++ (95 ∷ (decimal p.y ++ (95 ∷ decimal p.z)))

-- the mip of a scale
abbrev pub mip_of : Scale → Scale
mip_of s = record { key = resolution_key (coarser s.resolution); resolution = coarser s.resolution; geometry = halved_geometry 1 s.geometry }

-- so many mips of a scale, each of the one before
abbrev pub mips_of : ℕ → Scale → List Scale
mips_of zero s = []
mips_of (suc n) s = mip_of s ∷ mips_of n (mip_of s)

-- the info with these scales added last, or the refusal of the first that is refused
abbrev pub all_added : InfoData → List Scale → Result InfoData InfoError
all_added info [] = Ok info
all_added info (s ∷ scales) = added info s >>= λ more. all_added more scales

-- the mips of a scale, once its layer has this info
abbrev pub mips_stage : Request → Scale → InfoData → Stage
mips_stage request scale info = record {
  kind = Downsample;
  source = place_in request.source scale;
  dests = map (place_in request.source) (mips_of request.levels scale);
  scratch = None;
  shape = shape_for Downsample request (place_in request.source scale) (map (place_in request.source) (mips_of request.levels scale));
  info = Some (record { path = info_path request.source; text = compact_text info.members });
}

abbrev pub with_mips : Request → Scale → Result InfoData InfoError → Result Stage Refusal
with_mips request scale (Ok info) = Ok (mips_stage request scale info)
with_mips request scale (Err cause) = Err (BadInfo (info_path request.source) cause)

-- only of the last scale are mips made
abbrev pub mips_if : Bool → Request → InfoData → Scale → Result Stage Refusal
mips_if true request info scale = with_mips request scale (all_added info (mips_of request.levels scale))
mips_if false request info scale = Err (NoScale request.mip (length info.scales))

abbrev pub mips_planned : Request → InfoData → Scale → Result Stage Refusal
mips_planned request info scale = mips_if (suc request.mip == length info.scales) request info scale

-- ---- passes
-- the first pass of a scale, whose scratch lies under this name in the layer
abbrev pub pass_stage : Kind → List ℕ → Request → Scale → Stage
pass_stage kind name request scale = record {
  kind = kind;
  source = place_in request.source scale;
  dests = [];
  scratch = Some (joined (joined request.source name) scale.key);
  shape = shape_for kind request (place_in request.source scale) [];
  info = None;
}

-- ---- by the kind
-- the stage of a scale of a layer with this info, after these earlier ones; the kinds that are not listed have not come
abbrev pub planned_by : Kind → List Stage → Request → InfoData → Scale → Result Stage Refusal
planned_by Xfer earlier request info scale = with_dest request scale (new_scale request scale) (dest_of (new_scale request scale))
planned_by Downsample earlier request info scale = mips_planned request info scale
planned_by Count earlier request info scale = Ok (pass_stage Count counts_name request scale)
planned_by kind earlier request info scale = Err (NoStage kind)

-- ---- for every kind
abbrev pub with_scale : List Stage → Request → InfoData → Option Scale → Result Stage Refusal
with_scale earlier request info (Some scale) = planned_by request.kind earlier request info scale
with_scale earlier request info None = Err (NoScale request.mip (length info.scales))

abbrev pub with_info : List Stage → Request → Result InfoData InfoError → Result Stage Refusal
with_info earlier request (Ok info) = with_scale earlier request info (slice_get info.scales request.mip)
with_info earlier request (Err cause) = Err (BadInfo (info_path request.source) cause)

-- the stage that is asked for after these earlier ones, by the bytes of the source's info; or the refusal of that info, of the
-- scale, or of the new info
unfoldable pub planned : List Stage → Request → List ℕ → Result Stage Refusal
planned earlier request bytes = with_info earlier request (info_in bytes)

abbrev pub stage_of_found : List Stage → Request → Option (List ℕ) → Option Stage
stage_of_found earlier request None = None
stage_of_found earlier request (Some bytes) = result_ok (planned earlier request bytes)

abbrev pub stage_of_command : Option Command → Files → Option Stage
stage_of_command None files = None
stage_of_command (Some (Local request)) files = stage_of_found [] request (file_at files (info_path request.source))
stage_of_command (Some (Enqueue q request)) files = None

-- the stage that a call with these words runs itself, by the files at its entry
abbrev pub stage_of : List (List ℕ) → Files → Option Stage
stage_of words files = stage_of_command (command_of words) files
