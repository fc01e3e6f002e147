-- What a command asks for.
use Rattle.std.specs.Prelude.{◌≡◌, ◌≢◌, ◌≤◌, ℕ, true, List, [], ◌∷◌, Some, IfSome, length, option_map}
use Rattle.ig_space.specs.declared.point.Point.{Point}
use Rattle.ig_space.specs.Path.{is_path}
use Rattle.ig_record.specs.declared.stage.Kind.TheVariants.{Downsample, Remove}
use Rattle.ig_record.specs.Sound.{has_come, most_mips}
use Rattle.ig_meaning.specs.Words as meaning
use Rattle.ig_meaning.specs.Words.{Compressed, Plain, writes_layer}
use Rattle.ig_stage.specs.declared.request.Coding.{Coding}
use Rattle.ig_stage.specs.declared.request.Coding.TheVariants.{Raw, Cseg}
use Rattle.ig_stage.specs.declared.request.Request.{Request}

-- the encoding that this is
abbrev pub shown_coding : Coding → meaning.Coding
shown_coding Raw = Plain
shown_coding Cseg = Compressed

-- the request that this is
abbrev pub shown_request : Request → meaning.Request
shown_request request = record {
  kind = request.kind;
  source = request.source;
  dest = request.dest;
  mip = request.mip;
  levels = request.levels;
  chunk = request.chunk;
  shape = request.shape;
  encoding = option_map shown_coding request.encoding;
  block = request.block;
}

-- each side is from 1 to the largest value
pub record HasSides (point : Point) : Type 0 where
  pub x_some : 1 ≤ point.x
  pub x_limit : point.x ≤ 16777216
  pub y_some : 1 ≤ point.y
  pub y_limit : point.y ≤ 16777216
  pub z_some : 1 ≤ point.z
  pub z_limit : point.z ≤ 16777216

-- the new layer: a short path, which is not that of the source
pub record HasDest (request : Request) : Type 0 where
  pub layer : List ℕ
  pub is : request.dest ≡ Some layer
  pub path : is_path layer ≡ true
  pub short : length layer ≤ 100
  pub apart : request.source ≢ layer

-- a stage of a kind that has come and makes files: short paths, and numbers within their limits
pub record HasLimits (request : Request) : Type 0 where
  pub come : has_come request.kind ≡ true
  pub makes : request.kind ≢ Remove
  pub source_path : is_path request.source ≡ true
  pub source_short : length request.source ≤ 100
  pub dest : writes_layer request.kind ≡ true → HasDest request
  pub mip_limit : request.mip ≤ 99
  pub few_levels : request.levels ≤ most_mips
  pub some_levels : request.kind ≡ Downsample → 1 ≤ request.levels
  pub chunk_sides : IfSome request.chunk HasSides
  pub shape_sides : IfSome request.shape HasSides

-- what a command asks for: one stage
pub record IsOneStage (want : List Request) : Type 0 where
  pub request : Request
  pub one : want ≡ request ∷ []
  pub limits : HasLimits request
