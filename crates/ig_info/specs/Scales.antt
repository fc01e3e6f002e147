-- Reading a scale: the format's members, and the causes in the order in which they are named.
use Rattle.std.specs.Prelude.{ℕ, ◌^◌, ◌&&◌, Bool, true, not, List, [], ◌∷◌, ◌++◌, length, Option, Some, None, is_some, option_and_then, nat_le, if◌then◌else◌, Result, Ok, Err, codes}
use Rattle.std.specs.List.{list_any}
use Rattle.std.specs.Str.{bytes_eq}
use Rattle.serde_json.specs.Data.{Data, Items, no_items, item}
use Rattle.serde_json.specs.Find.{get, as_str, as_array, as_null}
use Rattle.ig_space.specs.declared.point.Point.{Point}
use Rattle.ig_space.specs.declared.geometry.Geometry.{Geometry}
use Rattle.ig_space.specs.declared.geometry.Width.{Width}
use Rattle.ig_space.specs.declared.geometry.Encoding.{Encoding}
use Rattle.ig_space.specs.declared.geometry.Encoding.TheVariants.{Raw, Cseg}
use Rattle.ig_space.specs.Path.{is_path}
use Rattle.ig_space.specs.Geometry.{largest_place, is_wide, ends_within, geometry_fits}
use Rattle.ig_info.specs.declared.error.InfoError.{InfoError}
use Rattle.ig_info.specs.declared.error.InfoError.TheVariants.{Unsupported}
use Rattle.ig_info.specs.declared.scale.Scale.{Scale}
use Rattle.ig_info.specs.Answer.{◌>>=◌, or_error, only_if, in_scale}
use Rattle.ig_info.specs.Parts.{triple, is_whole_triple, all_triples}

-- a list of three numbers within these limits, as a member of scale n
unfoldable pub triple_member : ℕ → List ℕ → ℕ → ℕ → Data → Result Point InfoError
triple_member n name low high d = or_error (in_scale n name) (option_and_then (triple low high) (get name d))

-- a path of at most 100 bytes
abbrev pub short_path : List ℕ → Option (List ℕ)
short_path text = if is_path text && nat_le (length text) 100 then Some text else None

abbrev pub has_key : List Scale → List ℕ → Bool
has_key scales key = list_any (λ s. bytes_eq s.key key) scales

-- the key, which no earlier scale has
unfoldable pub key_of : List Scale → Data → Result (List ℕ) InfoError
key_of earlier d = do
  key ← or_error (in_scale (length earlier) (codes "key")) (option_and_then short_path (option_and_then as_str (get (codes "key") d)))
  _ ← only_if (not (has_key earlier key)) (Unsupported (codes "key"))
  Ok key

-- the offset is such that the scale ends within the largest place
abbrev pub placed : Point → Point → Option Point
placed size offset = if ends_within offset size then Some offset else None

abbrev pub offset_in : ℕ → Point → Option Data → Result Point InfoError
offset_in n size None = Ok (record { x = 0; y = 0; z = 0 })
offset_in n size (Some d) = do
  _ ← only_if (is_whole_triple d) (in_scale n (codes "voxel_offset"))
  or_error (Unsupported (codes "voxel_offset")) (option_and_then (placed size) (triple 0 largest_place d))

unfoldable pub offset_of : ℕ → Point → Data → Result Point InfoError
offset_of n size d = offset_in n size (get (codes "voxel_offset") d)

-- no side of a chunk is longer
abbrev pub largest_side : ℕ
largest_side = 2 ^ 24

-- the first of one or more chunk sizes
abbrev pub first_chunk : Items → Option Point
first_chunk no_items = None
first_chunk (item d ds) = if all_triples 1 largest_side ds then triple 1 largest_side d else None

unfoldable pub chunk_of : ℕ → Data → Result Point InfoError
chunk_of n d = or_error (in_scale n (codes "chunk_sizes")) (option_and_then first_chunk (option_and_then as_array (get (codes "chunk_sizes") d)))

-- no side of a block is longer
abbrev pub largest_block : ℕ
largest_block = 2 ^ 22

unfoldable pub blocks_of : ℕ → Data → Result Encoding InfoError
blocks_of n d = do
  block ← triple_member n (codes "compressed_segmentation_block_size") 1 largest_block d
  Ok (Cseg block)

unfoldable pub encoding_of : ℕ → Width → Data → Result Encoding InfoError
encoding_of n width d = do
  word ← or_error (in_scale n (codes "encoding")) (option_and_then as_str (get (codes "encoding") d))
  if bytes_eq word (codes "raw") then Ok Raw
      else if bytes_eq word (codes "compressed_segmentation") && is_wide width then blocks_of n d
      else Err (Unsupported (codes "encoding"))

abbrev pub is_absent_or_null : Option Data → Bool
is_absent_or_null None = true
is_absent_or_null (Some d) = is_some (as_null d)

-- where the voxels are; n is the scale's number
unfoldable pub geometry_of : ℕ → Width → Point → Data → Result Geometry InfoError
geometry_of n width size d = do
  offset ← offset_of n size d
  chunk ← chunk_of n d
  encoding ← encoding_of n width d
  _ ← only_if (is_absent_or_null (get (codes "sharding") d)) (Unsupported (codes "sharding"))
  let geometry : Geometry = record { offset = offset; size = size; chunk = chunk; width = width; encoding = encoding }
  _ ← only_if (geometry_fits geometry) (Unsupported (codes "chunk_sizes"))
  Ok geometry

-- the scale that stands after these
unfoldable pub scale_of : Width → List Scale → Data → Result Scale InfoError
scale_of width earlier d = do
  key ← key_of earlier d
  size ← triple_member (length earlier) (codes "size") 1 largest_place d
  resolution ← triple_member (length earlier) (codes "resolution") 1 (2 ^ 32) d
  geometry ← geometry_of (length earlier) width size d
  Ok (record { key = key; resolution = resolution; geometry = geometry })

-- the scales, with those that stand after these
abbrev pub scales_after : Width → List Scale → Items → Result (List Scale) InfoError
scales_after width earlier no_items = Ok earlier
scales_after width earlier (item d ds) = do
  scale ← scale_of width earlier d
  scales_after width (earlier ++ scale ∷ []) ds
