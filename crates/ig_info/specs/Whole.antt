-- Reading an info.
use Rattle.std.specs.Prelude.{ℕ, ◌&&◌, ◌==◌, Bool, true, false, not, List, [], Option, Some, None, is_some, option_map, option_and_then, unwrap_or, if◌then◌else◌, Result, Ok, codes}
use Rattle.std.specs.Str.{is_utf8, bytes_eq}
use Rattle.serde_json.specs.Data.{Data, Items, no_items, item}
use Rattle.serde_json.specs.Find.{get, as_str, as_array, as_object, as_number, as_u64}
use Rattle.serde_json.specs.Events.{items_len}
use Rattle.serde_json.specs.Read.{read}
use Rattle.serde_json.specs.Written.{has_float}
use Rattle.ig_info.specs.declared.error.InfoError.{InfoError}
use Rattle.ig_info.specs.declared.error.InfoError.TheVariants.{Member, Unsupported}
use Rattle.ig_space.specs.declared.geometry.Width.{Width}
use Rattle.ig_space.specs.declared.geometry.Width.TheVariants.{W8, W16, W32, W64}
use Rattle.ig_info.specs.declared.scale.Scale.{Scale}
use Rattle.ig_info.specs.Answer.{◌>>=◌, or_error, only_if}
use Rattle.ig_info.specs.Parts.{is_whole}
use Rattle.ig_space.specs.Path.{within}
use Rattle.ig_info.specs.Scales.{scales_after}

-- the value is a text, and this one
abbrev pub is_word : List ℕ → Data → Bool
is_word word d = unwrap_or (option_map (λ text. bytes_eq text word) (as_str d)) false

abbrev pub is_absent_or_word : List ℕ → Option Data → Bool
is_absent_or_word word None = true
is_absent_or_word word (Some d) = is_word word d

abbrev pub width_of_word : List ℕ → Option Width
width_of_word word =
    if bytes_eq word (codes "uint8") then Some W8
    else if bytes_eq word (codes "uint16") then Some W16
    else if bytes_eq word (codes "uint32") then Some W32
    else if bytes_eq word (codes "uint64") then Some W64
    else None

-- a text
unfoldable pub text_member : List ℕ → Data → Result (List ℕ) InfoError
text_member name d = or_error (Member name) (option_and_then as_str (get name d))

unfoldable pub segmentation_only : Data → Result (Unit {0}) InfoError
segmentation_only d = do
  kind ← text_member (codes "type") d
  only_if (bytes_eq kind (codes "segmentation")) (Unsupported (codes "type"))

unfoldable pub width_of : Data → Result Width InfoError
width_of d = do
  word ← text_member (codes "data_type") d
  or_error (Unsupported (codes "data_type")) (width_of_word word)

abbrev pub whole_member : Option Data → Bool
whole_member None = false
whole_member (Some d) = is_whole d

abbrev pub is_one : Option Data → Bool
is_one None = false
is_one (Some d) = unwrap_or (option_map (λ n. n == 1) (option_and_then as_u64 (as_number d))) false

abbrev pub all_objects : Items → Bool
all_objects no_items = true
all_objects (item d ds) = is_some (as_object d) && all_objects ds

unfoldable pub one_channel : Data → Result (Unit {0}) InfoError
one_channel d = do
  _ ← only_if (whole_member (get (codes "num_channels") d)) (Member (codes "num_channels"))
  only_if (is_one (get (codes "num_channels") d)) (Unsupported (codes "num_channels"))

-- 1 to 100 objects
abbrev pub is_scale_list : Items → Bool
is_scale_list ds = within 1 100 (items_len ds) && all_objects ds

abbrev pub scale_list : Items → Option Items
scale_list ds = if is_scale_list ds then Some ds else None

-- the rows from `@type` to `num_channels`
unfoldable pub kind_of : Data → Result Width InfoError
kind_of d = do
  _ ← only_if (is_absent_or_word (codes "neuroglancer_multiscale_volume") (get (codes "@type") d)) (Unsupported (codes "@type"))
  _ ← segmentation_only d
  width ← width_of d
  _ ← one_channel d
  Ok width

-- the rows before the scales
unfoldable pub head_of : Data → Result Width InfoError
head_of d = do
  _ ← only_if (is_some (as_object d)) (Member (codes "$"))
  _ ← only_if (not (has_float d)) (Unsupported (codes "number"))
  kind_of d

-- the list of 1 to 100 objects, where the member is one
abbrev pub scales_in : Data → Option Items
scales_in d = option_and_then scale_list (option_and_then as_array (get (codes "scales") d))

unfoldable pub items_of_scales : Data → Result Items InfoError
items_of_scales d = or_error (Member (codes "scales")) (scales_in d)

-- the scales of an info
unfoldable pub scales_of : Data → Result (List Scale) InfoError
scales_of d = do
  width ← head_of d
  items ← items_of_scales d
  scales_after width [] items

-- the data of a JSON text, where the bytes are one
unfoldable pub parsed : List ℕ → Option Data
parsed bytes = if is_utf8 bytes then read bytes else None
