-- An info with a scale more: this project's own.
use Rattle.std.specs.Prelude.{◌≡◌, ℕ, not, List, [], ◌∷◌, ◌++◌, length, slice_get, Some, option_map, option_and_then, unwrap_or, nat_lt, Result, Ok, codes}
use Rattle.serde_json.specs.Data.{Data, array, object, Items, no_items, item, put}
use Rattle.serde_json.specs.Find.{get, as_array, as_object}
use Rattle.ig_space.specs.declared.geometry.Width.{Width}
use Rattle.ig_info.specs.declared.error.InfoError.{InfoError}
use Rattle.ig_info.specs.declared.error.InfoError.TheVariants.{Unsupported}
use Rattle.ig_info.specs.declared.scale.Scale.{Scale}
use Rattle.ig_info.specs.Answer.{◌>>=◌, only_if}
use Rattle.ig_info.specs.Info.{InfoData}
use Rattle.ig_info.specs.Scale.{scale_fits}
use Rattle.ig_info.specs.Scales.{has_key}
use Rattle.ig_info.specs.Dest.{scale_data}

-- one of the scales has this width
pub record HasWidth (scales : List Scale) (width : Width) : Type 0 where
  pub place : ℕ
  pub scale : Scale
  pub found : slice_get scales place ≡ Some scale
  pub same : scale.geometry.width ≡ width

-- the items and one more
abbrev pub with_last : Data → Items → Items
with_last d no_items = item d no_items
with_last d (item e es) = item e (with_last d es)

-- the items of the list of this name
abbrev pub items_at : List ℕ → Data → Items
items_at name d = unwrap_or (option_and_then as_array (get name d)) no_items

-- the object with this value under this name, and all else as it is
abbrev pub with_member : List ℕ → Data → Data → Data
with_member name value d = unwrap_or (option_map (λ ms. object (put name value ms)) (as_object d)) d

-- the members, with the scale's own added last to their list of scales
abbrev pub members_with : Scale → Data → Data
members_with s d = with_member (codes "scales") (array (with_last (scale_data s) (items_at (codes "scales") d))) d

-- the info with the scale added last, or the refusal that comes first
unfoldable pub added : InfoData → Scale → Result InfoData InfoError
added i s = do
  _ ← only_if (not (has_key i.scales s.key)) (Unsupported (codes "key"))
  _ ← only_if (nat_lt (length i.scales) 100) (Unsupported (codes "scales"))
  _ ← only_if (scale_fits s) (Unsupported (codes "chunk_sizes"))
  Ok (record { members = members_with s i.members; scales = i.scales ++ s ∷ [] })
