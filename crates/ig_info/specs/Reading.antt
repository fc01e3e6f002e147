-- What the bytes of an info file give, and what each info is.
use Rattle.std.specs.Prelude.{◌≡◌, ◌≤◌, ℕ, true, false, List, length, Result, Ok}
use Rattle.std.specs.List.{list_all}
use Rattle.serde_json.specs.Data.{Data, depth}
use Rattle.serde_json.specs.Read.{max_depth}
use Rattle.serde_json.specs.Written.{has_float}
use Rattle.ig_info.specs.declared.error.InfoError.{InfoError}
use Rattle.ig_info.specs.declared.error.InfoError.TheVariants.{NotJson}
use Rattle.ig_info.specs.Answer.{◌>>=◌, or_error}
use Rattle.ig_info.specs.Ascending.{ascends}
use Rattle.ig_info.specs.Info.{InfoData}
use Rattle.ig_info.specs.Scale.{scale_fits}
use Rattle.ig_info.specs.Whole.{parsed, scales_of}

-- the info with these members, or the refusal that comes first
unfoldable pub info_of : Data → Result InfoData InfoError
info_of d = do
  scales ← scales_of d
  Ok (record { members = d; scales = scales })

-- the info of these bytes, or the refusal that comes first
unfoldable pub info_in : List ℕ → Result InfoData InfoError
info_in bytes = do
  d ← or_error NotJson (parsed bytes)
  info_of d

-- nested no deeper than a text may be, only whole numbers, in the order of names, 1 to 100 scales that fit; and read again
-- the members give the same info
pub record IsInfo (i : InfoData) : Type 0 where
  pub shallow : depth i.members ≤ max_depth
  pub whole : has_float i.members ≡ false
  pub ordered : ascends i.members ≡ true
  pub some : 1 ≤ length i.scales
  pub few : length i.scales ≤ 100
  pub fit : list_all scale_fits i.scales ≡ true
  pub reads_back : info_of i.members ≡ Ok i
