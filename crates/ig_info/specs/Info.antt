-- What an info shows: the data that it was read with, and its scales.
use Rattle.std.specs.Prelude.{List}
use Rattle.serde_json.specs.Data.{Data}
use Rattle.ig_info.specs.declared.scale.Scale.{Scale}

-- the members and the scales
pub record InfoData : Type 0 where
  pub members : Data
  pub scales : List Scale
