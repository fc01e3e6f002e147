-- A planned stage, and what a run of it stands on.
use Rattle.std.specs.Prelude.{◌≡◌, ℕ, true, false, List, Contains, is_some}
use Rattle.ig_space.specs.Geometry.{geometry_fits}
use Rattle.ig_space.specs.Path.{joined}
use Rattle.ig_record.specs.declared.stage.Stage.{Stage}
use Rattle.ig_record.specs.Columns.{output_dirs, removed_dir}
use Rattle.ig_record.specs.Sound.{has_come, has_members, is_sound, is_word}
use Rattle.ig_record.specs.SoundFacts.{HasSides, IsSmall}
use Rattle.ig_meaning.specs.Sequential.{IsElsewhere}

-- The source is a scale of a layer, the other members are as the kind says, and the stage writes elsewhere. Whether its shape fits
-- is not known yet.
pub record IsDraft (s : Stage) : Type 0 where
  pub layer : List ℕ
  pub key : List ℕ
  pub come : has_come s.kind ≡ true
  pub makes : is_some (removed_dir s) ≡ false
  pub fits : geometry_fits s.source.geometry ≡ true
  pub source_dir : s.source.dir ≡ joined layer key
  pub layer_word : is_word layer ≡ true
  pub key_word : is_word key ≡ true
  pub members : has_members s.kind layer key s ≡ true
  pub sides : HasSides s.shape
  pub small : IsSmall s.shape
  pub elsewhere : Contains (output_dirs s) s.source.dir → ⊥

-- A stage that makes files, and none of its own inputs.
pub record CanRun (s : Stage) : Type 0 where
  pub sound : is_sound s ≡ true
  pub makes : is_some (removed_dir s) ≡ false
  pub elsewhere : IsElsewhere s
