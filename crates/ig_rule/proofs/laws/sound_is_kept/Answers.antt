use Rattle.ig_rule.specs.SoundKept.{sound_kept}
use Rattle.ig_rule.proofs.laws.sound_is_kept.Goals as goal

pub returns : goal.returns
returns c = sound_kept
