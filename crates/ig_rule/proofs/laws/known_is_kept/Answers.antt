use Rattle.ig_rule.specs.KnownKept.{known_kept}
use Rattle.ig_rule.proofs.laws.known_is_kept.Goals as goal

pub returns : goal.returns
returns c = known_kept
