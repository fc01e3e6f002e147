use Rattle.ig_rule.specs.Beside.{others_keep_sound, others_keep_known, others_then_own_legal}
use Rattle.ig_rule.proofs.laws.others_are_safe.Goals as goal

pub returns-clause-sound : goal.returns-clause-sound
returns-clause-sound c = others_keep_sound

pub returns-clause-known : goal.returns-clause-known
returns-clause-known c = others_keep_known

pub returns-clause-legal : goal.returns-clause-legal
returns-clause-legal c = others_then_own_legal
