use Rattle.ig_rule.specs.Prefixes.{prefix_legal, prefix_sound}
use Rattle.ig_rule.proofs.laws.prefixes_are_legal.Goals as goal

pub returns-clause-legal : goal.returns-clause-legal
returns-clause-legal c = prefix_legal

pub returns-clause-sound : goal.returns-clause-sound
returns-clause-sound c = prefix_sound
