use Rattle.std.proofs.Common.{rules, append_assoc}
use Rattle.ig_cli.proofs.lines.no_scale.Goals as goal

pub returns : goal.returns
returns c = simp append_assoc (search rules)
