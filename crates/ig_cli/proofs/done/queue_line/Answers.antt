use Rattle.std.proofs.Common.{rules, append_assoc}
use Rattle.ig_cli.proofs.done.queue_line.Goals as goal

pub returns : goal.returns
returns c = simp append_assoc (search rules)
