use Rattle.ig_cli.proofs.Cuts.{cut-is}
use Rattle.ig_cli.proofs.options.cut.Goals as goal

pub returns : goal.returns
returns c = cut-is c.args.mark c.args.text.now c.split_once.result (c.split_once.ensures.byte c.requires (λ w o h. h))
