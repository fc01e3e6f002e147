use Rattle.ig_info.proofs.Parsed.{IsInfo-back}
use Rattle.ig_info.proofs.added.with_scale.Goals as goal

pub returns-in-Ok-clause-back : goal.returns-in-Ok-clause-back
returns-in-Ok-clause-back c = IsInfo-back _ c.in-Ok.ensures.whole
