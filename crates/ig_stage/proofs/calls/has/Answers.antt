use Rattle.ig_rule.specs.WentOn.{went_has}
use Rattle.ig_stage.proofs.calls.has.Goals as goal

pub returns-clause-went : goal.returns-clause-went
returns-clause-went g c = λ tells. went_has _ _ _ c.args.path.now c.has.result (c.has.ensures.turn tells)
