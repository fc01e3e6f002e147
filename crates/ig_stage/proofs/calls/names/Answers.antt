use Rattle.ig_rule.specs.WentOn.{went_list}
use Rattle.ig_stage.proofs.OthersLooks.{names_true}
use Rattle.ig_stage.proofs.calls.names.Goals as goal

pub returns-clause-went : goal.returns-clause-went
returns-clause-went g c = λ tells. went_list _ _ _ c.args.dir.now c.names.result (c.names.ensures.turn tells)

pub returns-clause-lists : goal.returns-clause-lists
returns-clause-lists g c = λ tells look. names_true _ _ _ c.args.dir.now c.names.result (went_list _ _ _ c.args.dir.now c.names.result (c.names.ensures.turn tells)) look
