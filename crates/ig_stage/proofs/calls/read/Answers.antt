use Rattle.ig_rule.specs.WentOn.{went_read}
use Rattle.ig_stage.proofs.Turns.{did_read, only_read_by}
use Rattle.ig_stage.proofs.calls.read.Goals as goal

pub returns-clause-went : goal.returns-clause-went
returns-clause-went g c = λ tells. went_read _ _ _ c.args.path.now c.read.result (c.read.ensures.turn tells)

pub returns-clause-did : goal.returns-clause-did
returns-clause-did g c = λ tells rule. did_read _ (only_read_by _ rule) _ _ c.args.path.now c.read.result (went_read _ _ _ c.args.path.now c.read.result (c.read.ensures.turn tells))
