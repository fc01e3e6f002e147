use Rattle.ig_rule.specs.WentOn.{went_put}
use Rattle.ig_stage.proofs.Turns.{did_put, only_read_by}
use Rattle.ig_stage.proofs.calls.put.Goals as goal

pub returns-clause-went : goal.returns-clause-went
returns-clause-went g c = λ tells. went_put _ _ _ c.args.path.now c.args.bytes.now c.put.result (c.put.ensures.turn tells)

pub returns-clause-did : goal.returns-clause-did
returns-clause-did g c = λ tells rule. did_put _ (only_read_by _ rule) _ _ c.args.path.now c.args.bytes.now c.put.result (went_put _ _ _ c.args.path.now c.args.bytes.now c.put.result (c.put.ensures.turn tells))
