use Rattle.ig_rule.specs.Outputs.{output_stays}
use Rattle.ig_rule.proofs.laws.outputs_stay.Goals as goal

pub returns : goal.returns
returns c = output_stays
