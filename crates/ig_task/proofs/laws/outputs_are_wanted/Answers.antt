use Rattle.ig_task.specs.GivenPasses.{outputs-are_wanted}
use Rattle.ig_task.proofs.laws.outputs_are_wanted.Goals as goal

pub returns : goal.returns
returns c = outputs-are_wanted
