use Rattle.ig_rule.specs.DrainedFinished.{drained_finished, drained_exact, drained_defined}
use Rattle.ig_rule.proofs.laws.drained_is_finished.Goals as goal

pub returns-clause-finished : goal.returns-clause-finished
returns-clause-finished c = drained_finished

pub returns-clause-exact : goal.returns-clause-exact
returns-clause-exact c = drained_exact

pub returns-clause-defined : goal.returns-clause-defined
returns-clause-defined c = drained_defined
