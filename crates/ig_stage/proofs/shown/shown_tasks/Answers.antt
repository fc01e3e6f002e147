use Rattle.ig_stage.proofs.SomeSteps.{some_nothing}
use Rattle.ig_stage.proofs.shown.shown_tasks.Goals as goal

pub returns-in_err-shown-clause-some : goal.returns-in_err-shown-clause-some
returns-in_err-shown-clause-some g c = λ tells. some_nothing _ _
