use Rattle.std.proofs.lemmas.Result.{err_from_is_err_and}
use Rattle.ig_cli.proofs.WorkerTurns.{turned_cut, turned_ended, turned_failed, turned_on, turned_said}
use Rattle.ig_cli.proofs.working.turn.Goals as goal

pub returns-in_err-step-clause-turned : goal.returns-in_err-step-clause-turned
returns-in_err-step-clause-turned g c = λ tells.
    let p = err_from_is_err_and c.from_residual.result c.from_residual.ensures.1 in
    turned_failed _ _ _ _ _ _ _ _ _ c.from_residual.result c.in_err-step.field-0.0 _ (c.in_err-step.ensures.steps tells) p.1 p.2

pub returns-in_err-say-in-Said-clause-turned : goal.returns-in_err-say-in-Said-clause-turned
returns-in_err-say-in-Said-clause-turned g c = λ tells.
    let p = err_from_is_err_and c.from_residual-in_err-say-in-Said.result c.from_residual-in_err-say-in-Said.ensures.1 in
    turned_cut _ _ _ _ _ _ _ _ _ _ _ _ c.from_residual-in_err-say-in-Said.result c.in_err-say-in-Said.field-0.0 _ c.in-Said.is (c.in_ok-step.ensures.steps tells) c.in_err-say-in-Said.ensures.took p.1 p.2

pub returns-in-On-clause-turned : goal.returns-in-On-clause-turned
returns-in-On-clause-turned g c = λ tells. turned_on _ _ _ _ _ _ _ _ _ _ c.in-On.is (c.in_ok-step.ensures.steps tells)

pub returns-in_ok-say-in-Said-clause-turned : goal.returns-in_ok-say-in-Said-clause-turned
returns-in_ok-say-in-Said-clause-turned g c = λ tells. turned_said _ _ _ _ _ _ _ _ _ _ _ _ c.in-Said.is (c.in_ok-step.ensures.steps tells) c.in_ok-say-in-Said.ensures.took

pub returns-in-Ended-clause-turned : goal.returns-in-Ended-clause-turned
returns-in-Ended-clause-turned g c = λ tells. turned_ended _ _ _ _ _ _ _ _ _ _ _ c.in-Ended.is (c.in_ok-step.ensures.steps tells)
