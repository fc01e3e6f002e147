use Rattle.std.proofs.Common.{[], ◌∷◌, ◌++◌, ap, ◌∙◌, Err}
use Rattle.std.proofs.lemmas.Result.{err_from_is_err_and}
use Rattle.ig_meaning.specs.Making.{Planned}
use Rattle.ig_stage.specs.Running.{ending_of_local}
use Rattle.ig_stage.proofs.Locals.{local_done, local_failed, local_not_begun, local_not_made, looked, planned_alone}
use Rattle.ig_stage.proofs.local.run_local.Goals as goal

pub returns-in_err-stage-clause-ran : goal.returns-in_err-stage-clause-ran
returns-in_err-stage-clause-ran g c = λ tells.
    let p = err_from_is_err_and c.from_residual.result c.from_residual.ensures.1 in
    local_not_made c.args.want.now c.only.result.now c.only.ensures.only _ c.requires.rule _ _ c.in_err-stage.field-0.0 _ (p.1 ∙ ap Err p.2) (looked _ _ _ _ _ _ c.new-none.ensures (c.in_err-stage.ensures.looks tells Planned))

pub returns-in_err-push-clause-ran : goal.returns-in_err-push-clause-ran
returns-in_err-push-clause-ran g c = λ tells.
    let p = err_from_is_err_and c.from_residual-in_err-push.result c.from_residual-in_err-push.ensures.1 in
    local_not_begun c.args.want.now c.only.result.now c.only.ensures.only _ c.requires.rule _ _ c.in_ok-stage.stage (planned_alone _ _ _ _ c.new-none.ensures (c.in_ok-stage.ensures.found tells c.requires.rule)) (looked _ _ _ _ _ _ c.new-none.ensures (c.in_ok-stage.ensures.looks tells Planned))
    _ _ p.1 (ap ending_of_local p.2) c.in_ok-stage.ensures.can_run

pub returns-in_err-run-clause-ran : goal.returns-in_err-run-clause-ran
returns-in_err-run-clause-ran g c = λ tells.
    let p = err_from_is_err_and c.from_residual-in_err-run.result c.from_residual-in_err-run.ensures.1 in
    local_failed c.args.want.now c.only.result.now c.only.ensures.only _ c.requires.rule _ _ c.in_ok-stage.stage (planned_alone _ _ _ _ c.new-none.ensures (c.in_ok-stage.ensures.found tells c.requires.rule)) (looked _ _ _ _ _ _ c.new-none.ensures (c.in_ok-stage.ensures.looks tells Planned))
    _ c.in_err-run.field-0.0 _ (p.1 ∙ ap Err p.2) (c.in_err-run.ensures.ran tells)

pub returns-clause-ran : goal.returns-clause-ran
returns-clause-ran g c = λ tells.
    local_done c.args.want.now c.only.result.now c.only.ensures.only _ c.requires.rule _ _ c.in_ok-stage.stage (planned_alone _ _ _ _ c.new-none.ensures (c.in_ok-stage.ensures.found tells c.requires.rule)) (looked _ _ _ _ _ _ c.new-none.ensures (c.in_ok-stage.ensures.looks tells Planned))
    _ _ (c.in_ok-push.ensures.ok ∙ ap (λ ran. ran ++ record { kind = c.in_ok-stage.stage.kind; tasks = c.tasks.result } ∷ []) c.new-ran.ensures
    ∙ ap (λ n. record { kind = c.in_ok-stage.stage.kind; tasks = n } ∷ []) c.tasks.ensures.value) (c.in_ok-run.ensures.ran tells)
