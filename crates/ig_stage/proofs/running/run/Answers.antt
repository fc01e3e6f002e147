use Rattle.std.proofs.Common.{arith, ◌≡◌, ◌<◌, subst, ◌∙◌}
use Rattle.std.proofs.lemmas.Result.{err_from_is_err_and}
use Rattle.ig_stage.specs.Running.{RunsSome, ending_of_local}
use Rattle.ig_stage.proofs.RunEnds.{all_done, info_failed, passed_on, task_failed}
use Rattle.ig_stage.proofs.RunSteps.{run_begins, run_goes_on}
use Rattle.ig_stage.proofs.running.run.Goals as goal

pub returns-in_err-put_info-clause-ran : goal.returns-in_err-put_info-clause-ran
returns-in_err-put_info-clause-ran g c = λ tells.
    let s = c.args.stage.now in
    let can = c.requires.can_run in
    let p = err_from_is_err_and c.from_residual.result c.from_residual.ensures.1 in
    passed_on s _ _ c.from_residual.result c.in_err-put_info.field-0.0 _ p.1 p.2
    (info_failed s can _ _ c.in_err-put_info.field-0.0 (c.in_err-put_info.ensures.did tells))

pub returns-in_err-run_task-clause-ran : goal.returns-in_err-run_task-clause-ran
returns-in_err-run_task-clause-ran g c = λ tells.
    let s = c.args.stage.now in
    let can = c.requires.can_run in
    let p = err_from_is_err_and c.from_residual-in_err-run_task.result c.from_residual-in_err-run_task.ensures.1 in
    passed_on s _ _ c.from_residual-in_err-run_task.result c.in_err-run_task.field-0.0 _ p.1 p.2
    (task_failed s can _ _ c.loop-task.task (subst (λ m. c.loop-task.task < m) c.tasks-tasks.ensures.value c.loop-task-test.true) (c.loop-task.invariant.2 tells) _ (ending_of_local c.in_err-run_task.field-0.0)
    (c.in_err-run_task.ensures.ran tells))

pub loop-task-init : goal.loop-task-init
loop-task-init g c = (
  c.put_info.ensures.rule,
  c.in_ok-put_info.ensures.cause.later,
  λ tells. run_begins c.args.stage.now _ _ c.in_ok-put_info.field-0 (c.in_ok-put_info.ensures.did tells),
)

pub loop-task-preserved : goal.loop-task-preserved
loop-task-preserved g c =
    let s = c.args.stage.now in (
      c.run_task.ensures.rule,
      omega (arith, c.loop-task.invariant.1, c.in_ok-run_task.ensures.cause.later),
      λ tells. run_goes_on s _ _ _ c.loop-task.task (subst (λ m. c.loop-task.task < m) c.tasks-tasks.ensures.value c.loop-task-test.true) (c.loop-task.invariant.2 tells) (c.in_ok-run_task.ensures.ran tells),
    )

pub returns-clause-ran : goal.returns-clause-ran
returns-clause-ran g c = λ tells.
    let s = c.args.stage.now in
    let can = c.requires.can_run in
    let same : c.loop-task.task ≡ c.tasks-tasks.result = omega (arith, c.loop-task-test.false, c.loop-task.auto.task-end) in
    all_done s can _ _ (subst (RunsSome s _ _) (same ∙ c.tasks-tasks.ensures.value) (c.loop-task.invariant.2 tells))
