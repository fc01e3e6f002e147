use Rattle.std.proofs.Common.{arith, ◌<◌, length, get_or, ◌∙◌, ap, subst}
use Rattle.std.proofs.lemmas.Result.{err_from_is_err_and}
use Rattle.ig_stage.specs.Running.{ending_of_local}
use Rattle.ig_stage.proofs.OutputPuts.{fails_to_put, not_put, put_next}
use Rattle.ig_stage.proofs.running.put_outputs.Goals as goal

pub returns-in_err-put_output-clause-did : goal.returns-in_err-put_output-clause-did
returns-in_err-put_output-clause-did g c = λ tells.
    let p = err_from_is_err_and c.from_residual.result c.from_residual.ensures.1 in
    fails_to_put _ _ _ _ c.in_err-put_output.field-0.0 _ p.1 p.2
    (not_put _ _ _ _ (c.loop-output.invariant.2 tells) c.output-item.result (subst (λ xs. c.loop-output.output-index < length xs) c.as_slice-output-items.ensures c.loop-output-test.true)
    (c.output-item.is ∙ ap (λ xs. get_or xs c.loop-output.output-index c.output-item.result) c.as_slice-output-items.ensures)
    _ (ending_of_local c.in_err-put_output.field-0.0) (c.in_err-put_output.ensures.did tells))

pub loop-output-preserved : goal.loop-output-preserved
loop-output-preserved g c =
    let below = subst (λ xs. c.loop-output.output-index < length xs) c.as_slice-output-items.ensures c.loop-output-test.true in
    let is = c.output-item.is ∙ ap (λ xs. get_or xs c.loop-output.output-index c.output-item.result) c.as_slice-output-items.ensures in (
      c.put_output.ensures.rule,
      omega (arith, c.loop-output.invariant.1, c.in_ok-put_output.ensures.cause.later),
      λ tells. put_next _ _ _ _ (c.loop-output.invariant.2 tells) c.output-item.result below is _ (c.in_ok-put_output.ensures.did tells),
    )
