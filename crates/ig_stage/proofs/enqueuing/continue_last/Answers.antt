use Rattle.std.proofs.Common.{arith, ◌≡◌, ◌-◌, suc, length, ap, ◌∙◌}
use Rattle.std.specs.Prelude.{slice_get}
use Rattle.std.proofs.lemmas.Result.{err_from_is_err_and}
use Rattle.ig_stage.specs.Recorded.{continues}
use Rattle.ig_stage.proofs.Enqueues.{continues_first}
use Rattle.ig_stage.proofs.LastStages.{continues_fine, continues_is, last_open}
use Rattle.ig_stage.proofs.Makers.{last_made, puts_fail}
use Rattle.ig_stage.proofs.enqueuing.continue_last.Goals as goal

pub returns-in_err-continue_unsealed-clause-made : goal.returns-in_err-continue_unsealed-clause-made
returns-in_err-continue_unsealed-clause-made g c = λ tells.
    let p = err_from_is_err_and c.from_residual.result c.from_residual.ensures.1 in
    puts_fail _ c.args.queue.now (continues c.args.stages.now) _ _ c.in_err-continue_unsealed.field-0.0 _ _ p.1 p.2 (continues_fine c.args.stages.now) (continues_first c.args.stages.now c.requires.some) (c.in_err-continue_unsealed.ensures.some tells)

pub returns-in_err-continue_unsealed-clause-legal : goal.returns-in_err-continue_unsealed-clause-legal
returns-in_err-continue_unsealed-clause-legal g c = λ tells rule finds legal.
    let long : suc (c.len.result - 1) ≡ length c.args.stages.now = omega (arith, c.len.ensures, c.requires.some) in
    let number : c.len.result - 1 ≡ length c.args.stages.now - 1 = omega (arith, c.len.ensures) in
    c.in_err-continue_unsealed.ensures.legal tells rule legal
    (last_open c.args.queue.now c.args.stages.now _ (c.len.result - 1) c.last-stage.result.now finds long (ap (slice_get c.args.stages.now) number ∙ c.last-stage.ensures.last))

pub returns-clause-made : goal.returns-clause-made
returns-clause-made g c = λ tells.
    let long : suc (c.len.result - 1) ≡ length c.args.stages.now = omega (arith, c.len.ensures, c.requires.some) in
    let number : c.len.result - 1 ≡ length c.args.stages.now - 1 = omega (arith, c.len.ensures) in
    last_made _ c.args.queue.now (continues c.args.stages.now) _ _ (c.len.result - 1) c.tasks.result c.last-stage.result.now
    (continues_is c.args.stages.now (c.len.result - 1) c.last-stage.result.now long (ap (slice_get c.args.stages.now) number ∙ c.last-stage.ensures.last)) c.tasks.ensures.value
    (c.in_ok-continue_unsealed.ensures.acts tells)

pub returns-clause-legal : goal.returns-clause-legal
returns-clause-legal g c = λ tells rule finds legal.
    let long : suc (c.len.result - 1) ≡ length c.args.stages.now = omega (arith, c.len.ensures, c.requires.some) in
    let number : c.len.result - 1 ≡ length c.args.stages.now - 1 = omega (arith, c.len.ensures) in
    c.in_ok-continue_unsealed.ensures.legal tells rule legal
    (last_open c.args.queue.now c.args.stages.now _ (c.len.result - 1) c.last-stage.result.now finds long (ap (slice_get c.args.stages.now) number ∙ c.last-stage.ensures.last))

pub returns-clause-sealed : goal.returns-clause-sealed
returns-clause-sealed g c = λ tells rule finds legal.
    let long : suc (c.len.result - 1) ≡ length c.args.stages.now = omega (arith, c.len.ensures, c.requires.some) in
    let number : c.len.result - 1 ≡ length c.args.stages.now - 1 = omega (arith, c.len.ensures) in
    c.in_ok-continue_unsealed.ensures.sealed tells rule legal
    (last_open c.args.queue.now c.args.stages.now _ (c.len.result - 1) c.last-stage.result.now finds long (ap (slice_get c.args.stages.now) number ∙ c.last-stage.ensures.last))
