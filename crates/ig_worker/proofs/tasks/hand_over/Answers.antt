use Rattle.std.proofs.lemmas.Result.{err_from_is_err_and}
use Rattle.ig_worker.proofs.Handings.{goes_settled, led_settled, led_unsettled, still_finishing}
use Rattle.ig_worker.proofs.Leading.{led_error}
use Rattle.ig_worker.proofs.tasks.hand_over.Goals as goal

pub returns-in_err-settle-clause-went : goal.returns-in_err-settle-clause-went
returns-in_err-settle-clause-went g c = λ tells.
    let p = err_from_is_err_and c.from_residual.result c.from_residual.ensures.1 in
    led_error _ _ _ _ _ _ _ _ _ p.1 p.2
    (led_unsettled c.args.notes.now c.args.name c.args.outputs c.args.names c.in-Some.output _ c.in-Some.ensures.first _ _ _ c.in_err-settle.field-0.0 (c.in_err-settle.ensures.called tells))

pub returns-clause-fits : goal.returns-clause-fits
returns-clause-fits g c = still_finishing c.args.notes.now c.args.name c.args.outputs c.args.names c.in-Some.output _ c.in-Some.ensures.first c.requires.fits

pub returns-clause-goes : goal.returns-clause-goes
returns-clause-goes g c = goes_settled c.args.notes.now c.args.name c.args.outputs c.args.names c.in-Some.output _ c.in-Some.ensures.first

pub returns-clause-went : goal.returns-clause-went
returns-clause-went g c = λ tells.
    led_settled c.args.notes.now c.args.name c.args.outputs c.args.names c.in-Some.output _ c.in-Some.ensures.first _ _ _ (c.in_ok-settle.ensures.called tells)
