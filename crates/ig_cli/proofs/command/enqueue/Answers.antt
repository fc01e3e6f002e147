use Rattle.std.proofs.Common.{ap, ◌∙◌, Ok, Err, refl}
use Rattle.std.proofs.lemmas.Result.{err_from_is_err_and}
use Rattle.ig_stage.specs.Requests.{shown_request}
use Rattle.ig_cli.specs.Performed.{enqueued}
use Rattle.ig_cli.proofs.Completes.{enqueue_goes_on}
use Rattle.ig_cli.proofs.command.enqueue.Goals as goal

pub returns-in_err-make-clause-performed : goal.returns-in_err-make-clause-performed
returns-in_err-make-clause-performed g c = λ tells words asked.
    let p = err_from_is_err_and c.from_residual.result c.from_residual.ensures.1 in
    enqueued c.args.queue.now (shown_request c.args.request.now) (Err c.in_err-make.field-0.0) (p.1 ∙ ap Err p.2) asked (c.in_err-make.ensures.made tells)

pub returns-clause-performed : goal.returns-clause-performed
returns-clause-performed g c = λ tells words asked.
    enqueued c.args.queue.now (shown_request c.args.request.now) (Ok c.in_ok-make.field-0) refl asked (c.in_ok-make.ensures.made tells)

pub returns-in_err-make-clause-complete : goal.returns-in_err-make-clause-complete
returns-in_err-make-clause-complete g c = λ tells can own r.
    let p = err_from_is_err_and c.from_residual.result c.from_residual.ensures.1 in
    enqueue_goes_on _ c.in_err-make.field-0.0 r (p.1 ∙ ap Err p.2) (c.in_err-make.ensures.complete tells c.requires.apart.path can own)
