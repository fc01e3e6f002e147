use Rattle.std.proofs.Common.{ap, ◌∙◌, Err}
use Rattle.std.proofs.lemmas.Result.{err_from_is_err_and}
use Rattle.ig_cli.proofs.Performs.{performed_done, performed_error}
use Rattle.ig_cli.proofs.command.copy.Goals as goal

pub returns-in_err-run_local-clause-performed : goal.returns-in_err-run_local-clause-performed
returns-in_err-run_local-clause-performed g c = λ tells words asked.
    let p = err_from_is_err_and c.from_residual-in_err-run_local.result c.from_residual-in_err-run_local.ensures.1 in
    performed_error words _ _ c.args.request asked c.in_ok-want.want c.in_ok-want.ensures c.in_err-run_local.field-0.0 _ (p.1 ∙ ap Err p.2) (c.in_err-run_local.ensures.ran tells)

pub returns-clause-performed : goal.returns-clause-performed
returns-clause-performed g c = λ tells words asked.
    performed_done words _ _ c.args.request asked c.in_ok-want.want c.in_ok-want.ensures _ (c.in_ok-run_local.ensures.ran tells)
