use Rattle.std.proofs.Common.{[], is_some, subst, sym}
use Rattle.std.proofs.lemmas.Result.{err_from_is_err_and}
use Rattle.ig_worker.specs.Fit.{IsFitPhase}
use Rattle.ig_worker.specs.Moves.{leased, queued_path}
use Rattle.ig_worker.specs.Places.{leased_or_gone}
use Rattle.ig_worker.proofs.Handings.{goes_shifted, led_shifted, led_unshifted, moves_shifted}
use Rattle.ig_worker.proofs.Leading.{led_error, led_in_vain}
use Rattle.ig_worker.proofs.Tries.{begun-fits, begun-is, begun-on, still_fits}
use Rattle.ig_worker.proofs.trying.lease_name.Goals as goal

pub returns-in_err-leased-clause-went : goal.returns-in_err-leased-clause-went
returns-in_err-leased-clause-went g c = λ tells before.
    let notes = c.args.notes.now in
    let named = leased notes notes.at c.args.name in
    let p = err_from_is_err_and c.from_residual.result c.from_residual.ensures.1 in
    led_error _ _ _ _ _ _ _ _ _ p.1 p.2
    (led_unshifted notes (queued_path notes c.args.name) (queued_path notes named) (λ there. leased_or_gone there notes.known named c.args.names) (λ there. []) _ _ _ before c.in_err-leased.field-0.0
    (c.in_err-leased.ensures.answered tells))

pub returns-in_err-phase-clause-went : goal.returns-in_err-phase-clause-went
returns-in_err-phase-clause-went g c = λ tells before.
    let notes = c.args.notes.now in
    let named = leased notes notes.at c.args.name in
    let p = err_from_is_err_and c.from_residual-in_err-phase.result c.from_residual-in_err-phase.ensures.1 in
    led_error _ _ _ _ _ _ _ _ _ p.1 p.2
    (led_in_vain _ _ _ _ before notes
    (moves_shifted notes (queued_path notes c.args.name) (queued_path notes named) (λ there. leased_or_gone there notes.known named c.args.names) (λ there. []) _ _ _ _
    (c.in_ok-leased.ensures.answered tells)))

pub returns-clause-fits : goal.returns-clause-fits
returns-clause-fits g c =
    let notes = c.args.notes.now in
    let named = leased notes notes.at c.args.name in
    subst (IsFitPhase notes)
    (sym (begun-is notes named c.args.names c.in_ok-leased.leased c.in_ok-phase.phase c.in_ok-leased.ensures.name c.in_ok-phase.ensures.begun c.in_ok-phase.ensures.gone))
    (begun-fits notes named c.args.names (still_fits notes c.args.name c.requires.notes.plan c.requires.may_run.due.fits c.requires.few) c.requires.may_run.below c.requires.ahead (is_some c.in_ok-leased.leased))

pub returns-clause-goes : goal.returns-clause-goes
returns-clause-goes g c =
    let notes = c.args.notes.now in
    let named = leased notes notes.at c.args.name in
    goes_shifted notes (queued_path notes c.args.name) (queued_path notes named) (λ there. leased_or_gone there notes.known named c.args.names) (λ there. []) (is_some c.in_ok-leased.leased) _
    (begun-is notes named c.args.names c.in_ok-leased.leased c.in_ok-phase.phase c.in_ok-leased.ensures.name c.in_ok-phase.ensures.begun c.in_ok-phase.ensures.gone)
    (begun-on notes named c.args.names (is_some c.in_ok-leased.leased))

pub returns-clause-went : goal.returns-clause-went
returns-clause-went g c = λ tells before.
    let notes = c.args.notes.now in
    let named = leased notes notes.at c.args.name in
    led_shifted notes (queued_path notes c.args.name) (queued_path notes named) (λ there. leased_or_gone there notes.known named c.args.names) (λ there. []) _ _ _ before (is_some c.in_ok-leased.leased) _
    (c.in_ok-leased.ensures.answered tells)
    (begun-is notes named c.args.names c.in_ok-leased.leased c.in_ok-phase.phase c.in_ok-leased.ensures.name c.in_ok-phase.ensures.begun c.in_ok-phase.ensures.gone)
    (begun-on notes named c.args.names (is_some c.in_ok-leased.leased))
