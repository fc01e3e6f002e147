use Rattle.std.proofs.Common.{arith, refl}
use Rattle.std.proofs.lemmas.Result.{err_from_is_err_and}
use Rattle.ig_defs.specs.Answers.{Lists, Names}
use Rattle.ig_worker.specs.Moves.{ListsQueue}
use Rattle.ig_worker.specs.Places.{asked}
use Rattle.ig_worker.proofs.Exits.{led_failed, led_forgotten}
use Rattle.ig_worker.proofs.Listings.{all_due, few_unknown, goes_to_round, led_to_round, queue_listed}
use Rattle.ig_worker.proofs.round.ask.Goals as goal

pub learning-requires-clause-few : goal.learning-requires-clause-few
learning-requires-clause-few g c =
    few_unknown c.args.notes.now.known c.in_ok-listed.listed c.now-now.result c.in_ok-names.names c.in_ok-unread.unread c.in_ok-names.ensures c.in_ok-unread.ensures

pub returns-in_err-listed-clause-went : goal.returns-in_err-listed-clause-went
returns-in_err-listed-clause-went g c = λ tells.
    let p = err_from_is_err_and c.from_residual-in_err-listed.result c.from_residual-in_err-listed.ensures.1 in
    let from = g.C.Clock.last c.args.clock.now in
    let to = g.C.Clock.last c.now-now.new.self in
    led_failed _ _ _ (ListsQueue from to c.args.notes.now) c.args.notes.now c.args.notes.now (Lists c.in_ok-dir.dir)
    (queue_listed _ _ _ from to c.now-now.result c.now-now.ensures.later (omega (arith, c.now-now.ensures.kept)) c.args.notes.now c.in_ok-dir.dir c.in_ok-dir.ensures.dir)
    (λ answer changes. changes) c.from_residual-in_err-listed.result c.in_err-listed.field-0.0 _ p.1 p.2 (c.in_err-listed.ensures.answered tells)

pub returns-in_err-names-clause-went : goal.returns-in_err-names-clause-went
returns-in_err-names-clause-went g c = λ tells.
    let p = err_from_is_err_and c.from_residual-in_err-names.result c.from_residual-in_err-names.ensures.1 in
    let from = g.C.Clock.last c.args.clock.now in
    let to = g.C.Clock.last c.now-now.new.self in
    led_forgotten _ _ _ (ListsQueue from to c.args.notes.now) c.args.notes.now c.args.notes.now (Lists c.in_ok-dir.dir)
    (queue_listed _ _ _ from to c.now-now.result c.now-now.ensures.later (omega (arith, c.now-now.ensures.kept)) c.args.notes.now c.in_ok-dir.dir c.in_ok-dir.ensures.dir)
    c.from_residual-in_err-names.result _ (Names c.in_ok-listed.listed) p.1 p.2 (c.in_ok-listed.ensures.answered tells)

pub returns-in_err-unread-clause-went : goal.returns-in_err-unread-clause-went
returns-in_err-unread-clause-went g c = λ tells.
    let p = err_from_is_err_and c.from_residual-in_err-unread.result c.from_residual-in_err-unread.ensures.1 in
    let from = g.C.Clock.last c.args.clock.now in
    let to = g.C.Clock.last c.now-now.new.self in
    led_forgotten _ _ _ (ListsQueue from to c.args.notes.now) c.args.notes.now c.args.notes.now (Lists c.in_ok-dir.dir)
    (queue_listed _ _ _ from to c.now-now.result c.now-now.ensures.later (omega (arith, c.now-now.ensures.kept)) c.args.notes.now c.in_ok-dir.dir c.in_ok-dir.ensures.dir)
    c.from_residual-in_err-unread.result _ (Names c.in_ok-listed.listed) p.1 p.2 (c.in_ok-listed.ensures.answered tells)

pub returns-in_err-phase-clause-went : goal.returns-in_err-phase-clause-went
returns-in_err-phase-clause-went g c = λ tells.
    let p = err_from_is_err_and c.from_residual-in_err-phase.result c.from_residual-in_err-phase.ensures.1 in
    let from = g.C.Clock.last c.args.clock.now in
    let to = g.C.Clock.last c.now-now.new.self in
    led_forgotten _ _ _ (ListsQueue from to c.args.notes.now) c.args.notes.now c.args.notes.now (Lists c.in_ok-dir.dir)
    (queue_listed _ _ _ from to c.now-now.result c.now-now.ensures.later (omega (arith, c.now-now.ensures.kept)) c.args.notes.now c.in_ok-dir.dir c.in_ok-dir.ensures.dir)
    c.from_residual-in_err-phase.result _ (Names c.in_ok-listed.listed) p.1 p.2 (c.in_ok-listed.ensures.answered tells)

pub returns-clause-fits : goal.returns-clause-fits
returns-clause-fits g c =
    c.in_ok-phase.ensures.fits (asked c.args.notes.now c.now-now.result) refl (all_due c.in_ok-listed.listed c.now-now.result c.in_ok-names.names c.in_ok-names.ensures)

pub returns-clause-goes : goal.returns-clause-goes
returns-clause-goes g c =
    goes_to_round (g.C.Clock.last c.args.clock.now) (g.C.Clock.last c.now-now.new.self) c.now-now.result c.now-now.ensures.later (omega (arith, c.now-now.ensures.kept))
    c.args.notes.now c.in_ok-listed.listed c.in_ok-names.names c.in_ok-unread.unread c.in_ok-phase.phase c.in_ok-names.ensures c.in_ok-unread.ensures c.in_ok-phase.ensures.phase

pub returns-clause-went : goal.returns-clause-went
returns-clause-went g c = λ tells.
    led_to_round _ _ _ (g.C.Clock.last c.args.clock.now) (g.C.Clock.last c.now-now.new.self) c.now-now.result c.now-now.ensures.later (omega (arith, c.now-now.ensures.kept))
    c.args.notes.now c.in_ok-dir.dir c.in_ok-listed.listed c.in_ok-names.names c.in_ok-unread.unread c.in_ok-phase.phase c.in_ok-dir.ensures.dir
    (c.in_ok-listed.ensures.answered tells) c.in_ok-names.ensures c.in_ok-unread.ensures c.in_ok-phase.ensures.phase
