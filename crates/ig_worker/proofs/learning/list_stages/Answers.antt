use Rattle.std.proofs.Common.{refl}
use Rattle.std.proofs.lemmas.Result.{err_from_is_err_and}
use Rattle.ig_defs.specs.Answers.{Lists, Names}
use Rattle.ig_worker.specs.Moves.{ListsStages}
use Rattle.ig_worker.proofs.Exits.{led_failed, led_forgotten}
use Rattle.ig_worker.proofs.Listings.{goes_to_records, led_to_records, stages_listed}
use Rattle.ig_worker.proofs.learning.list_stages.Goals as goal

pub returns-in_err-listed-clause-went : goal.returns-in_err-listed-clause-went
returns-in_err-listed-clause-went g c = λ tells.
    let p = err_from_is_err_and c.from_residual-in_err-listed.result c.from_residual-in_err-listed.ensures.1 in
    led_failed _ _ _ (ListsStages c.args.notes.now c.args.then) c.args.notes.now c.args.notes.now (Lists c.in_ok-dir.dir)
    (stages_listed _ _ _ c.args.notes.now c.args.then c.in_ok-dir.dir c.in_ok-dir.ensures.dir)
    (λ answer changes. changes) c.from_residual-in_err-listed.result c.in_err-listed.field-0.0 _ p.1 p.2 (c.in_err-listed.ensures.answered tells)

pub returns-in_err-unread-clause-went : goal.returns-in_err-unread-clause-went
returns-in_err-unread-clause-went g c = λ tells.
    let p = err_from_is_err_and c.from_residual-in_err-unread.result c.from_residual-in_err-unread.ensures.1 in
    led_forgotten _ _ _ (ListsStages c.args.notes.now c.args.then) c.args.notes.now c.args.notes.now (Lists c.in_ok-dir.dir)
    (stages_listed _ _ _ c.args.notes.now c.args.then c.in_ok-dir.dir c.in_ok-dir.ensures.dir)
    c.from_residual-in_err-unread.result _ (Names c.in_ok-listed.listed) p.1 p.2 (c.in_ok-listed.ensures.answered tells)

pub returns-in_err-phase-clause-went : goal.returns-in_err-phase-clause-went
returns-in_err-phase-clause-went g c = λ tells.
    let p = err_from_is_err_and c.from_residual-in_err-phase.result c.from_residual-in_err-phase.ensures.1 in
    led_forgotten _ _ _ (ListsStages c.args.notes.now c.args.then) c.args.notes.now c.args.notes.now (Lists c.in_ok-dir.dir)
    (stages_listed _ _ _ c.args.notes.now c.args.then c.in_ok-dir.dir c.in_ok-dir.ensures.dir)
    c.from_residual-in_err-phase.result _ (Names c.in_ok-listed.listed) p.1 p.2 (c.in_ok-listed.ensures.answered tells)

pub returns-clause-fits : goal.returns-clause-fits
returns-clause-fits g c = c.in_ok-phase.ensures.fits c.args.notes.now refl c.requires.fits

pub returns-clause-goes : goal.returns-clause-goes
returns-clause-goes g c = goes_to_records c.args.notes.now c.args.then c.in_ok-listed.listed c.in_ok-unread.unread c.in_ok-phase.phase c.in_ok-unread.ensures.numbers c.in_ok-phase.ensures.phase

pub returns-clause-went : goal.returns-clause-went
returns-clause-went g c = λ tells.
    led_to_records _ _ _ c.args.notes.now c.args.then c.in_ok-dir.dir c.in_ok-listed.listed c.in_ok-unread.unread c.in_ok-phase.phase c.in_ok-dir.ensures.dir
    (c.in_ok-listed.ensures.answered tells) c.in_ok-unread.ensures.numbers c.in_ok-phase.ensures.phase
