use Rattle.std.proofs.lemmas.Result.{err_from_is_err_and}
use Rattle.ig_defs.specs.Answers.{Lists, Names}
use Rattle.ig_worker.specs.Moves.{ListsDead}
use Rattle.ig_worker.proofs.Endings.{dead_listed, goes_to_letters, led_to_letters}
use Rattle.ig_worker.proofs.Exits.{led_failed, led_forgotten}
use Rattle.ig_worker.proofs.ending.list_dead.Goals as goal

pub returns-in_err-given-clause-went : goal.returns-in_err-given-clause-went
returns-in_err-given-clause-went g c = λ tells.
    let p = err_from_is_err_and c.from_residual-in_err-given.result c.from_residual-in_err-given.ensures.1 in
    led_failed _ _ _ (ListsDead c.args.notes.now) c.args.notes.now c.args.notes.now (Lists c.in_ok-dir.dir) (dead_listed _ _ _ c.args.notes.now c.in_ok-dir.dir c.in_ok-dir.ensures.dir)
    (λ answer changes. changes) c.from_residual-in_err-given.result c.in_err-given.field-0.0 _ p.1 p.2 (c.in_err-given.ensures.answered tells)

pub returns-in_err-letters-clause-went : goal.returns-in_err-letters-clause-went
returns-in_err-letters-clause-went g c = λ tells.
    let p = err_from_is_err_and c.from_residual-in_err-letters.result c.from_residual-in_err-letters.ensures.1 in
    led_forgotten _ _ _ (ListsDead c.args.notes.now) c.args.notes.now c.args.notes.now (Lists c.in_ok-dir.dir) (dead_listed _ _ _ c.args.notes.now c.in_ok-dir.dir c.in_ok-dir.ensures.dir)
    c.from_residual-in_err-letters.result _ (Names c.in_ok-given.given) p.1 p.2 (c.in_ok-given.ensures.answered tells)

pub returns-clause-goes : goal.returns-clause-goes
returns-clause-goes g c = goes_to_letters c.args.notes.now c.in_ok-given.given c.in_ok-letters.letters c.in_ok-letters.ensures

pub returns-clause-went : goal.returns-clause-went
returns-clause-went g c = λ tells.
    led_to_letters _ _ _ c.args.notes.now c.in_ok-dir.dir c.in_ok-given.given c.in_ok-letters.letters c.in_ok-dir.ensures.dir (c.in_ok-given.ensures.answered tells) c.in_ok-letters.ensures
