use Rattle.std.proofs.lemmas.Result.{err_from_is_err_and}
use Rattle.ig_defs.specs.Answers.{Lists, Names}
use Rattle.ig_worker.specs.Moves.{ListsDone}
use Rattle.ig_worker.proofs.Endings.{done_listed, goes_to_end, led_to_end}
use Rattle.ig_worker.proofs.Exits.{led_failed, led_forgotten}
use Rattle.ig_worker.proofs.ending.list_done.Goals as goal

pub returns-in_err-given-clause-went : goal.returns-in_err-given-clause-went
returns-in_err-given-clause-went g c = λ tells.
    let p = err_from_is_err_and c.from_residual-in_err-given.result c.from_residual-in_err-given.ensures.1 in
    led_failed _ _ _ (ListsDone c.args.notes.now c.args.letters) c.args.notes.now c.args.notes.now (Lists c.in_ok-dir.dir) (done_listed _ _ _ c.args.notes.now c.args.letters c.in_ok-dir.dir c.in_ok-dir.ensures.dir)
    (λ answer changes. changes) c.from_residual-in_err-given.result c.in_err-given.field-0.0 _ p.1 p.2 (c.in_err-given.ensures.answered tells)

pub returns-in_err-close-clause-went : goal.returns-in_err-close-clause-went
returns-in_err-close-clause-went g c = λ tells.
    let p = err_from_is_err_and c.from_residual-in_err-close.result c.from_residual-in_err-close.ensures.1 in
    led_forgotten _ _ _ (ListsDone c.args.notes.now c.args.letters) c.args.notes.now c.args.notes.now (Lists c.in_ok-dir.dir) (done_listed _ _ _ c.args.notes.now c.args.letters c.in_ok-dir.dir c.in_ok-dir.ensures.dir)
    c.from_residual-in_err-close.result _ (Names c.in_ok-given.given) p.1 p.2 (c.in_ok-given.ensures.answered tells)

pub returns-clause-goes : goal.returns-clause-goes
returns-clause-goes g c = goes_to_end c.args.notes.now c.args.letters c.in_ok-given.given c.in_ok-close.field-0 c.in_ok-close.ensures.phase c.in_ok-close.ensures.turn

pub returns-clause-went : goal.returns-clause-went
returns-clause-went g c = λ tells.
    led_to_end _ _ _ c.args.notes.now c.args.letters c.in_ok-dir.dir c.in_ok-given.given c.in_ok-close.field-0 c.in_ok-dir.ensures.dir (c.in_ok-given.ensures.answered tells) c.in_ok-close.ensures.phase c.in_ok-close.ensures.turn
