use Rattle.std.proofs.lemmas.Result.{err_from_is_err_and}
use Rattle.ig_defs.specs.QueueNames.{task_of}
use Rattle.ig_worker.specs.declared.turn.Line.TheVariants as line
use Rattle.ig_worker.specs.declared.turn.Why.TheVariants as why
use Rattle.ig_worker.specs.Moves.{dead_path, queued_path, said_if}
use Rattle.ig_worker.specs.Places.{next_try}
use Rattle.ig_worker.proofs.Handings.{goes_shifted, led_shifted, led_unshifted}
use Rattle.ig_worker.proofs.Leading.{led_error}
use Rattle.ig_worker.proofs.trying.bury_spent.Goals as goal

pub returns-in_err-there-clause-went : goal.returns-in_err-there-clause-went
returns-in_err-there-clause-went g c = λ tells before.
    let p = err_from_is_err_and c.from_residual.result c.from_residual.ensures.1 in
    led_error _ _ _ _ _ _ _ _ _ p.1 p.2
    (led_unshifted c.args.notes.now (queued_path c.args.notes.now c.args.name) (dead_path c.args.notes.now c.args.name) (λ there. next_try c.args.names)
    (λ there. said_if there (line.Buried (task_of c.args.name) (why.Tries c.args.name.attempt))) _ _ _ before c.in_err-there.field-0.0 (c.in_err-there.ensures.answered tells))

pub returns-clause-goes : goal.returns-clause-goes
returns-clause-goes g c =
    goes_shifted c.args.notes.now (queued_path c.args.notes.now c.args.name) (dead_path c.args.notes.now c.args.name) (λ there. next_try c.args.names)
    (λ there. said_if there (line.Buried (task_of c.args.name) (why.Tries c.args.name.attempt))) c.in_ok-there.there _ c.next_try.ensures (c.spent_turn.ensures c.args.names)

pub returns-clause-went : goal.returns-clause-went
returns-clause-went g c = λ tells before.
    led_shifted c.args.notes.now (queued_path c.args.notes.now c.args.name) (dead_path c.args.notes.now c.args.name) (λ there. next_try c.args.names)
    (λ there. said_if there (line.Buried (task_of c.args.name) (why.Tries c.args.name.attempt))) _ _ _ before c.in_ok-there.there _ (c.in_ok-there.ensures.answered tells) c.next_try.ensures
    (c.spent_turn.ensures c.args.names)
