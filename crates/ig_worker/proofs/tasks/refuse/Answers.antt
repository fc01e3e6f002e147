use Rattle.std.proofs.Common.{[], ◌∷◌, Ok, ap, sym, ◌∙◌}
use Rattle.std.proofs.lemmas.Result.{err_from_is_err_and}
use Rattle.ig_defs.specs.QueueNames.{task_of}
use Rattle.ig_space.specs.declared.task_id.TaskId.{TaskId}
use Rattle.ig_worker.specs.declared.turn.Line.{Line}
use Rattle.ig_worker.specs.declared.turn.Line.TheVariants as line
use Rattle.ig_worker.specs.declared.turn.Turn.TheVariants.{Said}
use Rattle.ig_worker.specs.Moves.{by_presence, dead_path, queued_path}
use Rattle.ig_worker.specs.Places.{next_try}
use Rattle.ig_worker.proofs.Handings.{goes_shifted, led_shifted, led_unshifted}
use Rattle.ig_worker.proofs.Leading.{led_error}
use Rattle.ig_worker.proofs.tasks.refuse.Goals as goal

pub returns-in_err-there-clause-went : goal.returns-in_err-there-clause-went
returns-in_err-there-clause-went g c = λ tells.
    let p = err_from_is_err_and c.from_residual.result c.from_residual.ensures.1 in
    led_error _ _ _ _ _ _ _ _ _ p.1 p.2
    (led_unshifted c.args.notes.now (queued_path c.args.notes.now c.args.name) (dead_path c.args.notes.now c.args.name) (λ there. next_try c.args.names)
    (λ there. by_presence there (line.Buried (task_of c.args.name) c.args.cause) (line.Late (task_of c.args.name)) ∷ []) _ _ _ c.args.notes.now c.in_err-there.field-0.0 (c.in_err-there.ensures.answered tells))

pub returns-clause-goes : goal.returns-clause-goes
returns-clause-goes g c =
    goes_shifted c.args.notes.now (queued_path c.args.notes.now c.args.name) (dead_path c.args.notes.now c.args.name) (λ there. next_try c.args.names)
    (λ there. by_presence there (line.Buried (task_of c.args.name) c.args.cause) (line.Late (task_of c.args.name)) ∷ []) c.in_ok-there.there _ c.next_try.ensures
    (ap (λ (id : TaskId). Ok (Said (by_presence c.in_ok-there.there (line.Buried id c.args.cause) (line.Late id)))) (sym c.task_of-id.ensures) ∙ ap (λ (l : Line). Ok (Said l)) (sym c.by_presence-line.ensures))

pub returns-clause-went : goal.returns-clause-went
returns-clause-went g c = λ tells.
    led_shifted c.args.notes.now (queued_path c.args.notes.now c.args.name) (dead_path c.args.notes.now c.args.name) (λ there. next_try c.args.names)
    (λ there. by_presence there (line.Buried (task_of c.args.name) c.args.cause) (line.Late (task_of c.args.name)) ∷ []) _ _ _ c.args.notes.now c.in_ok-there.there _ (c.in_ok-there.ensures.answered tells) c.next_try.ensures
    (ap (λ (id : TaskId). Ok (Said (by_presence c.in_ok-there.there (line.Buried id c.args.cause) (line.Late id)))) (sym c.task_of-id.ensures) ∙ ap (λ (l : Line). Ok (Said l)) (sym c.by_presence-line.ensures))
