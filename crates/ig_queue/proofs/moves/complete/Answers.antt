use Rattle.std.proofs.Common.{refl, ap, ◌∙◌}
use Rattle.ig_defs.specs.QueueNames.{task_of}
use Rattle.ig_rule.specs.QueueFiles.{Done, Queued, path_of}
use Rattle.ig_queue.proofs.Moving.{not_closed, shifted, move_legal, task_fits_of}
use Rattle.ig_queue.proofs.moves.complete.Goals as goal

pub returns-in_err-from-clause-turn : goal.returns-in_err-from-clause-turn
returns-in_err-from-clause-turn g c = λ tells. not_closed _ _ _ _ c.from_residual.result c.from_residual.ensures.1

pub returns-in_err-to-clause-turn : goal.returns-in_err-to-clause-turn
returns-in_err-to-clause-turn g c = λ tells. not_closed _ _ _ _ c.from_residual-in_err-to.result c.from_residual-in_err-to.ensures.1

pub returns-in_err-shift-clause-legal : goal.returns-in_err-shift-clause-legal
returns-in_err-shift-clause-legal g c =
    λ tells read role keep may. move_legal _ read role c.args.queue.now _ _ (Queued c.args.name) (Done (task_of c.args.name)) c.in_ok-from.from c.in_ok-to.to c.shift.result
    c.requires.fits (task_fits_of c.args.name c.requires.fits) c.in_ok-from.ensures (c.in_ok-to.ensures ∙ ap (λ id. path_of c.args.queue.now (Done id)) c.task_of.ensures)
    (c.shift.ensures.turn tells) keep (λ others by. (refl, may others by))

pub returns-then-branch-clause-legal : goal.returns-then-branch-clause-legal
returns-then-branch-clause-legal g c =
    λ tells read role keep may. move_legal _ read role c.args.queue.now _ _ (Queued c.args.name) (Done (task_of c.args.name)) c.in_ok-from.from c.in_ok-to.to c.shift.result
    c.requires.fits (task_fits_of c.args.name c.requires.fits) c.in_ok-from.ensures (c.in_ok-to.ensures ∙ ap (λ id. path_of c.args.queue.now (Done id)) c.task_of.ensures)
    (c.shift.ensures.turn tells) keep (λ others by. (refl, may others by))

pub returns-clause-legal : goal.returns-clause-legal
returns-clause-legal g c =
    λ tells read role keep may. move_legal _ read role c.args.queue.now _ _ (Queued c.args.name) (Done (task_of c.args.name)) c.in_ok-from.from c.in_ok-to.to c.shift.result
    c.requires.fits (task_fits_of c.args.name c.requires.fits) c.in_ok-from.ensures (c.in_ok-to.ensures ∙ ap (λ id. path_of c.args.queue.now (Done id)) c.task_of.ensures)
    (c.shift.ensures.turn tells) keep (λ others by. (refl, may others by))

pub returns-then-branch-clause-turn : goal.returns-then-branch-clause-turn
returns-then-branch-clause-turn g c = λ tells.
    shifted _ _ _ _ _ _ _ _ _ c.in_ok-from.ensures (c.in_ok-to.ensures ∙ ap (λ id. path_of c.args.queue.now (Done id)) c.task_of.ensures) c.if-branch.true (c.in_ok-shift.ensures.turn tells)

pub returns-clause-turn : goal.returns-clause-turn
returns-clause-turn g c = λ tells.
    shifted _ _ _ _ _ _ _ _ _ c.in_ok-from.ensures (c.in_ok-to.ensures ∙ ap (λ id. path_of c.args.queue.now (Done id)) c.task_of.ensures) c.if-branch.false (c.in_ok-shift.ensures.turn tells)
