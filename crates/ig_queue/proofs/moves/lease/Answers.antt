use Rattle.std.proofs.Common.{refl, ap, ◌∙◌}
use Rattle.ig_rule.specs.QueueFiles.{Queued, path_of}
use Rattle.ig_queue.specs.Moves.{leased_name}
use Rattle.ig_queue.proofs.Moving.{not_leased, shifted, leased_fits, move_legal}
use Rattle.ig_queue.proofs.moves.lease.Goals as goal

pub returns-in_err-from-clause-turn : goal.returns-in_err-from-clause-turn
returns-in_err-from-clause-turn g c = λ tells. not_leased _ _ _ _ c.from_residual.result c.from_residual.ensures.1

pub returns-in_err-to-clause-turn : goal.returns-in_err-to-clause-turn
returns-in_err-to-clause-turn g c = λ tells. not_leased _ _ _ _ c.from_residual-in_err-to.result c.from_residual-in_err-to.ensures.1

pub returns-in_err-shift-clause-legal : goal.returns-in_err-shift-clause-legal
returns-in_err-shift-clause-legal g c =
    λ tells read role keep. move_legal _ read role c.args.queue.now _ _ (Queued c.args.name) (Queued (leased_name c.args.now c.args.seconds c.args.name))
    c.in_ok-from.from c.in_ok-to.to c.shift.result c.requires.fits (leased_fits c.args.now c.args.seconds c.args.name c.requires.fits c.requires.few)
    c.in_ok-from.ensures (c.in_ok-to.ensures ∙ ap (λ name. path_of c.args.queue.now (Queued name)) c.leased-given.ensures) (c.shift.ensures.turn tells) keep (λ others by. refl)

pub returns-then-branch-clause-legal : goal.returns-then-branch-clause-legal
returns-then-branch-clause-legal g c =
    λ tells read role keep. move_legal _ read role c.args.queue.now _ _ (Queued c.args.name) (Queued (leased_name c.args.now c.args.seconds c.args.name))
    c.in_ok-from.from c.in_ok-to.to c.shift.result c.requires.fits (leased_fits c.args.now c.args.seconds c.args.name c.requires.fits c.requires.few)
    c.in_ok-from.ensures (c.in_ok-to.ensures ∙ ap (λ name. path_of c.args.queue.now (Queued name)) c.leased-given.ensures) (c.shift.ensures.turn tells) keep (λ others by. refl)

pub returns-clause-legal : goal.returns-clause-legal
returns-clause-legal g c =
    λ tells read role keep. move_legal _ read role c.args.queue.now _ _ (Queued c.args.name) (Queued (leased_name c.args.now c.args.seconds c.args.name))
    c.in_ok-from.from c.in_ok-to.to c.shift.result c.requires.fits (leased_fits c.args.now c.args.seconds c.args.name c.requires.fits c.requires.few)
    c.in_ok-from.ensures (c.in_ok-to.ensures ∙ ap (λ name. path_of c.args.queue.now (Queued name)) c.leased-given.ensures) (c.shift.ensures.turn tells) keep (λ others by. refl)

pub returns-then-branch-clause-turn : goal.returns-then-branch-clause-turn
returns-then-branch-clause-turn g c = λ tells.
    shifted _ _ _ _ _ _ _ _ _ c.in_ok-from.ensures (c.in_ok-to.ensures ∙ ap (λ name. path_of c.args.queue.now (Queued name)) c.leased-given.ensures) c.if-branch.true (c.in_ok-shift.ensures.turn tells)

pub returns-clause-turn : goal.returns-clause-turn
returns-clause-turn g c = λ tells.
    shifted _ _ _ _ _ _ _ _ _ c.in_ok-from.ensures (c.in_ok-to.ensures ∙ ap (λ name. path_of c.args.queue.now (Queued name)) c.leased-given.ensures) c.if-branch.false (c.in_ok-shift.ensures.turn tells)
