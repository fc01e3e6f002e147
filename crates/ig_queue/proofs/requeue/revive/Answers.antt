use Rattle.std.proofs.Common.{refl, ap, ◌∙◌}
use Rattle.ig_rule.specs.QueueFiles.{Dead, Queued, path_of}
use Rattle.ig_rule.specs.Rule.{fresh_name}
use Rattle.ig_queue.proofs.Moving.{fresh_fits, move_legal}
use Rattle.ig_queue.proofs.requeue.revive.Goals as goal

pub returns-clause-legal : goal.returns-clause-legal
returns-clause-legal g c =
    λ tells read role keep. move_legal _ read role c.args.queue.now _ _ (Dead c.args.id) (Queued (fresh_name c.args.id)) c.in_ok-from.from c.in_ok-to.to c.shift.result
    c.requires.fits (fresh_fits c.args.id c.requires.fits) c.in_ok-from.ensures (c.in_ok-to.ensures ∙ ap (λ name. path_of c.args.queue.now (Queued name)) c.revived.ensures)
    (c.shift.ensures.turn tells) keep (λ others by. refl)
