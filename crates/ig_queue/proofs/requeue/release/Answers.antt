use Rattle.std.proofs.Common.{refl, ap, ◌∙◌}
use Rattle.ig_rule.specs.QueueFiles.{Queued, path_of}
use Rattle.ig_queue.specs.Requeued.{released_name}
use Rattle.ig_queue.proofs.Moving.{move_legal, released_fits}
use Rattle.ig_queue.proofs.requeue.release.Goals as goal

pub returns-clause-legal : goal.returns-clause-legal
returns-clause-legal g c =
    λ tells read role keep. move_legal _ read role c.args.queue.now _ _ (Queued c.args.name) (Queued (released_name c.args.name)) c.in_ok-from.from c.in_ok-to.to c.shift.result
    c.requires.fits (released_fits c.args.name c.requires.fits) c.in_ok-from.ensures (c.in_ok-to.ensures ∙ ap (λ name. path_of c.args.queue.now (Queued name)) c.released.ensures)
    (c.shift.ensures.turn tells) keep (λ others by. refl)
