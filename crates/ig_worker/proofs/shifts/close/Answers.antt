use Rattle.std.proofs.Common.{Ok, Err, true, false, ap, ◌∙◌}
use Rattle.ig_queue.specs.Moves.{close_made}
use Rattle.ig_queue.specs.declared.types.Closed.{Closed}
use Rattle.ig_worker.proofs.ShiftAnswers.{shift_answered}
use Rattle.ig_worker.proofs.shifts.close.Goals as goal

pub returns-in-Ok-Done-clause-answered : goal.returns-in-Ok-Done-clause-answered
returns-in-Ok-Done-clause-answered g c = λ tells.
    shift_answered _ _ _ _ _ (close_made c.complete.result) (Ok true) (ap close_made c.in-Ok-Done.is ∙ ap (λ (x : Closed). close_made (Ok x)) c.in-Ok-Done.field-0-is) (c.complete.ensures.turn tells)

pub returns-in-Ok-Late-clause-answered : goal.returns-in-Ok-Late-clause-answered
returns-in-Ok-Late-clause-answered g c = λ tells.
    shift_answered _ _ _ _ _ (close_made c.complete.result) (Ok false) (ap close_made c.in-Ok-Late.is ∙ ap (λ (x : Closed). close_made (Ok x)) c.in-Ok-Late.field-0-is) (c.complete.ensures.turn tells)

pub returns-in-Err-clause-answered : goal.returns-in-Err-clause-answered
returns-in-Err-clause-answered g c = λ tells.
    shift_answered _ _ _ _ _ (close_made c.complete.result) (Err c.in-Err.error) (ap close_made c.in-Err.is) (c.complete.ensures.turn tells)
