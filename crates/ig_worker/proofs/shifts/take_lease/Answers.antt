use Rattle.std.proofs.Common.{Ok, Err, true, false, ap, ◌∙◌}
use Rattle.ig_queue.specs.Moves.{lease_made}
use Rattle.ig_queue.specs.declared.types.Lease.{Lease}
use Rattle.ig_worker.proofs.ShiftAnswers.{shift_answered}
use Rattle.ig_worker.proofs.shifts.take_lease.Goals as goal

pub returns-in-Ok-Leased-clause-answered : goal.returns-in-Ok-Leased-clause-answered
returns-in-Ok-Leased-clause-answered g c = λ tells.
    shift_answered _ _ _ _ _ (lease_made c.lease.result) (Ok true) (ap lease_made c.in-Ok-Leased.is ∙ ap (λ (x : Lease). lease_made (Ok x)) c.in-Ok-Leased.field-0-is) (c.lease.ensures.turn tells)

pub returns-in-Ok-Gone-clause-answered : goal.returns-in-Ok-Gone-clause-answered
returns-in-Ok-Gone-clause-answered g c = λ tells.
    shift_answered _ _ _ _ _ (lease_made c.lease.result) (Ok false) (ap lease_made c.in-Ok-Gone.is ∙ ap (λ (x : Lease). lease_made (Ok x)) c.in-Ok-Gone.field-0-is) (c.lease.ensures.turn tells)

pub returns-in-Err-clause-answered : goal.returns-in-Err-clause-answered
returns-in-Err-clause-answered g c = λ tells.
    shift_answered _ _ _ _ _ (lease_made c.lease.result) (Err c.in-Err.error) (ap lease_made c.in-Err.is) (c.lease.ensures.turn tells)
