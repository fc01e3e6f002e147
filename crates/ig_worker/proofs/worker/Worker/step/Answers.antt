use Rattle.std.proofs.Common.{ap, subst, ◌∙◌}
use Rattle.ig_task.specs.Pipeline.{is_allowed}
use Rattle.ig_worker.specs.Fit.{IsFit}
use Rattle.ig_worker.specs.Places.{State, stands}
use Rattle.ig_worker.specs.Steps.{Stepped}
use Rattle.ig_worker.proofs.Keeping.{keeping}
use Rattle.ig_worker.proofs.worker.Worker.step.Goals as goal

pub returns-clause-steps : goal.returns-clause-steps
returns-clause-steps g c tells =
    subst (λ (s : State). Stepped (is_allowed (g.S.Store.rule c.args.store.now)) (g.C.Clock.last c.args.clock.now) (g.C.Clock.last c.advance-phase.new.clock) s
    (g.S.Store.log c.args.store.now) (g.S.Store.log c.advance-phase.new.store) (stands c.advance-phase.new.notes c.advance-phase.result.0) c.advance-phase.result.1)
    (ap (stands c.self.inside.notes) c.replace-phase.ensures.value ∙ c.self.view_is) (c.advance-phase.ensures.steps tells)

pub returns-clause-legal : goal.returns-clause-legal
returns-clause-legal g c tells is legal known =
    (keeping _ _ _ _ _ _ _ _ (subst IsFit c.self.view_is c.self.invariant) (returns-clause-steps g c tells) is legal known).legal

pub returns-clause-known : goal.returns-clause-known
returns-clause-known g c tells is legal known =
    (keeping _ _ _ _ _ _ _ _ (subst IsFit c.self.view_is c.self.invariant) (returns-clause-steps g c tells) is legal known).known
