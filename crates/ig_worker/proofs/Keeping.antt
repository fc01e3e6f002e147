-- What a step keeps, under the rule of a process that works on the queue.
use Rattle.std.specs.Prelude.{◌≡◌, ℕ, Some, Result}
use Rattle.std.proofs.Common.{subst}
use Rattle.ig_defs.specs.Log.{Log, files_of}
use Rattle.ig_rule.specs.Roles.{Allows}
use Rattle.ig_rule.specs.Sound.{Legal}
use Rattle.ig_task.specs.Facts.{stage_reader}
use Rattle.ig_task.specs.Pipeline.{is_allowed}
use Rattle.ig_task.specs.declared.pipeline.Pipeline.{Pipeline}
use Rattle.ig_worker.specs.declared.error.WorkerError.{WorkerError}
use Rattle.ig_worker.specs.declared.turn.Turn.{Turn}
use Rattle.ig_worker.specs.Fit.{IsFit}
use Rattle.ig_worker.specs.Keeping.Steps.{StepKeeps, step_keeps}
use Rattle.ig_worker.specs.Knows.{Knows}
use Rattle.ig_worker.specs.Places.{State}
use Rattle.ig_worker.specs.Steps.{Stepped}

pub keeping : (rule : Pipeline) (from to : ℕ) (s next : State) (old new : Log) (result : Result Turn WorkerError) → IsFit s → Stepped (is_allowed rule) from to s old new next result
    → rule.queue ≡ Some s.notes.plan.queue → Legal stage_reader s.notes.plan.queue old → Knows s (files_of old) → StepKeeps s next new result
keeping rule from to s next old new result fit stepped is legal known =
    step_keeps rule.role from to s old new fit legal known next result (subst (λ queue. Stepped (Allows stage_reader rule.role queue) from to s old new next result) is stepped)
