-- So far the worker went along, and didn't end; where the log was legal at first, it is, and what the worker keeps is so.
use Rattle.std.proofs.Common.{◌≡◌, ◌≤◌, false}
use Rattle.ig_rule.specs.Sound.{Legal}
use Rattle.ig_task.specs.Facts.{stage_reader}
use Rattle.ig_task.specs.Pipeline.{is_allowed}
use Rattle.ig_worker.specs.Left.{is_over, left_of}
use Rattle.ig_cli.proofs.WorkerLegal.{KeepsLegal}
use Rattle.ig_cli.proofs.WorkerRuns.{Along}
use Rattle.ig_cli.proofs.working.run.Given as goal

abbrev pub invariant-loop-worker : goal.invariant-loop-worker
invariant-loop-worker g l =
    (g.S.Store.rule l.store ≡ g.S.Store.rule l.fn.store) × (g.S.Store.faults l.fn.store ≤ g.S.Store.faults l.store) × (g.O.Sink.faults l.fn.out ≤ g.O.Sink.faults l.out)
    × (g.C.Clock.last l.fn.clock ≤ g.C.Clock.last l.clock) × (l.worker.notes.at ≤ g.C.Clock.last l.clock) × (is_over l.worker.phase ≡ false) × (l.worker.notes.plan ≡ l.fn.plan)
    × (g.S.Store.tells → Along (is_allowed (g.S.Store.rule l.fn.store)) l.fn.plan (g.C.Clock.last l.fn.clock) (g.C.Clock.last l.clock) (g.S.Store.log l.fn.store) (g.S.Store.log l.store) l.worker
    g.O.Sink.tells (g.O.Sink.taken l.fn.out) (g.O.Sink.taken l.out))
    × (g.S.Store.tells → Legal stage_reader l.fn.plan.queue (g.S.Store.log l.fn.store) → KeepsLegal l.fn.plan.queue (g.S.Store.log l.store) l.worker)

abbrev pub decreases-loop-worker : goal.decreases-loop-worker
decreases-loop-worker g l = left_of l.worker
