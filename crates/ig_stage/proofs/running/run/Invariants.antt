-- So far the first tasks were run.
use Rattle.std.proofs.Common.{◌≡◌, ◌≤◌}
use Rattle.ig_stage.specs.Pipeline.{local_rule}
use Rattle.ig_stage.specs.Running.{RunsSome}
use Rattle.ig_stage.proofs.running.run.Given as goal

abbrev pub invariant-loop-task : goal.invariant-loop-task
invariant-loop-task g l =
    (g.S.Store.rule l.store ≡ local_rule) × (g.S.Store.faults l.fn.store ≤ g.S.Store.faults l.store)
    × (g.S.Store.tells → RunsSome l.stage (g.S.Store.log l.fn.store) (g.S.Store.log l.store) l.task)
