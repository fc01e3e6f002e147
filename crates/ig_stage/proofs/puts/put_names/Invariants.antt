-- So far the names of the first tasks whose flags are not set were put.
use Rattle.std.proofs.Common.{◌≡◌, ◌≤◌}
use Rattle.ig_task.specs.Pipeline.{is_allowed}
use Rattle.ig_stage.specs.Open.{Does, Makes}
use Rattle.ig_stage.specs.Shown.{name_puts, unset}
use Rattle.ig_stage.proofs.NamesPut.{NamedSoFar}
use Rattle.ig_stage.proofs.puts.put_names.Given as goal

abbrev pub invariant-loop-task : goal.invariant-loop-task
invariant-loop-task g l =
    (g.S.Store.rule l.store ≡ g.S.Store.rule l.fn.store) × (g.S.Store.faults l.fn.store ≤ g.S.Store.faults l.store)
    × (g.S.Store.tells → Does (is_allowed (g.S.Store.rule l.fn.store)) (g.S.Store.log l.fn.store) (g.S.Store.log l.store) (name_puts l.queue l.number l.stage (unset l.shown l.task)))
    × (g.S.Store.tells → Makes (g.S.Store.rule l.fn.store) l.queue l.number l.stage (g.S.Store.log l.fn.store)
    → NamedSoFar l.queue l.number l.stage l.shown l.task (g.S.Store.log l.fn.store) (g.S.Store.log l.store))
