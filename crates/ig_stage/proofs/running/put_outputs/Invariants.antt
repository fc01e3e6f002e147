-- So far the files of the first outputs were put.
use Rattle.std.proofs.Common.{◌≡◌, ◌≤◌}
use Rattle.ig_stage.specs.Pipeline.{local_rule}
use Rattle.ig_stage.specs.Running.{PutSoFar}
use Rattle.ig_stage.proofs.running.put_outputs.Given as goal

abbrev pub invariant-loop-output : goal.invariant-loop-output
invariant-loop-output g l =
    (g.S.Store.rule l.store ≡ local_rule) × (g.S.Store.faults l.fn.store ≤ g.S.Store.faults l.store)
    × (g.S.Store.tells → PutSoFar l.outputs l.output-index (g.S.Store.log l.fn.store) (g.S.Store.log l.store))
