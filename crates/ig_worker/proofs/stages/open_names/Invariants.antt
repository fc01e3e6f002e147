-- The open names so far, and then those among the names that are left, are all; and the last answer is right.
use Rattle.std.proofs.Common.{◌≡◌, ◌++◌, drop, IfSome}
use Rattle.ig_worker.specs.Stages.{open_names, open_tasks}
use Rattle.ig_worker.proofs.stages.open_names.Given as goal

abbrev pub invariant-loop-name : goal.invariant-loop-name
invariant-loop-name l =
    (open_names l.known l.names ≡ l.open ++ open_names l.known (drop l.name-index l.names))
    × IfSome l.last (λ last. last.tasks ≡ open_tasks l.known last.stage)
