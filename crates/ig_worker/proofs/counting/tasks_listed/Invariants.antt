-- The tasks so far, and then those of the names that are left, are all.
use Rattle.std.proofs.Common.{◌≡◌, ◌++◌, drop}
use Rattle.ig_worker.specs.Stages.{tasks_listed}
use Rattle.ig_worker.proofs.counting.tasks_listed.Given as goal

abbrev pub invariant-loop-name : goal.invariant-loop-name
invariant-loop-name l = tasks_listed l.names ≡ l.ids ++ tasks_listed (drop l.name-index l.names)
