-- So many of the tasks so far have no place.
use Rattle.std.proofs.Common.{◌≡◌, ◌≤◌, ℕ, List}
use Rattle.ig_worker.specs.Counting.{HasListed}
use Rattle.ig_worker.specs.Stages.{unlisted}
use Rattle.ig_worker.proofs.counting.unlisted.Given as goal

abbrev pub invariant-loop-task : goal.invariant-loop-task
invariant-loop-task l = ((given : List (List ℕ)) → HasListed given l.places → l.count ≡ unlisted given l.stage l.task) × (l.count ≤ l.task)
