-- The sums so far, and those over the stages that are left, are the sums over all; the stages that are left still have room.
use Rattle.std.proofs.Common.{◌≡◌, ◌≤◌, ◌+◌, ◌*◌, ◌^◌, ℕ, List, length, All}
use Rattle.ig_worker.specs.Counting.{HasListed}
use Rattle.ig_worker.specs.Fit.{IsStage}
use Rattle.ig_worker.specs.Stages.{all_tasks, all_unlisted}
use Rattle.ig_worker.proofs.records.Records.tally.Given as goal

abbrev pub invariant-loop-number : goal.invariant-loop-number
invariant-loop-number l =
    (l.tally.tasks + all_tasks l.number-iterator ≡ all_tasks l.initial.number-iterator)
    × ((given : List (List ℕ)) → HasListed given l.places → l.tally.unlisted + all_unlisted given l.number-iterator ≡ all_unlisted given l.initial.number-iterator)
    × (l.tally.tasks + 10 ^ 6 * length l.number-iterator ≤ 10 ^ 10)
    × (l.tally.unlisted ≤ l.tally.tasks)
    × All IsStage l.number-iterator
