-- A task that the listing shows has its place among those so far, or a name that is left shows it.
use Rattle.std.proofs.Common.{◌≡◌, ◌||◌, drop, true}
use Rattle.std.specs.BTreeSet.{contains}
use Rattle.std.specs.Ordering.{nat_cmp}
use Rattle.ig_space.specs.declared.task_id.TaskId.{TaskId}
use Rattle.ig_defs.specs.QueueNames.{task_fits}
use Rattle.ig_worker.specs.Counting.{place_of}
use Rattle.ig_worker.specs.Stages.{is_listed}
use Rattle.ig_worker.proofs.counting.places_listed.Given as goal

abbrev pub invariant-loop-name : goal.invariant-loop-name
invariant-loop-name l =
    (id : TaskId) → task_fits id ≡ true → (contains nat_cmp l.places (place_of id) || is_listed (drop l.name-index l.names) id) ≡ is_listed l.names id
