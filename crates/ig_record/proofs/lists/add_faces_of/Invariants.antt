-- The paths so far, and then those of the boxes that are left, are all.
use Rattle.std.proofs.Common.{◌≡◌, ◌<◌, ◌^◌, ◌++◌, drop}
use Rattle.std.specs.List.{AllByRecursion}
use Rattle.ig_record.specs.Columns.{faces_of_all}
use Rattle.ig_record.proofs.lists.add_faces_of.Given as goal

abbrev pub invariant-loop-task : goal.invariant-loop-task
invariant-loop-task l = record {
  so_far : l.fn.paths ++ faces_of_all l.scratch l.tasks ≡ l.paths ++ faces_of_all l.scratch (drop l.task-index l.tasks);
  small : AllByRecursion (λ k. k < 10 ^ 6) (drop l.task-index l.tasks);
}
