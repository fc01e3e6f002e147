-- The removals so far, and then those of the paths that are left, are all.
use Rattle.std.proofs.Common.{◌≡◌, ◌++◌, drop, map}
use Rattle.ig_meaning.specs.Wants.{removal_of}
use Rattle.ig_task.proofs.running.removals.Given as goal

abbrev pub invariant-loop-path : goal.invariant-loop-path
invariant-loop-path l = map removal_of l.path-items ≡ l.outputs ++ map removal_of (drop l.path-index l.path-items)
