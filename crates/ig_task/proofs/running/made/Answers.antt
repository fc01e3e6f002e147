use Rattle.ig_task.proofs.TaskRuns.{makes_removals}
use Rattle.ig_task.proofs.running.made.Goals as goal

pub returns-in_ok-removals-in-Remove-clause-made : goal.returns-in_ok-removals-in-Remove-clause-made
returns-in_ok-removals-in-Remove-clause-made c = λ files holds.
    makes_removals c.args.stage.now c.in-Remove.is c.args.task files c.args.given.now c.in_ok-removals-in-Remove.field-0 holds c.requires.paths c.requires.found c.in_ok-removals-in-Remove.ensures
