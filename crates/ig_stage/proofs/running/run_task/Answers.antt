use Rattle.ig_stage.proofs.TaskRuns.{makes_files}
use Rattle.ig_stage.proofs.TaskSteps.{task_ran}
use Rattle.ig_stage.proofs.running.run_task.Goals as goal

pub returns-clause-ran : goal.returns-clause-ran
returns-clause-ran g c = λ tells.
    let s = c.args.stage.now in
    task_ran s c.args.task _ _ c.in_ok-paths.paths c.in_ok-outputs.outputs c.in_ok-paths.ensures (c.in_ok-given.ensures.did tells).0
    (makes_files s c.requires.can_run.makes c.args.task _ _ (c.in_ok-outputs.ensures.made _ (c.in_ok-given.ensures.did tells).1) (c.in_ok-outputs.ensures.wanted _ (c.in_ok-given.ensures.did tells).1)) _ c.put_outputs.result (c.put_outputs.ensures.did tells)
