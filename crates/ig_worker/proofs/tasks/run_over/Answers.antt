use Rattle.std.proofs.Common.{subst, sym}
use Rattle.ig_meaning.specs.Inputs.{not_missing}
use Rattle.ig_meaning.specs.Task.{task_refusal}
use Rattle.ig_task.specs.Answers.{RefusesTask}
use Rattle.ig_task.specs.ReadPasses.{reads-passes}
use Rattle.ig_task.specs.Wanted.{AreOutputs}
use Rattle.ig_task.specs.declared.error.RunError.{RunError}
use Rattle.ig_worker.specs.FoundInputs.{found_at, holds_inputs}
use Rattle.ig_worker.proofs.Runs.{all-there}
use Rattle.ig_worker.proofs.tasks.run_over.Goals as goal

pub returns-in-Ok-clause-are : goal.returns-in-Ok-clause-are
returns-in-Ok-clause-are c =
    let holds = holds_inputs c.args.stage.now c.requires.sound c.args.task c.requires.below c.args.given c.requires.paths in
    subst (AreOutputs c.args.stage.now c.args.task) (sym c.in_ok-of-in-Ok.ensures)
    ((reads-passes c.args.stage.now c.requires.sound).makes c.args.task c.requires.below (found_at c.args.given) c.in-Ok.outputs (c.in-Ok.ensures.made (found_at c.args.given) holds))

pub unreachable-requires : goal.unreachable-requires
unreachable-requires c =
    let holds = holds_inputs c.args.stage.now c.requires.sound c.args.task c.requires.below c.args.given c.requires.paths in
    let refused = subst (λ (e : RunError). RefusesTask e (task_refusal c.args.stage.now c.args.task (found_at c.args.given))) c.in-Err-Missing.field-0-is (c.in-Err-Missing.ensures.refused (found_at c.args.given) holds) in
    not_missing c.args.stage.now c.args.task (found_at c.args.given)
    (all-there c.args.stage.now c.args.task (found_at c.args.given) c.args.given holds c.requires.found c.requires.paths) c.in-Err-Missing.field-0-0 refused
