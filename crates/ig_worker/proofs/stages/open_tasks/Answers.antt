use Rattle.std.proofs.Common.{sym}
use Rattle.ig_worker.proofs.NotedStages.{found_stage}
use Rattle.ig_worker.proofs.stages.open_tasks.Goals as goal

pub tasks-requires : goal.tasks-requires
tasks-requires c = (found_stage c.args.known.now c.args.number c.in-Some.stage.now c.requires.each (sym c.in-Some.ensures)).sound
