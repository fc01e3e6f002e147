use Rattle.ig_record.proofs.TaskCounts.{sound-fits, sound-sides}
use Rattle.ig_record.proofs.stage.Stage.task_box.Goals as goal

pub grid-requires-clause-fits : goal.grid-requires-clause-fits
grid-requires-clause-fits c = sound-fits c.args.self.now c.requires.sound

pub grid-requires-clause-sides : goal.grid-requires-clause-sides
grid-requires-clause-sides c = sound-sides c.args.self.now c.requires.sound
