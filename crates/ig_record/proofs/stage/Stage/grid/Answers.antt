use Rattle.std.proofs.Common.{sym, subst}
use Rattle.ig_record.specs.SoundFacts.{HasSides}
use Rattle.ig_record.specs.SoundStages.{task-sides}
use Rattle.ig_record.proofs.stage.Stage.grid.Goals as goal

pub grid_of-requires-clause-sides : goal.grid_of-requires-clause-sides
grid_of-requires-clause-sides c = subst HasSides (sym c.task_size.ensures) (task-sides c.args.self.now.kind c.args.self.now c.requires.fits c.requires.sides)
