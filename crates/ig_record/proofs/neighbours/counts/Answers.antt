use Rattle.ig_space.specs.Geometry.{Fits-from}
use Rattle.ig_record.proofs.TaskCounts.{sound-fits, sound-sides}
use Rattle.ig_record.proofs.neighbours.counts.Goals as goal

pub grid-requires-clause-fits : goal.grid-requires-clause-fits
grid-requires-clause-fits c = sound-fits c.args.stage.now c.requires

pub grid-requires-clause-sides : goal.grid-requires-clause-sides
grid-requires-clause-sides c = sound-sides c.args.stage.now c.requires

pub count_along-requires-clause-some : goal.count_along-requires-clause-some
count_along-requires-clause-some c = (Fits-from c.args.stage.now.source.geometry (sound-fits c.args.stage.now c.requires)).x_some

pub count_along-requires-2-clause-some : goal.count_along-requires-2-clause-some
count_along-requires-2-clause-some c = (Fits-from c.args.stage.now.source.geometry (sound-fits c.args.stage.now c.requires)).y_some

pub count_along-requires-3-clause-some : goal.count_along-requires-3-clause-some
count_along-requires-3-clause-some c = (Fits-from c.args.stage.now.source.geometry (sound-fits c.args.stage.now c.requires)).z_some
