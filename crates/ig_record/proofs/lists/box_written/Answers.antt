use Rattle.ig_record.proofs.TaskCounts.{sound-fits}
use Rattle.ig_record.proofs.lists.box_written.Goals as goal

pub halved_box-requires-clause-fits : goal.halved_box-requires-clause-fits
halved_box-requires-clause-fits c = sound-fits c.args.stage.now c.requires.sound
