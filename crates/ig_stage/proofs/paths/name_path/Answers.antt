use Rattle.ig_queue.specs.FilesAt.{fresh_fit}
use Rattle.ig_stage.proofs.paths.name_path.Goals as goal

pub queued_path-requires-clause-fits : goal.queued_path-requires-clause-fits
queued_path-requires-clause-fits c = fresh_fit c.args.number c.args.task c.requires.few c.requires.below
