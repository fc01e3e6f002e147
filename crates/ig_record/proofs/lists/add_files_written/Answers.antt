use Rattle.ig_record.proofs.TaskCounts.{task_number}
use Rattle.ig_record.proofs.lists.add_files_written.Goals as goal

pub add_parts-requires-clause-small : goal.add_parts-requires-clause-small
add_parts-requires-clause-small c = task_number c.args.stage.now c.args.task c.requires.sound c.requires.below

pub add_numbered-requires-clause-small : goal.add_numbered-requires-clause-small
add_numbered-requires-clause-small c = task_number c.args.stage.now c.args.task c.requires.sound c.requires.below

pub add_numbered-requires-in-Count-clause-small : goal.add_numbered-requires-in-Count-clause-small
add_numbered-requires-in-Count-clause-small c = task_number c.args.stage.now c.args.task c.requires.sound c.requires.below
