use Rattle.std.proofs.Common.{ap, ◌∙◌}
use Rattle.ig_queue.specs.NamesRead.{task_in-found}
use Rattle.ig_queue.specs.TaskNames.{task_in}
use Rattle.ig_queue.proofs.listing.task_in.Goals as goal

pub returns-clause-task : goal.returns-clause-task
returns-clause-task c = task_in-found c.as_str.result.now c.parse_task_name.result c.parse_task_name.ensures.some c.parse_task_name.ensures.none ∙ ap task_in c.as_str.ensures
