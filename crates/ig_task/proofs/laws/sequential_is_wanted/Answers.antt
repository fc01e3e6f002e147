use Rattle.ig_task.specs.Runs.{sequential-is_wanted}
use Rattle.ig_task.proofs.laws.sequential_is_wanted.Goals as goal

pub returns : goal.returns
returns c = sequential-is_wanted
