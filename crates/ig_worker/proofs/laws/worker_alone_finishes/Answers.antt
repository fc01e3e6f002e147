use Rattle.ig_worker.specs.Finishing.Alone.{alone_finishes}
use Rattle.ig_worker.proofs.laws.worker_alone_finishes.Goals as goal

pub returns : goal.returns
returns c = alone_finishes
