use Rattle.ig_task.specs.Kinds.{kinds}
use Rattle.ig_task.proofs.laws.kinds_keep_their_laws.Goals as goal

pub returns : goal.returns
returns c = kinds
