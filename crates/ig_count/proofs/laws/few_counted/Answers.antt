use Rattle.ig_count.proofs.TablesOf.{few-counted}
use Rattle.ig_count.proofs.laws.few_counted.Goals as goal

pub returns : goal.returns
returns c = few-counted
