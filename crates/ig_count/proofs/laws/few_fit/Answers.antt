use Rattle.ig_count.proofs.TableLaws.{few-fit}
use Rattle.ig_count.proofs.laws.few_fit.Goals as goal

pub returns : goal.returns
returns c = few-fit
