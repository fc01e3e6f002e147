use Rattle.ig_count.proofs.TableLaws.{one-merged}
use Rattle.ig_count.proofs.laws.one_merged.Goals as goal

pub returns : goal.returns
returns c = one-merged
