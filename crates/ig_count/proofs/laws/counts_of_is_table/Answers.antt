use Rattle.ig_count.proofs.TablesOf.{counts-of}
use Rattle.ig_count.proofs.laws.counts_of_is_table.Goals as goal

pub returns : goal.returns
returns c = counts-of
