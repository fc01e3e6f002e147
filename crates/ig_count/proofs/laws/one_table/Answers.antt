use Rattle.ig_count.proofs.TableLaws.{one-table}
use Rattle.ig_count.proofs.laws.one_table.Goals as goal

pub returns : goal.returns
returns c = one-table
