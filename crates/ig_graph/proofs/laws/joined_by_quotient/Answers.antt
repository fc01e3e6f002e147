use Rattle.ig_graph.specs.QuotientLaws.{joined_by}
use Rattle.ig_graph.proofs.laws.joined_by_quotient.Goals as goal

pub returns : goal.returns
returns c = joined_by
