use Rattle.ig_graph.specs.LeastLaws.{same_least}
use Rattle.ig_graph.proofs.laws.same_least_is_joined.Goals as goal

pub returns : goal.returns
returns c = same_least
