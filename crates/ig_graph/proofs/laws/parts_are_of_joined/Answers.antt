use Rattle.ig_graph.specs.LeastLaws.{same_part, no_part}
use Rattle.ig_graph.proofs.laws.parts_are_of_joined.Goals as goal

pub returns-clause-same : goal.returns-clause-same
returns-clause-same c = same_part

pub returns-clause-none : goal.returns-clause-none
returns-clause-none c = no_part
