use Rattle.ig_graph.specs.InjectionLaws.{fewer, as_many}
use Rattle.ig_graph.proofs.laws.fewer_by_injection.Goals as goal

pub returns-clause-fewer : goal.returns-clause-fewer
returns-clause-fewer c = fewer

pub returns-clause-same : goal.returns-clause-same
returns-clause-same c = as_many
