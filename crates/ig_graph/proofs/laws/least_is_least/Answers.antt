use Rattle.ig_graph.specs.LeastLaws.{least-joined, least-least}
use Rattle.ig_graph.proofs.laws.least_is_least.Goals as goal

pub returns-clause-joined : goal.returns-clause-joined
returns-clause-joined c = least-joined

pub returns-clause-least : goal.returns-clause-least
returns-clause-least c = least-least
