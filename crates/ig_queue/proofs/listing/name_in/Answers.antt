use Rattle.std.proofs.Common.{ap, ◌∙◌}
use Rattle.ig_queue.specs.NamesRead.{name_in-found}
use Rattle.ig_queue.specs.Progress.{name_in}
use Rattle.ig_queue.proofs.listing.name_in.Goals as goal

pub returns-clause-name : goal.returns-clause-name
returns-clause-name c = name_in-found c.as_str.result.now c.parse_queue_name.result c.parse_queue_name.ensures.some c.parse_queue_name.ensures.none ∙ ap name_in c.as_str.ensures
