use Rattle.std.proofs.Common.{ap, ◌∙◌}
use Rattle.ig_meaning.specs.QueueMaking.{stage_named}
use Rattle.ig_worker.proofs.ListedStages.{named_found}
use Rattle.ig_worker.proofs.learning.stage_named.Goals as goal

pub returns-clause-stage : goal.returns-clause-stage
returns-clause-stage c =
    named_found c.as_str.result.now c.parse_stage_name.result c.parse_stage_name.ensures.some c.parse_stage_name.ensures.none ∙ ap stage_named c.as_str.ensures
