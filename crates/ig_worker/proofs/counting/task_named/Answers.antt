use Rattle.std.proofs.Common.{ap, subst, ◌∙◌}
use Rattle.ig_worker.specs.Counting.{Names}
use Rattle.ig_worker.specs.Stages.{task_named}
use Rattle.ig_worker.proofs.TaskNames.{named_found, tells_found}
use Rattle.ig_worker.proofs.counting.task_named.Goals as goal

pub returns-clause-named : goal.returns-clause-named
returns-clause-named c =
    named_found c.as_str.result.now c.parse_task_name.result c.parse_task_name.ensures.some c.parse_task_name.ensures.none ∙ ap task_named c.as_str.ensures

pub returns-clause-tells : goal.returns-clause-tells
returns-clause-tells c =
    subst (λ name. Names name c.parse_task_name.result) c.as_str.ensures (tells_found c.as_str.result.now c.parse_task_name.result c.parse_task_name.ensures.some c.parse_task_name.ensures.none)
