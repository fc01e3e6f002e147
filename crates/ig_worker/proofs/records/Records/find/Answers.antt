use Rattle.std.proofs.Common.{ap, ◌∙◌}
use Rattle.ig_worker.specs.Stages.{Known, stage_in}
use Rattle.ig_worker.proofs.NotedStages.{look_is}
use Rattle.ig_worker.proofs.records.Records.find.Goals as goal

pub returns : goal.returns
returns c = c.get.ensures.value ∙ look_is c.self.inside.stages.entries c.args.number ∙ ap (λ (known : Known). stage_in known c.args.number) c.self.view_is
