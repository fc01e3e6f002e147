use Rattle.std.proofs.Common.{ap, ◌∙◌}
use Rattle.ig_worker.specs.Stages.{with_stage}
use Rattle.ig_worker.proofs.NotedStages.{note_is}
use Rattle.ig_worker.proofs.records.Records.note.Goals as goal

pub returns-clause-ok : goal.returns-clause-ok
returns-clause-ok c =
    c.in_ok-insert.ensures.entries ∙ note_is c.self.inside.stages.entries c.args.number c.args.stage ∙ ap (with_stage c.args.number c.args.stage) c.self.view_is
