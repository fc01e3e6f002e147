use Rattle.std.proofs.Common.{ap, inl, inr}
use Rattle.ig_record.specs.Sound.{has_come}
use Rattle.ig_task.proofs.TaskRuns.{not_come}
use Rattle.ig_task.proofs.running.made_of.Goals as goal

pub unreachable-requires : goal.unreachable-requires
unreachable-requires c = not_come c.args.stage.now c.requires.sound (elim c.in-Faces.is [ inl e ↦ ap has_come e | inr rest ↦ (elim rest [ inl e ↦ ap has_come e | inr e ↦ ap has_come e ]) ])

pub unreachable-requires-in-Relabel : goal.unreachable-requires-in-Relabel
unreachable-requires-in-Relabel c =
    elim c.in-Relabel.is [
      | inl e ↦ not_come c.args.stage.now c.requires.sound (ap has_come e)
      | inr more ↦ (elim more [ inl e ↦ not_come c.args.stage.now c.requires.sound (ap has_come e) | inr e ↦ c.requires.makes e ])
    ]
