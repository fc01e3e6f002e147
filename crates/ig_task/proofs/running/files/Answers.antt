use Rattle.std.proofs.Common.{arith, ◌≡◌, ◌≤◌, ◌^◌, None, Some, IfErr, Result, Err, List, ap, sym, subst, ◌∙◌}
use Rattle.std.proofs.lemmas.Result.{err_from_is_err_and}
use Rattle.ig_space.specs.declared.point.Box3.{Box3}
use Rattle.ig_space.specs.Chunks.{chunks_in}
use Rattle.ig_space.specs.Geometry.{count}
use Rattle.ig_space.specs.Grid.{size_of}
use Rattle.ig_layer.specs.Faults.{first_fault}
use Rattle.ig_layer.specs.Layer.{Reading, volume_at}
use Rattle.ig_layer.specs.Texts.{labels_in}
use Rattle.ig_record.specs.SoundStages.{IsSound-from}
use Rattle.ig_meaning.specs.Task.{task_refusal}
use Rattle.ig_meaning.specs.TaskBoxes.{task_box-few}
use Rattle.ig_cutout.specs.Inputs.{HoldsAll, Says}
use Rattle.ig_cutout.specs.declared.types.Output.{Output}
use Rattle.ig_task.specs.Answers.{RefusesTask}
use Rattle.ig_task.specs.KindFacts.{files-inputs}
use Rattle.ig_task.specs.Kinds.{files-of}
use Rattle.ig_task.specs.declared.error.RunError.{RunError}
use Rattle.ig_task.proofs.TaskRuns.{files-makes, refused-cut}
use Rattle.ig_task.proofs.running.files.Goals as goal

pub assemble-requires-clause-fits : goal.assemble-requires-clause-fits
assemble-requires-clause-fits c = (IsSound-from c.args.stage.now c.requires.sound).fits

pub assemble-requires-clause-short : goal.assemble-requires-clause-short
assemble-requires-clause-short c = let short = (IsSound-from c.args.stage.now c.requires.sound).layers.dir.short in omega (arith, short)

pub assemble-requires-clause-few : goal.assemble-requires-clause-few
assemble-requires-clause-few c =
    let s = c.args.stage.now in
    subst (λ (b : Box3). count (size_of b) ≤ 2 ^ 24) (sym c.task_box-area.ensures.value)
    (task_box-few s (IsSound-from s c.requires.sound) (files-of s c.requires.sound c.requires.makes).shape c.args.task c.requires.below)

pub assemble-requires-clause-paths : goal.assemble-requires-clause-paths
assemble-requires-clause-paths c =
    let s = c.args.stage.now in
    c.requires.paths ∙ files-inputs s (files-of s c.requires.sound c.requires.makes) c.args.task ∙ ap (chunks_in s.source) (sym c.task_box-area.ensures.value)

pub returns-in_err-volume-clause-refused : goal.returns-in_err-volume-clause-refused
returns-in_err-volume-clause-refused c =
    let s = c.args.stage.now in
    let p = err_from_is_err_and c.from_residual.result c.from_residual.ensures.1 in
    subst (λ (r : Result (List Output) RunError). IfErr r (λ (e : RunError). (files : Reading) → HoldsAll files c.args.given.now → RefusesTask e (task_refusal s c.args.task files)))
    (sym (p.1 ∙ ap Err p.2))
    (λ files holds.
    refused-cut s (files-of s c.requires.sound c.requires.makes) c.args.task files c.args.given.now c.in_err-volume.field-0.0 holds c.requires.paths c.requires.found
    (subst (λ (b : Box3). Says c.in_err-volume.field-0.0 (first_fault s.source b files)) c.task_box-area.ensures.value (c.in_err-volume.ensures.fault files holds)))

pub returns-clause-made : goal.returns-clause-made
returns-clause-made c = λ files holds.
    let s = c.args.stage.now in
    files-makes s (files-of s c.requires.sound c.requires.makes) c.args.task files c.args.given.now c.in_ok-volume.volume.labels c.in_ok-outputs.outputs holds c.requires.paths c.requires.found
    (subst (λ (b : Box3). first_fault s.source b files ≡ None) c.task_box-area.ensures.value (c.in_ok-volume.ensures.fault files holds))
    (subst (λ (b : Box3). labels_in (volume_at files s.source) b ≡ Some c.in_ok-volume.volume.labels) c.task_box-area.ensures.value (c.in_ok-volume.ensures.labels files holds))
    c.in_ok-outputs.ensures
