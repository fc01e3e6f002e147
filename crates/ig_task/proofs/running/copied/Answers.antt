use Rattle.std.proofs.Common.{arith, true, length, ◌≡◌, ◌≤◌, Some, map, option_map, sym, subst, ◌∙◌, ap}
use Rattle.ig_space.specs.declared.geometry.Width.{Width}
use Rattle.ig_space.specs.declared.place.Place.{Place}
use Rattle.ig_space.specs.declared.point.Box3.{Box3}
use Rattle.ig_space.specs.Geometry.{geometry_fits}
use Rattle.ig_space.specs.Grid.{IsWithin, chunks_of, hull, space_of}
use Rattle.ig_space.specs.Raw.{AllFit}
use Rattle.ig_layer.specs.Texts.{files_in, labels_in}
use Rattle.ig_cutout.specs.Outputs.{output_of}
use Rattle.ig_record.specs.SoundStages.{IsSound-from}
use Rattle.ig_record.specs.Stage.{task_box}
use Rattle.ig_task.specs.Copies.{copy-of}
use Rattle.ig_task.specs.OwnedPaths.{copy-owns}
use Rattle.ig_task.proofs.TaskRuns.{copy-made, dest_of}
use Rattle.ig_task.proofs.running.copied.Goals as goal

pub cut_chunks-requires-clause-fits : goal.cut_chunks-requires-clause-fits
cut_chunks-requires-clause-fits c =
    let copy = copy-of c.args.stage.now c.requires.sound c.requires.copies in
    subst (λ (p : Place). geometry_fits p.geometry ≡ true) (dest_of c.args.stage.now c.requires.sound c.requires.copies c.dest.result.now c.dest.ensures) copy.is_dest.fits

pub cut_chunks-requires-clause-within : goal.cut_chunks-requires-clause-within
cut_chunks-requires-clause-within c =
    let copy = copy-of c.args.stage.now c.requires.sound c.requires.copies in
    subst (λ (p : Place). IsWithin c.task_box.result (space_of p.geometry)) (dest_of c.args.stage.now c.requires.sound c.requires.copies c.dest.result.now c.dest.ensures)
    (subst (IsWithin c.task_box.result) (sym copy.is_dest.space) c.task_box.ensures.within)

pub cut_chunks-requires-clause-short : goal.cut_chunks-requires-clause-short
cut_chunks-requires-clause-short c =
    let copy = copy-of c.args.stage.now c.requires.sound c.requires.copies in
    let short = copy.is_dest.dir.short in
    subst (λ (p : Place). length p.dir ≤ 300) (dest_of c.args.stage.now c.requires.sound c.requires.copies c.dest.result.now c.dest.ensures) (omega (arith, short))

pub cut_chunks-requires-clause-aligned : goal.cut_chunks-requires-clause-aligned
cut_chunks-requires-clause-aligned c =
    let s = c.args.stage.now in
    let copy = copy-of s c.requires.sound c.requires.copies in
    subst (λ (b : Box3). (hull (chunks_of c.dest.result.now.geometry) b).space ≡ b) (sym c.task_box.ensures.value)
    (subst (λ (p : Place). (hull (chunks_of p.geometry) (task_box s c.args.task)).space ≡ task_box s c.args.task) (dest_of s c.requires.sound c.requires.copies c.dest.result.now c.dest.ensures)
    ((copy-owns s (IsSound-from s c.requires.sound) c.requires.copies copy).tiled.whole c.args.task c.requires.below))

pub cut_chunks-requires-clause-fit : goal.cut_chunks-requires-clause-fit
cut_chunks-requires-clause-fit c =
    let copy = copy-of c.args.stage.now c.requires.sound c.requires.copies in
    subst (λ (w : Width). AllFit w c.args.volume.now.labels)
    (sym copy.is_dest.width ∙ ap (λ (p : Place). p.geometry.width) (dest_of c.args.stage.now c.requires.sound c.requires.copies c.dest.result.now c.dest.ensures)) c.requires.fit

pub returns : goal.returns
returns c = λ volume are.
    let s = c.args.stage.now in
    copy-made s c.requires.sound c.requires.copies c.args.task c.requires.below c.dest.result.now c.dest.ensures volume c.in_ok-outputs.outputs
    (subst (λ (b : Box3). option_map (map output_of) (files_in c.dest.result.now volume b) ≡ Some c.in_ok-outputs.outputs) c.task_box.ensures.value
    (c.in_ok-outputs.ensures volume (ap (labels_in volume) c.task_box.ensures.value ∙ are)))
