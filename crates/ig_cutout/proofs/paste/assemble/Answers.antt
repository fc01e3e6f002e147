use Rattle.std.proofs.Common.{length, Some, ap, sym, ◌∙◌, subst}
use Rattle.std.proofs.lemmas.List.{length-replicate}
use Rattle.ig_space.specs.Geometry.{count}
use Rattle.ig_space.specs.Raw.{AllFit}
use Rattle.ig_cutout.proofs.Assembling.{chunks-grid, labels_in-is, written-over}
use Rattle.ig_cutout.proofs.paste.assemble.Goals as goal

pub returns-in-Ok-clause-labels : goal.returns-in-Ok-clause-labels
returns-in-Ok-clause-labels c =
    let all = c.in-Ok.ensures.assembled in
    let same = written-over c.in_ok-volume.volume.labels c.paste_all.new.labels
    (all.long ∙ sym (ap length c.in_ok-volume.ensures.labels ∙ length-replicate _ _ ∙ ap count c.size_of.ensures)) in
    λ files holds.
    labels_in-is files c.args.place.now c.args.area c.args.inputs.now c.paste_all.new.labels (chunks-grid c.args.place.now.geometry c.requires.fits) c.requires.within c.requires.paths holds all
    ∙ ap Some (sym same)

pub returns-in-Ok-clause-fit : goal.returns-in-Ok-clause-fit
returns-in-Ok-clause-fit c =
    let all = c.in-Ok.ensures.assembled in
    let same = written-over c.in_ok-volume.volume.labels c.paste_all.new.labels
    (all.long ∙ sym (ap length c.in_ok-volume.ensures.labels ∙ length-replicate _ _ ∙ ap count c.size_of.ensures)) in
    subst (AllFit c.args.place.now.geometry.width) (sym same) all.fit
