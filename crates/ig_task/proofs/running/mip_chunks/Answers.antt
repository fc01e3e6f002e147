use Rattle.std.proofs.Common.{arith, ◌≡◌, ◌+◌, ap, sym, subst, ◌∙◌}
use Rattle.ig_space.specs.declared.point.Box3.{Box3}
use Rattle.ig_space.specs.Grid.{IsWithin, chunks_of, hull, size_of, space_of}
use Rattle.ig_record.specs.SoundStages.{IsSound-from}
use Rattle.ig_task.specs.Answers.{AreOfMip}
use Rattle.ig_task.proofs.MipRuns.{if_made, item_at, mip-answer, scale_of, the_scale, written-fit, written-size, written-whole, written-within}
use Rattle.ig_task.proofs.running.mip_chunks.Goals as goal

pub overflow_add-place : goal.overflow_add-place
overflow_add-place c =
    let few = (IsSound-from c.args.stage.now c.requires.sound).layers.row.few in
    omega (arith, few, c.requires.scale)

pub cut_chunks-requires-clause-fits : goal.cut_chunks-requires-clause-fits
cut_chunks-requires-clause-fits c =
    let s = c.args.stage.now in
    let dest = c.index-as_slice-place.result in
    let at = item_at s.dests c.as_slice.result.now c.args.place dest c.as_slice.ensures c.requires.scale c.index-as_slice-place.is in
    (the_scale s c.requires.sound c.requires.mips (c.args.place + 1) dest (scale_of s c.args.place dest at)).scale.fits

pub cut_chunks-requires-clause-within : goal.cut_chunks-requires-clause-within
cut_chunks-requires-clause-within c =
    let s = c.args.stage.now in
    let dest = c.index-as_slice-place.result in
    let at = item_at s.dests c.as_slice.result.now c.args.place dest c.as_slice.ensures c.requires.scale c.index-as_slice-place.is in
    subst (λ (b : Box3). IsWithin b (space_of dest.geometry)) (sym c.box_written-area.ensures)
    (written-within s c.requires.sound c.requires.mips (c.args.place + 1) dest (scale_of s c.args.place dest at) c.args.task c.requires.below)

pub cut_chunks-requires-clause-short : goal.cut_chunks-requires-clause-short
cut_chunks-requires-clause-short c =
    let s = c.args.stage.now in
    let dest = c.index-as_slice-place.result in
    let at = item_at s.dests c.as_slice.result.now c.args.place dest c.as_slice.ensures c.requires.scale c.index-as_slice-place.is in
    let short = (the_scale s c.requires.sound c.requires.mips (c.args.place + 1) dest (scale_of s c.args.place dest at)).scale.dir.short in
    omega (arith, short)

pub cut_chunks-requires-clause-aligned : goal.cut_chunks-requires-clause-aligned
cut_chunks-requires-clause-aligned c =
    let s = c.args.stage.now in
    let dest = c.index-as_slice-place.result in
    let at = item_at s.dests c.as_slice.result.now c.args.place dest c.as_slice.ensures c.requires.scale c.index-as_slice-place.is in
    subst (λ (b : Box3). (hull (chunks_of dest.geometry) b).space ≡ b) (sym c.box_written-area.ensures)
    (written-whole s c.requires.sound c.requires.mips (c.args.place + 1) dest (scale_of s c.args.place dest at) c.args.task c.requires.below)

pub cut_chunks-requires-clause-size : goal.cut_chunks-requires-clause-size
cut_chunks-requires-clause-size c =
    let s = c.args.stage.now in
    let dest = c.index-as_slice-place.result in
    let at = item_at s.dests c.as_slice.result.now c.args.place dest c.as_slice.ensures c.requires.scale c.index-as_slice-place.is in
    written-size s c.requires.sound c.requires.mips (c.args.place + 1) dest (scale_of s c.args.place dest at) c.args.task c.requires.below c.args.volume.now c.args.mip.now c.requires.size c.requires.mip
    ∙ ap (λ (b : Box3). size_of b) (sym c.box_written-area.ensures)

pub cut_chunks-requires-clause-fit : goal.cut_chunks-requires-clause-fit
cut_chunks-requires-clause-fit c =
    let s = c.args.stage.now in
    let dest = c.index-as_slice-place.result in
    let at = item_at s.dests c.as_slice.result.now c.args.place dest c.as_slice.ensures c.requires.scale c.index-as_slice-place.is in
    written-fit s c.requires.sound c.requires.mips (c.args.place + 1) dest (scale_of s c.args.place dest at) c.args.volume.now c.args.mip.now c.requires.mip
    (record { length = c.labels-labels.ensures.length; bound = c.labels-labels.ensures.bound })
    (record { length = c.labels-halved.ensures.length; bound = c.labels-halved.ensures.bound }) c.requires.fit

pub returns : goal.returns
returns c =
    let s = c.args.stage.now in
    let dest = c.index-as_slice-place.result in
    let at = item_at s.dests c.as_slice.result.now c.args.place dest c.as_slice.ensures c.requires.scale c.index-as_slice-place.is in
    if_made c.cut_chunks.result _ (AreOfMip s c.args.task c.args.place c.args.volume.now.labels)
    (mip-answer s c.requires.sound c.requires.mips c.args.task c.requires.below c.args.place dest at c.args.volume.now c.args.mip.now c.requires.size c.requires.mip
    (record { length = c.labels-halved.ensures.length; bound = c.labels-halved.ensures.bound }) c.box_written-area.result c.box_written-area.ensures)
    c.cut_chunks.ensures
