use Rattle.std.proofs.Common.{arith, slice_index, ap, ◌∙◌}
use Rattle.ig_space.specs.Grid.{size_of}
use Rattle.ig_cutout.specs.Area.{common, layout_of}
use Rattle.ig_cutout.proofs.Pasting.{copied-laid}
use Rattle.ig_cutout.proofs.Places.{common-left, common-right, layout-order, layout-room}
use Rattle.ig_cutout.proofs.Moved.{laid-at, order-at, room-at}
use Rattle.ig_cutout.proofs.copy.copy_common.Goals as goal

pub copy_planes-requires-clause-source : goal.copy_planes-requires-clause-source
copy_planes-requires-clause-source c =
    let part = common c.args.chunk c.args.area in
    room-at 1 _ (layout_of c.args.chunk part) _ (size_of part) _ _
    (c.layout_of-from.ensures ∙ ap (layout_of c.args.chunk) c.common-part.ensures) (c.size_of.ensures ∙ ap size_of c.common-part.ensures)
    (omega (arith, c.requires.whole_source))
    (layout-room 1 c.args.chunk part (common-left c.args.chunk c.args.area c.requires.meets))

pub copy_planes-requires-clause-target : goal.copy_planes-requires-clause-target
copy_planes-requires-clause-target c =
    let part = common c.args.chunk c.args.area in
    room-at 1 _ (layout_of c.args.area part) _ (size_of part) _ _
    (c.layout_of-to.ensures ∙ ap (layout_of c.args.area) c.common-part.ensures) (c.size_of.ensures ∙ ap size_of c.common-part.ensures)
    (omega (arith, c.requires.whole))
    (layout-room 1 c.args.area part (common-right c.args.chunk c.args.area c.requires.meets))

pub copy_planes-requires-clause-order : goal.copy_planes-requires-clause-order
copy_planes-requires-clause-order c =
    let part = common c.args.chunk c.args.area in
    order-at _ (layout_of c.args.area part) _ (size_of part)
    (c.layout_of-to.ensures ∙ ap (layout_of c.args.area) c.common-part.ensures) (c.size_of.ensures ∙ ap size_of c.common-part.ensures)
    (layout-order c.args.area part (common-right c.args.chunk c.args.area c.requires.meets))

pub returns-clause-copied : goal.returns-clause-copied
returns-clause-copied c =
    let part = common c.args.chunk c.args.area in
    copied-laid (slice_index c.args.source.now) c.args.area c.args.chunk c.args.labels.now c.copy_planes.new.labels c.requires.meets
    (laid-at (slice_index c.args.source.now) _ (layout_of c.args.chunk part) _ (layout_of c.args.area part) _ (size_of part) c.args.labels.now c.copy_planes.new.labels
    (c.layout_of-from.ensures ∙ ap (layout_of c.args.chunk) c.common-part.ensures) (c.layout_of-to.ensures ∙ ap (layout_of c.args.area) c.common-part.ensures) (c.size_of.ensures ∙ ap size_of c.common-part.ensures)
    c.copy_planes.ensures.laid)
