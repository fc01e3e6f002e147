use Rattle.std.proofs.Common.{arith, ◌≤◌, ◌*◌, ◌^◌, ap, ◌∙◌}
use Rattle.ig_space.specs.Geometry.{count, label_len}
use Rattle.ig_space.specs.Grid.{size_of}
use Rattle.ig_cutout.specs.Area.{common, layout_of}
use Rattle.ig_cutout.specs.Laid.{number_in}
use Rattle.ig_cutout.proofs.Pasting.{copied-laid, pasted-raw}
use Rattle.ig_cutout.proofs.Places.{common-left, common-right, layout-order, layout-room}
use Rattle.ig_cutout.proofs.Moved.{few_bytes, laid-at, order-at, room-at}
use Rattle.ig_cutout.proofs.paste.paste_raw.Goals as goal

pub read_planes-requires-clause-source : goal.read_planes-requires-clause-source
read_planes-requires-clause-source c =
    let part = common c.args.chunk c.args.area in
    room-at (label_len c.args.geometry.now.width) _ (layout_of c.args.chunk part) _ (size_of part) _ _
    (c.layout_of-source.ensures ∙ ap (layout_of c.args.chunk) c.common-part.ensures) (c.size_of-2.ensures ∙ ap size_of c.common-part.ensures)
    (c.if-text-want.false ∙ ap (λ n. n * c.count.result) c.bytes_each.ensures.value ∙ ap (λ n. label_len c.args.geometry.now.width * n) (c.count.ensures ∙ ap count c.size_of.ensures))
    (layout-room (label_len c.args.geometry.now.width) c.args.chunk part (common-left c.args.chunk c.args.area c.requires.meets))

pub read_planes-requires-clause-target : goal.read_planes-requires-clause-target
read_planes-requires-clause-target c =
    let part = common c.args.chunk c.args.area in
    room-at 1 _ (layout_of c.args.area part) _ (size_of part) _ _
    (c.layout_of-target.ensures ∙ ap (layout_of c.args.area) c.common-part.ensures) (c.size_of-2.ensures ∙ ap size_of c.common-part.ensures)
    (omega (arith, c.requires.length))
    (layout-room 1 c.args.area part (common-right c.args.chunk c.args.area c.requires.meets))

pub read_planes-requires-clause-order : goal.read_planes-requires-clause-order
read_planes-requires-clause-order c =
    let part = common c.args.chunk c.args.area in
    order-at _ (layout_of c.args.area part) _ (size_of part)
    (c.layout_of-target.ensures ∙ ap (layout_of c.args.area) c.common-part.ensures) (c.size_of-2.ensures ∙ ap size_of c.common-part.ensures)
    (layout-order c.args.area part (common-right c.args.chunk c.args.area c.requires.meets))

pub read_planes-requires-clause-few_bytes : goal.read_planes-requires-clause-few_bytes
read_planes-requires-clause-few_bytes c =
    let voxels : c.count.result ≤ 2 ^ 24 = rw (c.count.ensures ∙ ap count c.size_of.ensures) c.requires.few_in_chunk in
    let h = few_bytes c.bytes_each.result c.count.result c.bytes_each.ensures.few voxels in
    omega (arith, c.if-text-want.false)

pub returns-clause-pasted : goal.returns-clause-pasted
returns-clause-pasted c =
    let part = common c.args.chunk c.args.area in
    pasted-raw c.args.geometry.now.encoding c.args.geometry.now.width c.args.area c.args.chunk c.args.text.now c.args.labels.now c.read_planes.new.labels c.requires.raw
    (copied-laid (number_in c.args.geometry.now.width c.args.text.now) c.args.area c.args.chunk c.args.labels.now c.read_planes.new.labels c.requires.meets
    (laid-at (number_in c.args.geometry.now.width c.args.text.now) _ (layout_of c.args.chunk part) _ (layout_of c.args.area part) _ (size_of part) c.args.labels.now c.read_planes.new.labels
    (c.layout_of-source.ensures ∙ ap (layout_of c.args.chunk) c.common-part.ensures) (c.layout_of-target.ensures ∙ ap (layout_of c.args.area) c.common-part.ensures) (c.size_of-2.ensures ∙ ap size_of c.common-part.ensures)
    c.read_planes.ensures.laid))
