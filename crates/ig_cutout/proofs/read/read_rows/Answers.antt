use Rattle.std.proofs.Common.{arith, ◌+◌, ◌*◌, ◌-◌, ◌≡◌, ◌≤◌, length, sym, ◌∙◌}
use Rattle.ig_space.specs.Geometry.{label_len}
use Rattle.ig_cutout.specs.Area.{one_plane}
use Rattle.ig_cutout.specs.Laid.{number_in}
use Rattle.ig_cutout.proofs.Laying.{fit-mid, laid-all, laid-row}
use Rattle.ig_cutout.proofs.Rows.{label_len-some, length-part, row-room, less-room}
use Rattle.ig_cutout.proofs.read.read_rows.Goals as goal

pub row_at-from-requires : goal.row_at-from-requires
row_at-from-requires c =
    let h = row-room (label_len c.args.width) c.args.source (one_plane c.args.size) _ c.loop-y.y c.requires.source (omega arith) c.loop-y-test.true in
    let k = less-room (label_len c.args.width) (c.args.source.start + c.args.source.row * c.loop-y.y + c.args.size.x) _ (label_len-some c.args.width) h in
    omega arith

pub row_at-to-requires : goal.row_at-to-requires
row_at-to-requires c =
    let h = row-room 1 c.args.target (one_plane c.args.size) _ c.loop-y.y c.requires.target (omega arith) c.loop-y-test.true in
    omega arith

pub overflow_add-to : goal.overflow_add-to
overflow_add-to c =
    let h = row-room 1 c.args.target (one_plane c.args.size) _ c.loop-y.y c.requires.target (omega arith) c.loop-y-test.true in
    omega arith

pub offset_bounds-labels-to : goal.offset_bounds-labels-to
offset_bounds-labels-to c =
    let h = row-room 1 c.args.target (one_plane c.args.size) _ c.loop-y.y c.requires.target (omega arith) c.loop-y-test.true in
    omega arith

pub slice_bounds-read_row-end : goal.slice_bounds-read_row-end
slice_bounds-read_row-end c =
    let h = row-room 1 c.args.target (one_plane c.args.size) _ c.loop-y.y c.requires.target (omega arith) c.loop-y-test.true in
    omega arith

pub read_row-requires : goal.read_row-requires
read_row-requires c =
    let h = row-room (label_len c.args.width) c.args.source (one_plane c.args.size) _ c.loop-y.y c.requires.source (omega arith) c.loop-y-test.true in
    let k = row-room 1 c.args.target (one_plane c.args.size) _ c.loop-y.y c.requires.target (omega arith) c.loop-y-test.true in
    let long = length-part c.row_at-to.result c.args.size.x c.loop-y.labels (omega arith) in
    let from = c.row_at-from.ensures in
    record { room = rw (long, from) h }

pub loop-y-preserved : goal.loop-y-preserved
loop-y-preserved c =
    let kept = c.loop-y.invariant in
    let h = row-room 1 c.args.target (one_plane c.args.size) _ c.loop-y.y c.requires.target (omega arith) c.loop-y-test.true in
    let within : c.row_at-to.result + c.args.size.x ≤ length c.loop-y.labels = omega arith in
    let same : c.row_at-to.result + c.args.size.x - c.row_at-to.result ≡ c.args.size.x = omega arith in
    let long = c.read_row.ensures.length ∙ length-part c.row_at-to.result c.args.size.x c.loop-y.labels within in (
      laid-row (number_in c.args.width c.args.text.now) c.args.source c.args.target c.args.size.x c.loop-y.y c.row_at-from.result c.row_at-to.result _ c.args.labels.now c.loop-y.labels c.read_row.new.row
          c.requires.order.rows same c.row_at-from.ensures c.row_at-to.ensures kept.0 (record { long = long; within = within; each = c.read_row.ensures.each }),
      λ fit. fit-mid c.args.width c.row_at-to.result _ c.loop-y.labels c.read_row.new.row (long ∙ sym same) (omega arith) (kept.1 fit) c.read_row.ensures.fit,
    )

pub returns-clause-laid : goal.returns-clause-laid
returns-clause-laid c =
    laid-all (number_in c.args.width c.args.text.now) c.args.source c.args.target c.args.size.x c.loop-y.y c.args.size.y c.args.labels.now c.loop-y.labels (omega arith) c.loop-y.invariant.0
