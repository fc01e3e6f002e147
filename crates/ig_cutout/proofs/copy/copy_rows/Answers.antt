use Rattle.std.proofs.Common.{arith, ◌+◌, ◌-◌, ◌≡◌, ◌≤◌, length, slice_index, sym, ◌∙◌}
use Rattle.ig_cutout.specs.Area.{one_plane}
use Rattle.ig_cutout.proofs.Laying.{fit-mid, fit-row, laid-all, laid-row}
use Rattle.ig_cutout.proofs.Rows.{length-part, row-room}
use Rattle.ig_cutout.proofs.copy.copy_rows.Goals as goal

pub row_at-first-requires : goal.row_at-first-requires
row_at-first-requires c =
    let h = row-room 1 c.args.from (one_plane c.args.size) _ c.loop-y.y c.requires.source (omega arith) c.loop-y-test.true in
    omega arith

pub row_at-begin-requires : goal.row_at-begin-requires
row_at-begin-requires c =
    let h = row-room 1 c.args.to (one_plane c.args.size) _ c.loop-y.y c.requires.target (omega arith) c.loop-y-test.true in
    omega arith

pub overflow_add-begin : goal.overflow_add-begin
overflow_add-begin c =
    let h = row-room 1 c.args.to (one_plane c.args.size) _ c.loop-y.y c.requires.target (omega arith) c.loop-y-test.true in
    omega arith

pub offset_bounds-labels-begin : goal.offset_bounds-labels-begin
offset_bounds-labels-begin c =
    let h = row-room 1 c.args.to (one_plane c.args.size) _ c.loop-y.y c.requires.target (omega arith) c.loop-y-test.true in
    omega arith

pub slice_bounds-copy_row-end : goal.slice_bounds-copy_row-end
slice_bounds-copy_row-end c =
    let h = row-room 1 c.args.to (one_plane c.args.size) _ c.loop-y.y c.requires.target (omega arith) c.loop-y-test.true in
    omega arith

pub copy_row-requires-clause-room : goal.copy_row-requires-clause-room
copy_row-requires-clause-room c =
    let h = row-room 1 c.args.from (one_plane c.args.size) _ c.loop-y.y c.requires.source (omega arith) c.loop-y-test.true in
    let k = row-room 1 c.args.to (one_plane c.args.size) _ c.loop-y.y c.requires.target (omega arith) c.loop-y-test.true in
    let long = length-part c.row_at-begin.result c.args.size.x c.loop-y.labels (omega arith) in
    let from = c.row_at-first.ensures in
    rw (long, from) (omega arith)

pub loop-y-preserved : goal.loop-y-preserved
loop-y-preserved c =
    let kept = c.loop-y.invariant in
    let source = c.args.source.now in
    let s = row-room 1 c.args.from (one_plane c.args.size) _ c.loop-y.y c.requires.source (omega arith) c.loop-y-test.true in
    let h = row-room 1 c.args.to (one_plane c.args.size) _ c.loop-y.y c.requires.target (omega arith) c.loop-y-test.true in
    let within : c.row_at-begin.result + c.args.size.x ≤ length c.loop-y.labels = omega arith in
    let same : c.row_at-begin.result + c.args.size.x - c.row_at-begin.result ≡ c.args.size.x = omega arith in
    let long = c.copy_row.ensures.length ∙ length-part c.row_at-begin.result c.args.size.x c.loop-y.labels within in
    let room : c.row_at-first.result + length c.copy_row.new.row ≤ length source = omega (arith, s, long, c.row_at-first.ensures) in (
      laid-row (slice_index source) c.args.from c.args.to c.args.size.x c.loop-y.y c.row_at-first.result c.row_at-begin.result _ c.args.labels.now c.loop-y.labels c.copy_row.new.row
          c.requires.order.rows same c.row_at-first.ensures c.row_at-begin.ensures kept.0 (record { long = long; within = within; each = c.copy_row.ensures.each }),
      λ width own fit.
          fit-mid width c.row_at-begin.result _ c.loop-y.labels c.copy_row.new.row (long ∙ sym same) (omega arith) (kept.1 width own fit)
          (fit-row width c.row_at-first.result source c.copy_row.new.row own room c.copy_row.ensures.each),
    )

pub returns-clause-laid : goal.returns-clause-laid
returns-clause-laid c =
    laid-all (slice_index c.args.source.now) c.args.from c.args.to c.args.size.x c.loop-y.y c.args.size.y c.args.labels.now c.loop-y.labels (omega arith) c.loop-y.invariant.0
