use Rattle.std.proofs.Common.{arith, ◌*◌, refl}
use Rattle.ig_space.specs.Geometry.{label_len}
use Rattle.ig_cutout.specs.Area.{one_plane}
use Rattle.ig_cutout.proofs.Gathering.{part-ends, rows-more}
use Rattle.ig_cutout.proofs.Rows.{row-room}
use Rattle.ig_cutout.proofs.write.write_rows.Goals as goal

pub row_at-from-requires : goal.row_at-from-requires
row_at-from-requires c =
    let h = row-room 1 c.args.source (one_plane c.args.size) _ c.loop-y.y c.requires.source (omega arith) c.loop-y-test.true in
    omega arith

pub write_row-requires-clause-within : goal.write_row-requires-clause-within
write_row-requires-clause-within c =
    let h = row-room 1 c.args.source (one_plane c.args.size) _ c.loop-y.y c.requires.source (omega arith) c.loop-y-test.true in
    omega arith

pub slice_bounds-write_row-end : goal.slice_bounds-write_row-end
slice_bounds-write_row-end c =
    let h = part-ends c.bytes_each.result (label_len c.args.width) c.args.size.x c.loop-y.y c.args.size.y _ c.bytes_each.ensures.value c.requires.room c.loop-y-test.true in
    omega arith

pub loop-y-preserved : goal.loop-y-preserved
loop-y-preserved c =
    rows-more c.args.width c.args.labels.now c.args.source c.args.size c.loop-y.y c.bytes_each.result (c.bytes_each.result * c.args.size.x * c.loop-y.y) _ c.row_at-from.result c.args.text.now c.loop-y.text c.write_row.new.text
    c.requires.source c.loop-y-test.true c.bytes_each.ensures.value refl (omega arith) c.row_at-from.ensures c.loop-y.invariant c.write_row.ensures
