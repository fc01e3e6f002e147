use Rattle.std.proofs.Common.{arith, ◌<◌, ◌≤◌, ◌+◌, ◌*◌, ◌∙◌, sym, subst, ap, length}
use Rattle.ig_cseg.specs.Blocks.{row_count}
use Rattle.std.specs.List.Sorted.{IsStrictlyIncreasing}
use Rattle.ig_cseg.specs.CsegText.{index_in}
use Rattle.ig_cseg.proofs.IndexRows.{all-indexed, part-contained, part-label, row-indexed, row_room, table-few}
use Rattle.ig_cseg.proofs.Rising.{distinct-increasing}
use Rattle.ig_cseg.proofs.RowWrites.{part_length}
use Rattle.ig_cseg.proofs.Spans.{position_in_block}
use Rattle.ig_cseg.proofs.indexing.write_indices.Goals as goal

pub overflow_mul-from : goal.overflow_mul-from
overflow_mul-from c =
    let s = c.args.clip.now in
    let room = row_room s.size c.loop-row.row (length c.args.labels.now) (omega (arith, c.loop-row-test.true, c.rows-row-end.ensures)) c.requires.labels in
    omega (arith, room)

pub slice_bounds-write_row-end : goal.slice_bounds-write_row-end
slice_bounds-write_row-end c =
    let s = c.args.clip.now in
    let room = row_room s.size c.loop-row.row (length c.args.labels.now) (omega (arith, c.loop-row-test.true, c.rows-row-end.ensures)) c.requires.labels in
    omega (arith, room)

pub slice_bounds-write_row-end-in-loop-row : goal.slice_bounds-write_row-end-in-loop-row
slice_bounds-write_row-end-in-loop-row c =
    let s = c.args.clip.now in
    let within = position_in_block s.volume s.block s.lo s.size c.loop-row.row c.requires.clip (omega (arith, c.loop-row-test.true, c.rows-row-end.ensures)) in
    omega (arith, within, c.position-to.ensures.value, c.requires.room, c.loop-row.invariant.length)

pub write_row-requires-clause-rises : goal.write_row-requires-clause-rises
write_row-requires-clause-rises c = subst IsStrictlyIncreasing (sym c.requires.table) (distinct-increasing c.args.labels.now)

pub write_row-requires-clause-has : goal.write_row-requires-clause-has
write_row-requires-clause-has c =
    let s = c.args.clip.now in
    let room = row_room s.size c.loop-row.row (length c.args.labels.now) (omega (arith, c.loop-row-test.true, c.rows-row-end.ensures)) c.requires.labels in
    λ k l. part-contained (c.loop-row.row * s.size.x) s.size.x k c.args.table.now c.args.labels.now c.requires.table room l

pub write_row-requires-clause-few : goal.write_row-requires-clause-few
write_row-requires-clause-few c =
    let s = c.args.clip.now in
    omega (arith, table-few s.volume s.block s.lo s.size c.args.labels.now c.requires.clip c.requires.labels, ap length c.requires.table)

pub loop-row-preserved : goal.loop-row-preserved
loop-row-preserved c =
    let s = c.args.clip.now in
    let to = c.position-to.result in
    let below : c.loop-row.row < row_count s.size = omega (arith, c.loop-row-test.true, c.rows-row-end.ensures) in
    let within = position_in_block s.volume s.block s.lo s.size c.loop-row.row c.requires.clip below in
    let room : to + s.size.x ≤ length c.loop-row.indices = omega (arith, within, c.position-to.ensures.value, c.requires.room, c.loop-row.invariant.length) in
    let long = part_length to s.size.x c.loop-row.indices room in
    row-indexed s.volume s.block s.lo s.size c.args.labels.now c.args.table.now c.args.indices.now c.loop-row.indices c.write_row.new.row c.loop-row.row to
    c.requires.clip below c.position-to.ensures.value c.loop-row.invariant room (c.write_row.auto.row ∙ long)
    (λ k l. c.write_row.ensures k (omega (arith, l, long)) ∙ ap (index_in c.args.table.now) (part-label (c.loop-row.row * s.size.x) s.size.x k c.args.labels.now l))

pub returns : goal.returns
returns c =
    let s = c.args.clip.now in
    all-indexed s.block s.size c.args.labels.now c.args.table.now c.args.indices.now c.loop-row.indices c.loop-row.row c.loop-row.invariant
    (omega (arith, c.loop-row-test.false, c.loop-row.auto.row-end, c.rows-row-end.ensures)) c.requires.zero
