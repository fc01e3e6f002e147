use Rattle.std.proofs.Common.{arith}
use Rattle.ig_cseg.proofs.RowWrites.{row_written, rows_right-more}
use Rattle.ig_cseg.proofs.unpack.unpack_block.Goals as goal

pub loop-row-preserved : goal.loop-row-preserved
loop-row-preserved g c =
    let s = c.args.clip.now in
    rows_right-more g.row.N s.volume s.block s.lo s.size c.args.bytes.now c.args.labels.now c.loop-row.labels _ c.loop-row.row c.loop-row.invariant
    (row_written g.row.N s.volume s.block s.lo s.size c.args.bytes.now c.args.header.block c.loop-row.row c.place-start.result c.position.result c.loop-row.labels c.write_row.new.row
    c.requires.clip c.requires.lo (omega (arith, c.loop-row-test.true, c.rows-row-end.ensures)) c.place-start.ensures.value c.position.ensures.value
    (omega (arith, c.place-start.ensures.within, c.loop-row.invariant.length, c.requires.room)) c.write_row.auto.row c.write_row.ensures)
