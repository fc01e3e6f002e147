-- So far the first rows have their labels, and no right label was lost.
use Rattle.ig_cseg.proofs.RowWrites.{RowsRight}
use Rattle.ig_cseg.proofs.unpack.unpack_block.Given as goal

abbrev pub invariant-loop-row : goal.invariant-loop-row
invariant-loop-row g l = RowsRight g.row.N l.clip.volume l.clip.block l.clip.lo l.clip.size l.bytes l.fn.labels l.labels l.row
