-- So far the first blocks have their labels.
use Rattle.ig_cseg.proofs.BlockWrites.{BlocksRight}
use Rattle.ig_cseg.proofs.unpack.unpack_blocks.Given as goal

abbrev pub invariant-loop-number : goal.invariant-loop-number
invariant-loop-number g l = BlocksRight g.row.N l.size l.block l.bytes l.labels l.number
