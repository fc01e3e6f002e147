use Rattle.std.proofs.Common.{arith, subst}
use Rattle.ig_cseg.proofs.BlockWrites.{BlocksRight, all_right, blocks_right-next}
use Rattle.ig_cseg.proofs.unpack.unpack_blocks.Goals as goal

pub loop-number-preserved : goal.loop-number-preserved
loop-number-preserved g c =
    let clip = c.of-clip.result in
    let is = c.of-clip.ensures in
    blocks_right-next g.row.N c.args.bytes.now c.loop-number.labels c.unpack_block.new.labels c.loop-number.number clip.volume clip.block clip.lo clip.size c.args.size c.args.block
    is.volume is.block is.lo is.size c.loop-number.invariant c.unpack_block.auto.labels c.unpack_block.ensures.kept c.unpack_block.ensures.rows

pub returns : goal.returns
returns g c =
    all_right g.row.N c.args.size c.args.block c.args.bytes.now c.loop-number.labels c.requires.cut
    (subst (BlocksRight g.row.N c.args.size c.args.block c.args.bytes.now c.loop-number.labels) (omega (arith, c.loop-number-test.false, c.block_count-number-end.ensures.value)) c.loop-number.invariant)
