use Rattle.std.proofs.Common.{arith}
use Rattle.ig_cseg.proofs.BlockWords.{so_far-all}
use Rattle.ig_cseg.proofs.encoder.encode_blocks.Goals as goal

pub returns : goal.returns
returns g c =
    so_far-all c.args.size c.args.block g.row.N c.args.labels.now c.loop-number.text.items c.loop-number.number
    (omega (arith, c.loop-number-test.false, c.loop-number.auto.number-end, c.block_count-count.ensures.value)) c.loop-number.invariant
