use Rattle.std.proofs.Common.{arith}
use Rattle.ig_cseg.proofs.Axis.{blocks_along-up}
use Rattle.ig_cseg.proofs.blocks.blocks_along.Goals as goal

pub returns-else-side-eq0 : goal.returns-else-side-eq0
returns-else-side-eq0 c = blocks_along-up c.args.side c.args.block c.requires (omega arith)
