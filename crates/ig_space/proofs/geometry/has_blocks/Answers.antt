use Rattle.std.proofs.Common.{arith}
use Rattle.ig_space.proofs.Sides.{short_side}
use Rattle.ig_space.proofs.geometry.has_blocks.Goals as goal

pub pad-requires-clause-side : goal.pad-requires-clause-side
pad-requires-clause-side c = omega (arith, short_side c.args.chunk c.requires)
