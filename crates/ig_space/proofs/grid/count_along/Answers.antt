use Rattle.std.proofs.Common.{arith}
use Rattle.ig_space.proofs.Cells.{count_along-up}
use Rattle.ig_space.proofs.grid.count_along.Goals as goal

pub returns-else-lo-hi-clause-value : goal.returns-else-lo-hi-clause-value
returns-else-lo-hi-clause-value c =
    count_along-up c.args.lo c.args.hi c.args.step c.requires.step (omega (arith, c.requires.order, c.if-lo-hi.false))
