use Rattle.std.proofs.Common.{arith, ap}
use Rattle.ig_space.specs.Geometry.{count}
use Rattle.ig_cseg.proofs.Cuts.{blocks_few}
use Rattle.ig_cseg.proofs.blocks.block_count.Goals as goal

pub overflow_mul-result-2 : goal.overflow_mul-result-2
overflow_mul-result-2 c = omega (arith, ap count c.block_grid-grid.ensures, blocks_few c.args.size c.args.block c.requires)

pub returns-clause-few : goal.returns-clause-few
returns-clause-few c = omega (arith, ap count c.block_grid-grid.ensures, blocks_few c.args.size c.args.block c.requires)
