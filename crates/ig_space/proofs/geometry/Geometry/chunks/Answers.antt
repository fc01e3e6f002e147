use Rattle.std.proofs.Common.{arith}
use Rattle.ig_space.specs.Geometry.{Fits-from}
use Rattle.ig_space.specs.CellBoxes.{chunks-IsGrid}
use Rattle.ig_space.proofs.geometry.Geometry.chunks.Goals as goal

pub overflow_add-hi : goal.overflow_add-hi
overflow_add-hi c = omega (arith, Fits-from c.args.self.now c.requires)

pub overflow_add-hi-2 : goal.overflow_add-hi-2
overflow_add-hi-2 c = omega (arith, Fits-from c.args.self.now c.requires)

pub overflow_add-hi-3 : goal.overflow_add-hi-3
overflow_add-hi-3 c = omega (arith, Fits-from c.args.self.now c.requires)

pub returns-clause-grid : goal.returns-clause-grid
returns-clause-grid c = chunks-IsGrid c.args.self.now c.requires
