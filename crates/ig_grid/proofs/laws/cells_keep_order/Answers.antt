use Rattle.ig_grid.specs.AxisLaws.{above-first_plane}
use Rattle.ig_grid.specs.OrderLaws.{cells-keep_order}
use Rattle.ig_grid.proofs.laws.cells_keep_order.Goals as goal

pub returns-clause-order : goal.returns-clause-order
returns-clause-order c = cells-keep_order

pub returns-clause-above : goal.returns-clause-above
returns-clause-above c = above-first_plane
