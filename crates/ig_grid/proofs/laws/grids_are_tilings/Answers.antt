use Rattle.ig_grid.specs.GridLaws.{grid-tiling}
use Rattle.ig_grid.specs.TilingLaws.{parts-numbered}
use Rattle.ig_grid.proofs.laws.grids_are_tilings.Goals as goal

pub returns-clause-grids : goal.returns-clause-grids
returns-clause-grids c = grid-tiling

pub returns-clause-numbered : goal.returns-clause-numbered
returns-clause-numbered c = parts-numbered
