use Rattle.ig_mode.specs.CellLaws.{cell-aligned, cell-halved, cells-as-many, grid-halved}
use Rattle.ig_mode.proofs.laws.cells_are_halved.Goals as goal

pub returns-clause-grid : goal.returns-clause-grid
returns-clause-grid c = grid-halved

pub returns-clause-count : goal.returns-clause-count
returns-clause-count c = cells-as-many

pub returns-clause-cell : goal.returns-clause-cell
returns-clause-cell c = cell-halved

pub returns-clause-aligned : goal.returns-clause-aligned
returns-clause-aligned c = cell-aligned
