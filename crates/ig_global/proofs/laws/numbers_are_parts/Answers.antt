use Rattle.ig_grid.specs.GridLaws.{grid-tiling}
use Rattle.ig_grid.specs.Links.{grid_tiling}
use Rattle.ig_global.proofs.LinkLaws.{edges-within, number-part, number-joined, number-first}
use Rattle.ig_global.proofs.ShownLaws.{numbers-show}
use Rattle.ig_global.proofs.laws.numbers_are_parts.Goals as goal

pub returns-clause-within : goal.returns-clause-within
returns-clause-within c volume g grid = edges-within (grid_tiling volume g) (grid-tiling volume g grid)

pub returns-clause-parts : goal.returns-clause-parts
returns-clause-parts c volume g grid edges classes firsts numbers are =
    number-part (grid_tiling volume g) (grid-tiling volume g grid) edges are.edges_are classes firsts numbers are.firsts_are are.classes_are are.numbers_are

pub returns-clause-same : goal.returns-clause-same
returns-clause-same c volume g grid edges classes firsts numbers are =
    number-joined (grid_tiling volume g) (grid-tiling volume g grid) edges are.edges_are classes firsts numbers are.firsts_are are.classes_are are.numbers_are

pub returns-clause-table : goal.returns-clause-table
returns-clause-table c volume g grid edges classes firsts numbers are =
    number-first (grid_tiling volume g) (grid-tiling volume g grid) edges are.edges_are classes firsts numbers are.firsts_are are.classes_are are.numbers_are

pub returns-clause-shown : goal.returns-clause-shown
returns-clause-shown c = numbers-show
