use Rattle.ig_graph.specs.QuotientLaws.{joined_by}
use Rattle.ig_graph.specs.NumberLaws.{class_first, number_part}
use Rattle.ig_grid.specs.Links.{grid_tiling, whole_graph, links_graph, node_at, first_at}
use Rattle.ig_grid.specs.TilingLaws.{parts-quotient, parts-firsts, parts-numbered}
use Rattle.ig_grid.specs.GridLaws.{grid-tiling}
use Rattle.ig_grid.proofs.laws.links_show_parts.Goals as goal

pub returns-clause-joined : goal.returns-clause-joined
returns-clause-joined c volume g grid =
    joined_by (whole_graph volume g) (links_graph volume g) (node_at volume g) (parts-quotient (grid_tiling volume g) (grid-tiling volume g grid))

pub returns-clause-quotient : goal.returns-clause-quotient
returns-clause-quotient c volume g grid = parts-quotient (grid_tiling volume g) (grid-tiling volume g grid)

pub returns-clause-firsts : goal.returns-clause-firsts
returns-clause-firsts c volume g grid = parts-firsts (grid_tiling volume g) (grid-tiling volume g grid)

pub returns-clause-first : goal.returns-clause-first
returns-clause-first c volume g grid =
    class_first (whole_graph volume g) (links_graph volume g) (node_at volume g) (first_at volume g) (parts-numbered (grid_tiling volume g) (grid-tiling volume g grid))

pub returns-clause-number : goal.returns-clause-number
returns-clause-number c volume g grid =
    number_part (whole_graph volume g) (links_graph volume g) (node_at volume g) (first_at volume g) (parts-numbered (grid_tiling volume g) (grid-tiling volume g grid))
