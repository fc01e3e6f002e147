-- What a walk over the links and the numbers of its classes give are the parts of the whole.
use Rattle.std.proofs.Common.{ℕ, List, length, subst}
use Rattle.ig_graph.specs.Sets.{AreClasses}
use Rattle.ig_grid.specs.GridLaws.{grid-tiling}
use Rattle.ig_grid.specs.Links.{grid_tiling}
use Rattle.ig_global.specs.declared.edges.Edge.{Edge}
use Rattle.ig_global.specs.EdgeGraph.{edge_graph}
use Rattle.ig_global.specs.Laws.{ShowParts}
use Rattle.ig_global.specs.Numbers.{AreNumbers}
use Rattle.ig_global.proofs.LinkLaws.{number-part}

pub numbers-show : (firsts : List ℕ) (edges : List Edge) (classes numbers : List ℕ)
    → AreClasses (edge_graph (length firsts) edges) classes → AreNumbers classes firsts numbers → ShowParts firsts edges numbers
numbers-show firsts edges classes numbers classes_are numbers_are volume g grid firsts_are edges_are =
    number-part (grid_tiling volume g) (grid-tiling volume g grid) edges edges_are classes firsts numbers firsts_are
    (subst (λ (n : ℕ). AreClasses (edge_graph n edges) classes) firsts_are.size classes_are) numbers_are
