-- Sets once the ends of edges were put together.
use Rattle.std.specs.Prelude.{ℕ, List, fold}
use Rattle.ig_graph.specs.Sets.{united}
use Rattle.ig_global.specs.declared.edges.Edge.{Edge}

-- the sets once those of the ends of each edge are put together
abbrev pub all_united : List ℕ → List Edge → List ℕ
all_united sets edges = fold (λ (old : List ℕ) (edge : Edge). united old edge.a edge.b) sets edges
