-- The graph of nodes and the edges between them.
use Rattle.std.specs.Prelude.{ℕ, ◌<◌, Bool, true, ◌==◌, ◌&&◌, ◌||◌, List, length, slice_index_or}
use Rattle.std.specs.List.{list_any}
use Rattle.ig_graph.specs.Graph.{Graph}
use Rattle.ig_global.specs.declared.edges.Edge.{Edge}

-- the edge with this number
abbrev pub edge_at : List Edge → ℕ → Edge
edge_at edges i = slice_index_or edges i (record { a = 0; b = 0 })

-- some edge is from a to b
abbrev pub has_edge : List Edge → ℕ → ℕ → Bool
has_edge edges a b = list_any (λ (edge : Edge). (edge.a == a) && (edge.b == b)) edges

-- The numbers below `nodes`, each a neighbour of those that an edge leads to or from.
abbrev pub edge_graph : ℕ → List Edge → Graph
edge_graph nodes edges = record {
  size = nodes;
  is_node = λ a. true;
  adj = λ a b. has_edge edges a b || has_edge edges b a;
}

-- the ends of each edge are below the number of nodes
abbrev pub AreWithin : ℕ → List Edge → Type 0
AreWithin nodes edges = (i : ℕ) → i < length edges → ((edge_at edges i).a < nodes) × ((edge_at edges i).b < nodes)
