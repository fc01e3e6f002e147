-- Lists that hold the links and the first nodes of a tiling's parts.
use Rattle.std.specs.Prelude.{ℕ, ◌<◌, true, ◌≡◌, List, length, slice_index}
use Rattle.ig_grid.specs.Tiling.{Tiling, part_count, node, first_node}
use Rattle.ig_global.specs.declared.edges.Edge.{Edge}
use Rattle.ig_global.specs.EdgeGraph.{edge_at}

-- an edge between the numbers of two parts that are linked: part a of cell k, and part b of cell l
pub record IsLinkEdge (t : Tiling) (edge : Edge) (k a l b : ℕ) : Type 0 where
  pub own_below : k < t.cells
  pub other_below : l < t.cells
  pub link : t.has_link k a l b ≡ true
  pub own : edge.a ≡ node t k a
  pub other : edge.b ≡ node t l b

-- a linked pair of parts that an edge stands for
pub record StandsForLink (t : Tiling) (edge : Edge) : Type 0 where
  pub k : ℕ
  pub a : ℕ
  pub l : ℕ
  pub b : ℕ
  pub is : IsLinkEdge t edge k a l b

-- Each edge stands for a link, and each link has an edge.
pub record AreLinkEdges (t : Tiling) (edges : List Edge) : Type 0 where
  pub each : (i : ℕ) → i < length edges → StandsForLink t (edge_at edges i)
  pub all : (k a l b : ℕ) → k < t.cells → l < t.cells → t.has_link k a l b ≡ true
      → (i : ℕ) × (i < length edges) × IsLinkEdge t (edge_at edges i) k a l b

-- The first node of each part, in the order of the parts' numbers.
pub record AreFirstNodes (t : Tiling) (firsts : List ℕ) : Type 0 where
  pub size : length firsts ≡ part_count t
  pub each : (a : ℕ) → a < part_count t → slice_index firsts a ≡ first_node t a
