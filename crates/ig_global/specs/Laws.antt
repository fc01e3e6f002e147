-- The laws of the parts of a whole volume, for every volume and every task grid.
use Rattle.std.specs.Prelude.{ℕ, ◌<◌, true, ◌≡◌, ◌↔◌, List, length, slice_index}
use Rattle.ig_space.specs.declared.geometry.Grid.{Grid}
use Rattle.ig_space.specs.Grid.{IsGrid}
use Rattle.ig_graph.specs.Graph.{is_in, Joined, part_of}
use Rattle.ig_graph.specs.Sets.{AreClasses}
use Rattle.ig_grid.specs.Tiling.{part_count}
use Rattle.ig_grid.specs.Links.{grid_tiling, whole_graph, links_graph, node_at, first_at}
use Rattle.ig_global.specs.declared.edges.Edge.{Edge}
use Rattle.ig_global.specs.EdgeGraph.{edge_graph, AreWithin}
use Rattle.ig_global.specs.LinkEdges.{AreLinkEdges, AreFirstNodes}
use Rattle.ig_global.specs.Numbers.{AreNumbers}

-- Lists as they are made of all tasks' links and parts: `classes` is what a walk over the edges gives, `numbers` what is made
-- of these and of the first voxels.
pub record AreLists (volume : ℕ → ℕ → ℕ → ℕ) (g : Grid) (edges : List Edge) (classes firsts numbers : List ℕ) : Type 0 where
  pub edges_are : AreLinkEdges (grid_tiling volume g) edges
  pub firsts_are : AreFirstNodes (grid_tiling volume g) firsts
  pub classes_are : AreClasses (edge_graph (part_count (grid_tiling volume g)) edges) classes
  pub numbers_are : AreNumbers classes firsts numbers

-- The edges of links are between numbers of parts.
abbrev pub LinkEdgesAreWithin : Type 0
LinkEdgesAreWithin = (volume : ℕ → ℕ → ℕ → ℕ) (g : Grid) → IsGrid g → (edges : List Edge)
    → AreLinkEdges (grid_tiling volume g) edges → AreWithin (part_count (grid_tiling volume g)) edges

-- The number of a voxel's part in its cell is the voxel's part in the whole.
abbrev pub NumbersAreParts : Type 0
NumbersAreParts = (volume : ℕ → ℕ → ℕ → ℕ) (g : Grid) → IsGrid g
    → (edges : List Edge) (classes firsts numbers : List ℕ) → AreLists volume g edges classes firsts numbers
    → (p : ℕ) → is_in (whole_graph volume g) p ≡ true
    → slice_index numbers (node_at volume g p) ≡ part_of (whole_graph volume g) p

-- Numbers are equal exactly where voxels are joined in the whole.
abbrev pub SameNumberIsJoined : Type 0
SameNumberIsJoined = (volume : ℕ → ℕ → ℕ → ℕ) (g : Grid) → IsGrid g
    → (edges : List Edge) (classes firsts numbers : List ℕ) → AreLists volume g edges classes firsts numbers
    → (p q : ℕ) → is_in (whole_graph volume g) p ≡ true → is_in (whole_graph volume g) q ≡ true
    → (slice_index numbers (node_at volume g p) ≡ slice_index numbers (node_at volume g q)) ↔ Joined (whole_graph volume g) p q

-- The number of a part is the part in the whole of the part's first voxel.
abbrev pub TableIsPart : Type 0
TableIsPart = (volume : ℕ → ℕ → ℕ → ℕ) (g : Grid) → IsGrid g
    → (edges : List Edge) (classes firsts numbers : List ℕ) → AreLists volume g edges classes firsts numbers
    → (a : ℕ) → a < (links_graph volume g).size → slice_index numbers a ≡ part_of (whole_graph volume g) (first_at volume g a)

-- For each volume and grid whose first voxels and links these are, the numbers are the parts of the whole.
abbrev pub ShowParts : List ℕ → List Edge → List ℕ → Type 0
ShowParts firsts edges numbers = (volume : ℕ → ℕ → ℕ → ℕ) (g : Grid) → IsGrid g
    → AreFirstNodes (grid_tiling volume g) firsts → AreLinkEdges (grid_tiling volume g) edges
    → (p : ℕ) → is_in (whole_graph volume g) p ≡ true
    → slice_index numbers (node_at volume g p) ≡ part_of (whole_graph volume g) p

-- The classes that a walk over the edges gives, and their numbers, show them.
abbrev pub NumbersShowParts : Type 0
NumbersShowParts = (firsts : List ℕ) (edges : List Edge) (classes numbers : List ℕ)
    → AreClasses (edge_graph (length firsts) edges) classes → AreNumbers classes firsts numbers → ShowParts firsts edges numbers
