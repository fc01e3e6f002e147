-- A graph cut into cells: the parts of all cells, and the graph of these and of the links between them.
use Rattle.std.specs.Prelude.{ℕ, suc, ◌+◌, ◌-◌, ◌≤◌, ◌<◌, Bool, true, ◌||◌, ◌≡◌, ◌⊎◌, slice_index}
use Rattle.ig_graph.specs.Counts.{how_many, those_below}
use Rattle.ig_graph.specs.Graph.{Graph, is_in, steps, IsSymmetric, is_root, part_of}
use Rattle.ig_grid.specs.Sums.{sum_below, pair_first, pair_rank}

-- A graph, how many cells it is cut into, and the graph of each; the cell of each node and its number in it, and the node
-- with a number in a cell; and whether a part of a cell is linked with one of another.
pub record Tiling : Type 0 where
  pub whole : Graph
  pub cells : ℕ
  pub tile : ℕ → Graph
  pub cell : ℕ → ℕ
  pub place : ℕ → ℕ
  pub back : ℕ → ℕ → ℕ
  pub has_link : ℕ → ℕ → ℕ → ℕ → Bool

-- how many parts a cell has
abbrev pub parts_in : Tiling → ℕ → ℕ
parts_in t k = how_many (is_root (t.tile k)) (t.tile k).size

-- how many parts there are before those of cell k, and how many there are
abbrev pub parts_before : Tiling → ℕ → ℕ
parts_before t k = sum_below (parts_in t) k

abbrev pub part_count : Tiling → ℕ
part_count t = parts_before t t.cells

-- the number of a part of a cell, counted from 1, among all parts: by cell, then part
abbrev pub node : Tiling → ℕ → ℕ → ℕ
node t k part = parts_before t k + (part - 1)

-- the cell and the part in it with a number
abbrev pub cell_of_node : Tiling → ℕ → ℕ
cell_of_node t a = pair_first (parts_in t) t.cells a

abbrev pub part_of_node : Tiling → ℕ → ℕ
part_of_node t a = suc (pair_rank (parts_in t) t.cells a)

-- the part in its cell of a node of the whole, and the number of that among all parts
abbrev pub part_at : Tiling → ℕ → ℕ
part_at t p = part_of (t.tile (t.cell p)) (t.place p)

abbrev pub node_of : Tiling → ℕ → ℕ
node_of t p = node t (t.cell p) (part_at t p)

-- the first node of a part: of the least nodes of parts in its cell, ascending, the one with the part's number
abbrev pub first_in_cell : Tiling → ℕ → ℕ → ℕ
first_in_cell t k r = slice_index (those_below (is_root (t.tile k)) (t.tile k).size) r

abbrev pub first_node : Tiling → ℕ → ℕ
first_node t a = t.back (cell_of_node t a) (first_in_cell t (cell_of_node t a) (pair_rank (parts_in t) t.cells a))

-- Parts are neighbours where a link joins them, either way.
abbrev pub links_on : Tiling → ℕ → ℕ → Bool
links_on t a b = t.has_link (cell_of_node t a) (part_of_node t a) (cell_of_node t b) (part_of_node t b)

abbrev pub parts_graph : Tiling → Graph
parts_graph t = record {
  size = part_count t;
  is_node = λ a. true;
  adj = λ a b. links_on t a b || links_on t b a;
}

-- ---- a tiling
-- under a link lies a step
pub record IsOver (t : Tiling) (k a l b : ℕ) : Type 0 where
  pub from : ℕ
  pub to : ℕ
  pub from_in : is_in (t.tile k) from ≡ true
  pub to_in : is_in (t.tile l) to ≡ true
  pub from_at : part_of (t.tile k) from ≡ a
  pub to_at : part_of (t.tile l) to ≡ b
  pub step : steps t.whole (t.back k from) (t.back l to) ≡ true

-- Each node lies in one cell. A step of a cell is one of the whole, and a step of the whole is one of a cell, or a link lies
-- over it. The order within a cell is that of the whole.
pub record IsTiling (t : Tiling) : Type 0 where
  pub both : IsSymmetric t.whole
  pub tile_both : (k : ℕ) → IsSymmetric (t.tile k)
  pub cell_below : (p : ℕ) → is_in t.whole p ≡ true → t.cell p < t.cells
  pub place_is_in : (p : ℕ) → is_in t.whole p ≡ true → is_in (t.tile (t.cell p)) (t.place p) ≡ true
  pub back_is : (p : ℕ) → is_in t.whole p ≡ true → t.back (t.cell p) (t.place p) ≡ p
  pub back_is_in : (k i : ℕ) → k < t.cells → is_in (t.tile k) i ≡ true → is_in t.whole (t.back k i) ≡ true
  pub cell_is : (k i : ℕ) → k < t.cells → is_in (t.tile k) i ≡ true → t.cell (t.back k i) ≡ k
  pub place_is : (k i : ℕ) → k < t.cells → is_in (t.tile k) i ≡ true → t.place (t.back k i) ≡ i
  pub steps_out : (k i j : ℕ) → k < t.cells → steps (t.tile k) i j ≡ true → steps t.whole (t.back k i) (t.back k j) ≡ true
  pub steps_in : (p q : ℕ) → steps t.whole p q ≡ true → t.cell p ≡ t.cell q → steps (t.tile (t.cell p)) (t.place p) (t.place q) ≡ true
  pub order : (k i j : ℕ) → k < t.cells → is_in (t.tile k) i ≡ true → is_in (t.tile k) j ≡ true → i ≤ j → t.back k i ≤ t.back k j
  pub crosses : (p q : ℕ) → steps t.whole p q ≡ true → (t.cell p ≡ t.cell q → ⊥)
      → (t.has_link (t.cell p) (part_at t p) (t.cell q) (part_at t q) ≡ true) ⊎ (t.has_link (t.cell q) (part_at t q) (t.cell p) (part_at t p) ≡ true)
  pub link_over : (k a l b : ℕ) → k < t.cells → l < t.cells → t.has_link k a l b ≡ true → IsOver t k a l b
