-- The laws of labelling and of counting box by box, for every volume and every task grid.
use Rattle.std.specs.Prelude.{ℕ, length, slice_index, sum, ◌-◌, ◌+◌, ◌≤◌, ◌<◌, Bool, true, ◌≡◌, ◌↔◌, List, map}
use Rattle.std.specs.List.{range_with_len}
use Rattle.ig_space.specs.declared.point.Point.{Point}
use Rattle.ig_space.specs.declared.point.Box3.{Box3}
use Rattle.ig_space.specs.declared.geometry.Grid.{Grid}
use Rattle.ig_space.specs.Geometry.{count}
use Rattle.ig_space.specs.Grid.{IsGrid, IsIn, cell, cell_count, size_of}
use Rattle.ig_space.specs.Volume.{Voxels}
use Rattle.ig_graph.specs.Counts.{those_below}
use Rattle.ig_graph.specs.Graph.{is_in, is_root, Joined, least, part_of}
use Rattle.ig_graph.specs.Numbers.{first_of_class, number_of}
use Rattle.ig_graph.specs.Quotients.{IsQuotient, AreFirsts, Numbered}
use Rattle.ig_label.specs.VoxelGraph.{label_at, voxel_graph}
use Rattle.ig_grid.specs.Sums.{sum_below}
use Rattle.ig_grid.specs.BoxGraph.{voxel_at, place_in, label_of, box_graph, HaveParts}
use Rattle.ig_grid.specs.Tiling.{Tiling, IsTiling, parts_in, part_count, node, cell_of_node, part_of_node, node_of, first_node, parts_graph}
use Rattle.ig_grid.specs.Links.{Axis, along, up, is_upper, is_linked_along, grid_tiling, whole_graph, links_graph, node_at, first_at}
use Rattle.ig_grid.specs.PlaneLinks.{IsPlaneLink}
use Rattle.ig_grid.specs.Weights.{weight_in, weight_of_cells, passing_in, voxels_with}

-- Voxels are joined in the whole exactly where a path along links leads from the part of the one to that of the other.
abbrev pub JoinedByLinks : Type 0
JoinedByLinks = (volume : ℕ → ℕ → ℕ → ℕ) (g : Grid) → IsGrid g
    → (p q : ℕ) → is_in (whole_graph volume g) p ≡ true → is_in (whole_graph volume g) q ≡ true
    → Joined (whole_graph volume g) p q ↔ Joined (links_graph volume g) (node_at volume g p) (node_at volume g q)

-- The least first voxel of a class of linked parts is the first voxel joined with each of theirs.
abbrev pub LeastFirstIsFirst : Type 0
LeastFirstIsFirst = (volume : ℕ → ℕ → ℕ → ℕ) (g : Grid) → IsGrid g → (p : ℕ) → is_in (whole_graph volume g) p ≡ true
    → first_of_class (least (links_graph volume g)) (first_at volume g) (links_graph volume g).size (node_at volume g p)
    ≡ least (whole_graph volume g) p

-- The number of a class of linked parts, in the order of these, is the part in the whole.
abbrev pub NumberIsPart : Type 0
NumberIsPart = (volume : ℕ → ℕ → ℕ → ℕ) (g : Grid) → IsGrid g → (p : ℕ) → is_in (whole_graph volume g) p ≡ true
    → number_of (least (links_graph volume g)) (first_at volume g) (links_graph volume g).size (node_at volume g p)
    ≡ part_of (whole_graph volume g) p

-- The numbers of parts take each step of the whole to linked parts, only joined voxels to one part, and under each link lies a
-- step.
abbrev pub PartsAreQuotient : Type 0
PartsAreQuotient = (volume : ℕ → ℕ → ℕ → ℕ) (g : Grid) → IsGrid g
    → IsQuotient (whole_graph volume g) (links_graph volume g) (node_at volume g)

-- The first voxel of a part is the least over it.
abbrev pub FirstsAreFirst : Type 0
FirstsAreFirst = (volume : ℕ → ℕ → ℕ → ℕ) (g : Grid) → IsGrid g
    → AreFirsts (whole_graph volume g) (links_graph volume g) (node_at volume g) (first_at volume g)

-- Voxels stand in the order of the whole in each cell.
abbrev pub CellsKeepOrder : Type 0
CellsKeepOrder = (g : Grid) → IsGrid g
    → (k i j : ℕ) → k < cell_count g → i < count (size_of (cell g k)) → j < count (size_of (cell g k)) → i ≤ j
    → place_in g.space (voxel_at (cell g k) i) ≤ place_in g.space (voxel_at (cell g k) j)

-- The numbers below the number of parts are those of the parts of cells, each once.
abbrev pub NumbersOfParts : Type 0
NumbersOfParts = (t : Tiling) (k part : ℕ) → k < t.cells → 1 ≤ part → part ≤ parts_in t k
    → (node t k part < part_count t) × (cell_of_node t (node t k part) ≡ k) × (part_of_node t (node t k part) ≡ part)

abbrev pub PartsOfNumbers : Type 0
PartsOfNumbers = (t : Tiling) (a : ℕ) → a < part_count t
    → (cell_of_node t a < t.cells) × (part_of_node t a ≤ parts_in t (cell_of_node t a))
    × (node t (cell_of_node t a) (part_of_node t a) ≡ a)

-- The numbers of parts that the cells have add up to the number of all parts.
abbrev pub PartsAreCounted : Type 0
PartsAreCounted = (t : Tiling) (counts : List ℕ) → length counts ≡ t.cells
    → ((k : ℕ) → k < t.cells → slice_index counts k ≡ parts_in t k) → sum counts ≡ part_count t

-- The voxel one above the last plane of a cell is in the first plane of the upper neighbour.
abbrev pub AboveIsFirstPlane : Type 0
AboveIsFirstPlane = (g : Grid) → IsGrid g
    → (axis : Axis) (k l : ℕ) (a : Point) → k < cell_count g → is_upper g axis k l ≡ true → IsIn (cell g k) a.x a.y a.z
    → along axis a + 1 ≡ along axis (cell g k).hi
    → IsIn (cell g l) (up axis a).x (up axis a).y (up axis a).z × (along axis (up axis a) ≡ along axis (cell g l).lo)

-- The labels of a box, labelled by themselves, have the box's parts.
abbrev pub LabelledBoxHasParts : Type 0
LabelledBoxHasParts = (volume : ℕ → ℕ → ℕ → ℕ) (b : Box3) (v : Voxels) (local firsts values : List ℕ) → v.size ≡ size_of b
    → ((p : ℕ) → p < count v.size → label_at v p ≡ label_of volume (voxel_at b p))
    → local ≡ map (part_of (voxel_graph v)) (range_with_len 0 (count v.size))
    → firsts ≡ those_below (is_root (voxel_graph v)) (count v.size)
    → values ≡ map (label_at v) firsts
    → HaveParts volume b local firsts values

-- The lists of a box's parts tell each voxel's part, and of the part the label and the first voxel.
abbrev pub ListsTellParts : Type 0
ListsTellParts = (volume : ℕ → ℕ → ℕ → ℕ) (b : Box3) (local firsts values : List ℕ) → HaveParts volume b local firsts values
    → (p : ℕ) → p < count (size_of b) → slice_index local p ≡ part_of (box_graph volume b) p

abbrev pub ListsTellLabels : Type 0
ListsTellLabels = (volume : ℕ → ℕ → ℕ → ℕ) (b : Box3) (local firsts values : List ℕ) → HaveParts volume b local firsts values
    → (p : ℕ) → is_in (box_graph volume b) p ≡ true
    → slice_index values (part_of (box_graph volume b) p - 1) ≡ label_of volume (voxel_at b p)

abbrev pub ListsTellFirsts : Type 0
ListsTellFirsts = (volume : ℕ → ℕ → ℕ → ℕ) (b : Box3) (local firsts values : List ℕ) → HaveParts volume b local firsts values
    → (p : ℕ) → is_in (box_graph volume b) p ≡ true
    → slice_index firsts (part_of (box_graph volume b) p - 1) ≡ least (box_graph volume b) p

-- There are as many first voxels as the cell has parts, and they are the first voxels of these parts in the whole.
abbrev pub ListsTellCounts : Type 0
ListsTellCounts = (volume : ℕ → ℕ → ℕ → ℕ) (g : Grid) (k : ℕ) (local firsts values : List ℕ)
    → HaveParts volume (cell g k) local firsts values → length firsts ≡ parts_in (grid_tiling volume g) k

abbrev pub ListsTellFirstNodes : Type 0
ListsTellFirstNodes = (volume : ℕ → ℕ → ℕ → ℕ) (g : Grid) (k part : ℕ) (local firsts values : List ℕ) → k < cell_count g
    → HaveParts volume (cell g k) local firsts values → 1 ≤ part → part ≤ length firsts
    → first_at volume g (node (grid_tiling volume g) k part)
    ≡ place_in g.space (voxel_at (cell g k) (slice_index firsts (part - 1)))

-- Parts are linked along an axis exactly where the lists of both cells show it in the planes that touch.
abbrev pub ListsTellLinks : Type 0
ListsTellLinks = (volume : ℕ → ℕ → ℕ → ℕ) (g : Grid) → IsGrid g
    → (axis : Axis) (k l : ℕ) → k < cell_count g → is_upper g axis k l ≡ true
    → (local firsts values others seconds labels : List ℕ)
    → HaveParts volume (cell g k) local firsts values → HaveParts volume (cell g l) others seconds labels
    → (a b : ℕ) → (is_linked_along volume g axis k a l b ≡ true)
    ↔ IsPlaneLink axis (cell g k) (cell g l) local values others labels a b

-- ---- sums
-- The sum of a weight over all voxels is the sum over the cells of each cell's sum.
abbrev pub WeightsAdd : Type 0
WeightsAdd = (weight : Point → ℕ) (g : Grid) → IsGrid g → weight_in weight g.space ≡ weight_of_cells weight g

-- The number of voxels that pass a test is the sum over the cells of the number in each.
abbrev pub PassingAdd : Type 0
PassingAdd = (test : Point → Bool) (g : Grid) → IsGrid g
    → passing_in test g.space ≡ sum_below (λ k. passing_in test (cell g k)) (cell_count g)

-- So is the number of voxels with a label.
abbrev pub LabelsAdd : Type 0
LabelsAdd = (volume : ℕ → ℕ → ℕ → ℕ) (g : Grid) → IsGrid g → (label : ℕ)
    → voxels_with volume g.space label ≡ sum_below (λ k. voxels_with volume (cell g k) label) (cell_count g)

-- ---- tilings
-- A grid's cells cut the volume into a tiling.
abbrev pub GridsAreTilings : Type 0
GridsAreTilings = (volume : ℕ → ℕ → ℕ → ℕ) (g : Grid) → IsGrid g → IsTiling (grid_tiling volume g)

-- The parts of the cells of any tiling, with their links, are a quotient of the whole, with the first node under each.
abbrev pub TilingsAreNumbered : Type 0
TilingsAreNumbered = (t : Tiling) → IsTiling t → Numbered t.whole (parts_graph t) (node_of t) (first_node t)
