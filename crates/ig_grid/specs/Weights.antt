-- Weights of voxels, and their sums.
use Rattle.std.specs.Prelude.{ℕ, ◌==◌, Bool}
use Rattle.ig_space.specs.declared.point.Point.{Point}
use Rattle.ig_space.specs.declared.point.Box3.{Box3}
use Rattle.ig_space.specs.declared.geometry.Grid.{Grid}
use Rattle.ig_space.specs.Geometry.{count}
use Rattle.ig_space.specs.Grid.{cell, cell_count, size_of}
use Rattle.ig_graph.specs.Counts.{how_many}
use Rattle.ig_grid.specs.Sums.{sum_below}
use Rattle.ig_grid.specs.BoxGraph.{voxel_at, label_of}

-- the sum of a weight over the voxels of a box
abbrev pub weight_in : (Point → ℕ) → Box3 → ℕ
weight_in weight b = sum_below (λ p. weight (voxel_at b p)) (count (size_of b))

-- and over the cells of a grid, of each cell's sum
abbrev pub weight_of_cells : (Point → ℕ) → Grid → ℕ
weight_of_cells weight g = sum_below (λ k. weight_in weight (cell g k)) (cell_count g)

-- how many voxels of a box pass a test
abbrev pub passing_in : (Point → Bool) → Box3 → ℕ
passing_in test b = how_many (λ p. test (voxel_at b p)) (count (size_of b))

-- how many voxels of a box have a label
abbrev pub voxels_with : (ℕ → ℕ → ℕ → ℕ) → Box3 → ℕ → ℕ
voxels_with volume b label = passing_in (λ a. label_of volume a == label) b
