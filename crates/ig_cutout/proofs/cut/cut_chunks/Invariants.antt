-- So far the outputs are those of the first chunks.
use Rattle.std.proofs.Common.{◌≡◌, ◌≤◌, ◌-◌, length, map, ℕ, Option, Some}
use Rattle.std.specs.Option.{option_map}
use Rattle.ig_space.specs.Grid.{cell, cell_count, chunks_of, hull}
use Rattle.ig_layer.specs.Texts.{all_listed, chunk_file, labels_in}
use Rattle.ig_cutout.specs.Outputs.{output_of}
use Rattle.ig_cutout.proofs.cut.cut_chunks.Given as goal

abbrev pub invariant-loop-labels : goal.invariant-loop-labels
invariant-loop-labels l =
    ((volume : ℕ → ℕ → ℕ → Option ℕ) → labels_in volume l.fn.area ≡ Some l.fn.volume.labels
    → option_map (map output_of) (all_listed (λ k. chunk_file l.place volume (cell (hull (chunks_of l.fn.place.geometry) l.fn.area) k)) (length l.outputs)) ≡ Some l.outputs)
    × (length l.outputs ≤ cell_count l.hull)

abbrev pub decreases-loop-labels : goal.decreases-loop-labels
decreases-loop-labels l = cell_count l.hull - length l.outputs
