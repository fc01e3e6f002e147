-- So far the paths are those of the first chunks.
use Rattle.std.proofs.Common.{◌≡◌, ◌≤◌, ◌-◌, length}
use Rattle.ig_space.specs.Chunks.{chunk_in, listed}
use Rattle.ig_space.specs.Grid.{cell_count}
use Rattle.ig_space.proofs.chunks.chunks_of.Given as goal

abbrev pub invariant-loop-alloc : goal.invariant-loop-alloc
invariant-loop-alloc l =
    (l.paths ≡ listed (chunk_in l.place l.fn.area) (length l.paths)) × (length l.paths ≤ cell_count l.hull)

abbrev pub decreases-loop-alloc : goal.decreases-loop-alloc
decreases-loop-alloc l = cell_count l.hull - length l.paths
