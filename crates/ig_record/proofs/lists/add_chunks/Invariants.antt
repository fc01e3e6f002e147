-- So far the first chunks were added.
use Rattle.std.proofs.Common.{◌≡◌, ◌≤◌, ◌-◌, ◌++◌, length}
use Rattle.ig_space.specs.Chunks.{chunk_in, listed}
use Rattle.ig_space.specs.Grid.{cell_count}
use Rattle.ig_record.proofs.lists.add_chunks.Given as goal

abbrev pub invariant-loop-alloc : goal.invariant-loop-alloc
invariant-loop-alloc l = record {
  so_far : l.paths ≡ l.fn.paths ++ listed (chunk_in l.place l.fn.area) (length l.paths - l.before);
  more : l.before ≤ length l.paths;
  within : length l.paths - l.before ≤ cell_count l.hull;
}

abbrev pub decreases-loop-alloc : goal.decreases-loop-alloc
decreases-loop-alloc l = cell_count l.hull - (length l.paths - l.before)
