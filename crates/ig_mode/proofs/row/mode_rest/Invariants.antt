-- So far the blocks before this one are written.
use Rattle.std.proofs.Common.{◌≡◌, ℕ, ◌<◌, length, slice_index}
use Rattle.ig_mode.specs.Mode.{block_mode}
use Rattle.ig_mode.proofs.row.mode_rest.Given as goal

abbrev pub invariant-loop-k : goal.invariant-loop-k
invariant-loop-k l = (k : ℕ) → k < l.k → slice_index l.out k ≡ block_mode (length l.upper) l.upper l.lower k
