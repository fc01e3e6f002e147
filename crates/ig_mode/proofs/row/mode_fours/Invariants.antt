-- So far the first fours of blocks are written.
use Rattle.std.proofs.Common.{◌≡◌, ℕ, ◌*◌, ◌<◌, length, slice_index}
use Rattle.ig_mode.specs.Mode.{block_mode}
use Rattle.ig_mode.proofs.row.mode_fours.Given as goal

abbrev pub invariant-loop-four : goal.invariant-loop-four
invariant-loop-four l = (k : ℕ) → k < 4 * l.four → slice_index l.out k ≡ block_mode (length l.upper) l.upper l.lower k
