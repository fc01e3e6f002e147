-- So far the first labels were read.
use Rattle.std.proofs.Common.{◌≡◌, ◌<◌, ◌*◌, length, drop, slice_index, ℕ}
use Rattle.byteorder.specs.Endian.{little_number}
use Rattle.ig_space.proofs.raw.read_each.Given as goal

abbrev pub invariant-loop-place : goal.invariant-loop-place
invariant-loop-place g l =
    (length l.labels ≡ length l.fn.labels) × ((k : ℕ) → k < l.place → slice_index l.labels k ≡ little_number g.row.N (drop (g.row.N * k) l.text))
