-- So far the first labels are unpacked.
use Rattle.std.proofs.Common.{◌≡◌, ◌<◌, ◌+◌, length, slice_index, ℕ}
use Rattle.ig_cseg.specs.Cseg.{entry}
use Rattle.ig_cseg.proofs.unpack.unpack_row.Given as goal

abbrev pub invariant-loop-k : goal.invariant-loop-k
invariant-loop-k g l =
    (length l.row ≡ length l.fn.row) × ((k : ℕ) → k < l.k → slice_index l.row k ≡ entry g.row.N l.bytes l.header.block (l.position + k))
