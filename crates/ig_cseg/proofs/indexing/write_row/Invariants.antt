-- So far the first indices are written, and the label that was looked up last has this index.
use Rattle.std.proofs.Common.{◌≡◌, ◌<◌, length, slice_index, ℕ}
use Rattle.ig_cseg.specs.CsegText.{index_in}
use Rattle.ig_cseg.proofs.indexing.write_row.Given as goal

abbrev pub invariant-loop-k : goal.invariant-loop-k
invariant-loop-k l =
    (length l.row ≡ length l.fn.row) × (l.index ≡ index_in l.table l.label) × ((k : ℕ) → k < l.k → slice_index l.row k ≡ index_in l.table (slice_index l.labels k))
