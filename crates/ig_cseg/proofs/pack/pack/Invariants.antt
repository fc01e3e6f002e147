-- So far the word has the first indices.
use Rattle.std.proofs.Common.{◌≡◌, slice_index}
use Rattle.ig_cseg.specs.CsegText.{packed}
use Rattle.ig_cseg.proofs.pack.pack.Given as goal

abbrev pub invariant-loop-k : goal.invariant-loop-k
invariant-loop-k l = l.word ≡ packed l.bits (slice_index l.indices) l.k
