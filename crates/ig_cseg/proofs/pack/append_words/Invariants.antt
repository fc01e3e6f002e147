-- So far the first words are appended.
use Rattle.std.proofs.Common.{◌≡◌, ◌++◌, slice_index}
use Rattle.ig_space.specs.declared.geometry.Width.TheVariants.{W32}
use Rattle.ig_space.specs.Raw.{raw_text}
use Rattle.ig_cseg.specs.BlockText.{packed_words}
use Rattle.ig_cseg.proofs.pack.append_words.Given as goal

abbrev pub invariant-loop-word : goal.invariant-loop-word
invariant-loop-word l = l.text.items ≡ l.fn.text.items ++ raw_text W32 (packed_words l.bits l.each (slice_index l.indices) l.word)
