-- So far the first blocks are written.
use Rattle.std.proofs.Common.{◌≡◌}
use Rattle.ig_space.specs.declared.geometry.Width.TheVariants.{W32}
use Rattle.ig_space.specs.Raw.{raw_text}
use Rattle.ig_cseg.specs.BlockText.{words_so_far}
use Rattle.ig_cseg.proofs.encoder.encode_blocks.Given as goal

abbrev pub invariant-loop-number : goal.invariant-loop-number
invariant-loop-number g l = l.text.items ≡ raw_text W32 (words_so_far l.size l.block g.row.N l.labels l.number)
