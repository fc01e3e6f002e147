-- So far no row has a word of an entry outside.
use Rattle.std.proofs.Common.{◌≡◌, ◌+◌, ◌<◌, ℕ, false}
use Rattle.ig_cseg.specs.Blocks.{row_position}
use Rattle.ig_cseg.specs.Cseg.{entry_place, is_outside, some_below}
use Rattle.ig_cseg.proofs.check.some_row_outside.Given as goal

abbrev pub invariant-loop-row : goal.invariant-loop-row
invariant-loop-row g l = (r : ℕ) → r < l.row → some_below (λ k. is_outside l.bytes g.row.N (entry_place g.row.N l.bytes l.header.block (row_position l.clip.block l.clip.size r + k))) l.clip.size.x ≡ false
