-- So far no position has a word of its entry outside.
use Rattle.std.proofs.Common.{◌≡◌, ◌+◌, false}
use Rattle.ig_cseg.specs.Cseg.{entry_place, is_outside, some_below}
use Rattle.ig_cseg.proofs.check.row_outside.Given as goal

abbrev pub invariant-loop-k : goal.invariant-loop-k
invariant-loop-k g l = some_below (λ k. is_outside l.bytes g.row.N (entry_place g.row.N l.bytes l.header.block (l.position + k))) l.k ≡ false
