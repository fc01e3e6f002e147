-- So far no block has a fault.
use Rattle.std.proofs.Common.{◌≡◌, None}
use Rattle.ig_cseg.specs.Cseg.{block_fault, clipped, first_fault}
use Rattle.ig_cseg.proofs.check.first_fault.Given as goal

abbrev pub invariant-loop-number : goal.invariant-loop-number
invariant-loop-number g l = first_fault (λ b. block_fault l.block (clipped l.size l.block b) g.row.N l.bytes b) l.number ≡ None
