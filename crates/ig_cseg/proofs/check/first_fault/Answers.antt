use Rattle.std.proofs.Common.{arith, sym, ap, ◌∙◌, ℕ}
use Rattle.std.specs.Option.{is_some}
use Rattle.ig_space.specs.declared.point.Point.{Point}
use Rattle.ig_cseg.specs.Cseg.{block_count, block_fault, clipped}
use Rattle.ig_cseg.proofs.FirstFaults.{first-found, first-more, none_from}
use Rattle.ig_cseg.proofs.check.first_fault.Goals as goal

pub returns-then-is_some : goal.returns-then-is_some
returns-then-is_some g c =
    let n = g.row.N in
    let bytes = c.args.bytes.now in
    let size = c.args.size in
    let block = c.args.block in
    let own = c.block_fault-fault.ensures ∙ ap (λ (l : Point). block_fault l c.of.result.size n bytes c.read-header.result.block) c.of.ensures.block
    ∙ ap (λ (s : Point). block_fault block s n bytes c.read-header.result.block) c.of.ensures.size
    ∙ ap (λ (b : ℕ). block_fault block (clipped size block c.loop-number.number) n bytes b) c.read-header.ensures.block in
    let found = ap is_some (sym own) ∙ sym c.is_some.ensures ∙ c.if-is_some.true in
    own ∙ sym (first-found (λ b. block_fault block (clipped size block b) n bytes b) c.loop-number.number (block_count size block) c.loop-number.invariant found
    (omega (arith, c.loop-number-test.true, c.block_count-number-end.ensures.value)))

pub loop-number-preserved : goal.loop-number-preserved
loop-number-preserved g c =
    let n = g.row.N in
    let bytes = c.args.bytes.now in
    let size = c.args.size in
    let block = c.args.block in
    let own = c.block_fault-fault.ensures ∙ ap (λ (l : Point). block_fault l c.of.result.size n bytes c.read-header.result.block) c.of.ensures.block
    ∙ ap (λ (s : Point). block_fault block s n bytes c.read-header.result.block) c.of.ensures.size
    ∙ ap (λ (b : ℕ). block_fault block (clipped size block c.loop-number.number) n bytes b) c.read-header.ensures.block in
    let none = none_from c.block_fault-fault.result (sym c.is_some.ensures ∙ c.if-is_some.false) in
    first-more (λ b. block_fault block (clipped size block b) n bytes b) c.loop-number.number c.loop-number.invariant (sym own ∙ none)
