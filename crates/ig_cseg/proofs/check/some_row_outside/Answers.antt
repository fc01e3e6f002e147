use Rattle.std.proofs.Common.{arith, ◌+◌, sym, ap, ◌∙◌}
use Rattle.ig_cseg.specs.Blocks.{row_position}
use Rattle.ig_cseg.specs.Cseg.{entry_place, is_outside, some_below}
use Rattle.ig_cseg.proofs.Rows.{rows-more, rows-none, rows-some}
use Rattle.ig_cseg.proofs.check.some_row_outside.Goals as goal

pub returns-then-row_outside : goal.returns-then-row_outside
returns-then-row_outside g c =
    let bytes = c.args.bytes.now in
    let b = c.args.header.block in
    let s = c.args.clip.now in
    let n = g.row.N in
    let own = ap (λ p. some_below (λ k. is_outside bytes n (entry_place n bytes b (p + k))) s.size.x) (sym c.position.ensures.value) ∙ sym c.row_outside.ensures ∙ c.if-row_outside.true in
    sym (rows-some (λ p. is_outside bytes n (entry_place n bytes b p)) s.block s.size c.loop-row.row (omega (arith, c.loop-row-test.true, c.rows-row-end.ensures)) own)

pub loop-row-preserved : goal.loop-row-preserved
loop-row-preserved g c =
    let bytes = c.args.bytes.now in
    let b = c.args.header.block in
    let s = c.args.clip.now in
    let n = g.row.N in
    let own = ap (λ p. some_below (λ k. is_outside bytes n (entry_place n bytes b (p + k))) s.size.x) (sym c.position.ensures.value) ∙ sym c.row_outside.ensures ∙ c.if-row_outside.false in
    rows-more (λ r. some_below (λ k. is_outside bytes n (entry_place n bytes b (row_position s.block s.size r + k))) s.size.x) c.loop-row.row c.loop-row.invariant own

pub returns : goal.returns
returns g c =
    let bytes = c.args.bytes.now in
    let b = c.args.header.block in
    let s = c.args.clip.now in
    let n = g.row.N in
    sym (rows-none (λ p. is_outside bytes n (entry_place n bytes b p)) s.block s.size c.requires.clip.x_some
    (λ r l. c.loop-row.invariant r (omega (arith, c.loop-row-test.false, c.rows-row-end.ensures, l))))
