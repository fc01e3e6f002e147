use Rattle.std.proofs.Common.{◌+◌, nat_lt, sym, ap, ◌∙◌}
use Rattle.ig_cseg.specs.Cseg.{entry_place, is_outside, word_count}
use Rattle.ig_cseg.proofs.Searches.{some-below}
use Rattle.ig_cseg.proofs.check.row_outside.Goals as goal

pub returns-then-is_outside : goal.returns-then-is_outside
returns-then-is_outside g c =
    let bytes = c.args.bytes.now in
    let n = g.row.N in
    let own = ap (λ e. nat_lt (word_count bytes) (e + n)) (sym c.entry.ensures.value) ∙ sym c.is_outside.ensures ∙ c.if-is_outside.true in
    sym (some-below (λ k. is_outside bytes n (entry_place n bytes c.args.header.block (c.args.position + k))) c.args.length c.loop-k.k c.loop-k-test.true own)
