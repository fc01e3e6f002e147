use Rattle.std.proofs.Common.{arith, sym, ◌∙◌}
use Rattle.std.proofs.lemmas.Bool.{eq-eqb}
use Rattle.ig_cseg.proofs.Tables.{entry-outside, row-values, table-inside, table_small, table_whole}
use Rattle.ig_cseg.proofs.check.table_outside.Goals as goal

pub is_outside-requires-clause-count : goal.is_outside-requires-clause-count
is_outside-requires-clause-count g c =
    omega (arith, table_small g.row.N c.args.header.bits c.requires.words c.requires.few, table_whole g.row.N c.args.header.bits c.requires.words c.requires.few)

pub returns-then-not-is_outside : goal.returns-then-not-is_outside
returns-then-not-is_outside g c =
    let h = c.args.header in
    let s = c.args.clip.now in
    table-inside g.row.N c.args.bytes.now h.block h.table h.bits h.values s.block s.size c.requires.header c.requires.words c.requires.few
    (sym c.is_outside.ensures ∙ c.if-not-is_outside.true)

pub some_row_outside-requires-clause-values : goal.some_row_outside-requires-clause-values
some_row_outside-requires-clause-values g c =
    let s = c.args.clip.now in
    row-values c.args.bytes.now c.args.header.block c.args.header.bits s.block s.size c.requires.header.bits_is c.if-header-eq0.false c.requires.values

pub returns-then-header-eq0 : goal.returns-then-header-eq0
returns-then-header-eq0 g c =
    let h = c.args.header in
    let s = c.args.clip.now in
    eq-eqb h.bits 0 c.if-header-eq0.true
    ∙ entry-outside g.row.N c.args.bytes.now h.block h.table h.bits h.values s.volume s.block s.lo s.size c.requires.header c.requires.clip c.requires.words c.if-header-eq0.true
    (sym c.is_outside.ensures ∙ c.if-not-is_outside.false)
