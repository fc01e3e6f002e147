use Rattle.std.proofs.Common.{arith, ◌≡◌, ◌+◌, ◌-◌, ◌*◌, ◌/◌, ◌^◌, ◌∷◌, ◌++◌, [], length, take, drop, ap, ◌∙◌}
use Rattle.ig_space.specs.declared.geometry.Width.TheVariants.{W32}
use Rattle.ig_space.specs.Raw.{raw_text}
use Rattle.ig_cseg.specs.CsegText.{bits_of, table_begin, value_len}
use Rattle.ig_cseg.specs.TextSizes.{places-small}
use Rattle.ig_cseg.proofs.BlockWords.{bits-of_block, block-added, header-room, values-of_text, words-of_block}
use Rattle.ig_cseg.proofs.IndexWords.{handed_back}
use Rattle.ig_cseg.proofs.encoder.add_block.Goals as goal

pub write_header-requires-clause-within : goal.write_header-requires-clause-within
write_header-requires-clause-within g c =
    let s = c.args.clip.now in
    let room = header-room s.volume s.block g.row.N c.args.labels.now c.args.text.now.items c.append_block.new.text.items _ c.args.number c.requires.below c.requires.before c.in_ok-bits.ensures.text in
    omega (arith, room, ap length c.deref_mut.ensures.value)

pub write_header-requires-clause-table : goal.write_header-requires-clause-table
write_header-requires-clause-table g c =
    let s = c.args.clip.now in
    let labels = c.args.labels.now in
    let values = values-of_text s.volume s.block g.row.N labels c.args.text.now.items c.args.number c.len.result (omega (arith, c.requires.below)) c.requires.before (omega (arith, c.len.ensures, c.args.text.now.ok.0)) in
    let bits = bits-of_block s.volume s.block s.lo s.size labels c.args.number c.in_ok-bits.bits c.requires.lo c.requires.size c.in_ok-bits.ensures.bits in
    let many = c.value_len.ensures ∙ ap (λ b. value_len b c.positions.result) bits ∙ ap (value_len (bits_of s.volume s.block labels c.args.number)) c.positions.ensures.value in
    omega (arith, places-small s.volume s.block g.row.N labels c.requires.some c.requires.words c.requires.cut c.requires.length c.args.number c.requires.below, values, many)

pub write_header-requires-clause-values : goal.write_header-requires-clause-values
write_header-requires-clause-values g c =
    let s = c.args.clip.now in
    let labels = c.args.labels.now in
    let values = values-of_text s.volume s.block g.row.N labels c.args.text.now.items c.args.number c.len.result (omega (arith, c.requires.below)) c.requires.before (omega (arith, c.len.ensures, c.args.text.now.ok.0)) in
    omega (arith, places-small s.volume s.block g.row.N labels c.requires.some c.requires.words c.requires.cut c.requires.length c.args.number c.requires.below, values)

pub returns : goal.returns
returns g c =
    let s = c.args.clip.now in
    let labels = c.args.labels.now in
    let b = c.args.number in
    let more = c.append_block.new.text.items in
    let values = values-of_text s.volume s.block g.row.N labels c.args.text.now.items b c.len.result (omega (arith, c.requires.below)) c.requires.before (omega (arith, c.len.ensures, c.args.text.now.ok.0)) in
    let bits = bits-of_block s.volume s.block s.lo s.size labels b c.in_ok-bits.bits c.requires.lo c.requires.size c.in_ok-bits.ensures.bits in
    let many = c.value_len.ensures ∙ ap (λ b. value_len b c.positions.result) bits ∙ ap (value_len (bits_of s.volume s.block labels b)) c.positions.ensures.value in
    let table : c.len.result / 4 - 1 + c.value_len.result ≡ table_begin s.volume s.block g.row.N labels b = omega (arith, values, many) in
    let words = c.in_ok-bits.ensures.text ∙ ap (λ ws. c.args.text.now.items ++ raw_text W32 ws) (words-of_block s.volume s.block s.lo s.size g.row.N labels b c.requires.lo c.requires.size) in
    handed_back c.append_block.new.text.len c.write_header.new.text more (omega (arith, c.write_header.auto.text, c.deref_mut.ensures.len))
    ∙ block-added s.volume s.block g.row.N labels c.args.text.now.items more c.write_header.new.text b (c.len.result / 4 - 1 + c.value_len.result) c.in_ok-bits.bits (c.len.result / 4 - 1)
    c.requires.below c.requires.before words table bits values
    (c.write_header.ensures
    ∙ ap (λ t. take (4 * (2 * b + 1)) t ++ (raw_text W32 ((c.len.result / 4 - 1 + c.value_len.result + 2 ^ 24 * c.in_ok-bits.bits) ∷ (c.len.result / 4 - 1) ∷ []) ++ drop (4 * (2 * b + 3)) t))
    c.deref_mut.ensures.value)
