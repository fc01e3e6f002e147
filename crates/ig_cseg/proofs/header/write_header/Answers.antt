use Rattle.std.proofs.Common.{arith, ◌≡◌, ◌+◌, ◌-◌, ◌*◌, ◌^◌, ◌++◌, length, take, drop, ap, refl, ◌∙◌}
use Rattle.byteorder.specs.Endian.{little_bytes}
use Rattle.ig_cseg.proofs.HeaderWrites.{first-word, put-eight, put-four}
use Rattle.ig_cseg.proofs.header.write_header.Goals as goal

pub returns : goal.returns
returns c =
    let text = c.args.text.now in
    let a = 4 * (2 * c.args.block + 1) in
    let own = first-word c.args.bits c.args.table c.requires.bits c.requires.table in
    let mid = put-four a text c.write_u32.new.buf (little_bytes 4 (c.args.table + 2 ^ 24 * c.args.bits)) (omega (arith, c.requires.within))
    (c.write_u32.ensures ∙ ap (λ w. little_bytes 4 w ++ drop 4 (take (length text - a) (drop a text))) own) in
    let end : a + 8 ≡ 4 * (2 * c.args.block + 3) = omega arith in
    put-eight a (a + 4) text _ c.write_u32-2.new.buf (little_bytes 4 (c.args.table + 2 ^ 24 * c.args.bits)) (little_bytes 4 c.args.values) refl refl (omega (arith, c.requires.within)) mid c.write_u32-2.ensures
    ∙ ap (λ n. take a text ++ (little_bytes 4 (c.args.table + 2 ^ 24 * c.args.bits) ++ (little_bytes 4 c.args.values ++ drop n text))) end
