use Rattle.std.proofs.Common.{arith, ◌<◌, ◌≤◌, ◌+◌, ◌*◌, ◌^◌, ◌%◌, bit_or, ap, ◌∙◌, length, slice_index}
use Rattle.std.proofs.Math.Nat.{mul-le-mul_left, pow-le-pow_right}
use Rattle.ig_cseg.specs.Packing.{packed-below}
use Rattle.ig_cseg.proofs.Listing.{packed-or}
use Rattle.ig_cseg.proofs.pack.pack.Goals as goal

pub loop-k-preserved : goal.loop-k-preserved
loop-k-preserved c =
    let bits = c.args.bits in
    let f = slice_index c.args.indices.now in
    let k = c.loop-k.k in
    let room : bits * (k + 1) ≤ bits * length c.args.indices.now = mul-le-mul_left bits (omega (arith, c.loop-k-test.true)) in
    let small : c.from.result < 2 ^ bits = omega (arith, c.requires.small k c.loop-k-test.true, c.from.ensures) in
    ap (λ w. bit_or w (c.from.result * 2 ^ (bits * k) % 2 ^ 64)) c.loop-k.invariant
    ∙ packed-or bits f k c.from.result (λ i l. c.requires.small i (omega (arith, l, c.loop-k-test.true))) small (omega (arith, c.from.ensures)) (omega (arith, room, c.requires.room))

pub overflow_cast-result : goal.overflow_cast-result
overflow_cast-result c =
    let bits = c.args.bits in
    let f = slice_index c.args.indices.now in
    let all : length c.args.indices.now ≤ c.loop-k.k = c.loop-k-test.false in
    let below = packed-below bits f c.loop-k.k (λ i l. c.requires.small i (omega (arith, l, c.loop-k.auto.k-end))) in
    let room : bits * c.loop-k.k ≤ bits * length c.args.indices.now = mul-le-mul_left bits (omega (arith, c.loop-k.auto.k-end)) in
    let most : bits * c.loop-k.k ≤ 32 = omega (arith, room, c.requires.room) in
    let power : 2 ^ (bits * c.loop-k.k) ≤ 2 ^ 32 = pow-le-pow_right (omega arith) most in
    omega (arith, below, power, c.loop-k.invariant)
