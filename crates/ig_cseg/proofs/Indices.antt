-- The index of a position.
use Rattle.std.proofs.Common.{arith, ◌≡◌, ◌≤◌, ◌+◌, ◌-◌, ◌*◌, ◌/◌, ◌%◌, ◌^◌, ℕ, List, bit_and, ap, ◌∙◌}
use Rattle.std.proofs.lemmas.Nat.{and_mask, one_shl}
use Rattle.ig_cseg.specs.Cseg.{channel, index_at, index_bits, value_place, word}
use Rattle.ig_cseg.specs.Blocks.{IsHeader}

-- where the word of a position is
pub value_place-is : (bytes : List ℕ) (b table bits values p : ℕ) → IsHeader bytes b table bits values → values + p * bits / 32 ≡ channel bytes + value_place bytes b p
value_place-is bytes b table bits values p h =
    let q : p * bits / 32 ≡ p * index_bits bytes b / 32 = ap (λ n. p * n / 32) h.bits_is in
    omega (arith, q, h.values_is)

-- a shift and a mask give the index
pub index-is : (bytes : List ℕ) (b table bits values p w : ℕ) → IsHeader bytes b table bits values → bits ≤ 32 → w ≡ word bytes (values + p * bits / 32)
    → bit_and (w / 2 ^ (p * bits % 32)) (1 * 2 ^ bits % 2 ^ 64 - 1) ≡ index_at bytes b p
index-is bytes b table bits values p w h few e =
    let f : ℕ → ℕ → ℕ = λ n x. x / 2 ^ (p * n % 32) % 2 ^ n in
    let mask : 1 * 2 ^ bits % 2 ^ 64 ≡ 2 ^ bits = one_shl bits 64 (omega arith) in
    ap (λ m. bit_and (w / 2 ^ (p * bits % 32)) (m - 1)) mask ∙ and_mask (w / 2 ^ (p * bits % 32)) bits
    ∙ ap (λ n. f n w) h.bits_is ∙ ap (f (index_bits bytes b)) (e ∙ ap (word bytes) (value_place-is bytes b table bits values p h))
