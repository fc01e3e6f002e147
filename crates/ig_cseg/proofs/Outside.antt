-- Which blocks have values or entries outside the file.
use Rattle.std.proofs.Common.{arith, ◌≡◌, ◌≤◌, ◌<◌, ◌+◌, ◌*◌, ◌/◌, ℕ, List, Bool, true, false, not, nat_lt, ◌==◌, ◌&&◌, sym, ap, ◌∙◌, inl, inr, ◌⊎◌}
use Rattle.std.proofs.Math.Nat.{mul-le-mul_right}
use Rattle.std.proofs.lemmas.Bool.{cases_Bool, le-ltb, lt-ltb, ltb-false, ltb-true, ne_eqb}
use Rattle.ig_space.specs.declared.point.Point.{Point}
use Rattle.ig_space.specs.Geometry.{count}
use Rattle.ig_cseg.specs.Cseg.{channel, index_bits, is_outside, position_in, some_below, value_place, values_outside, word_count}
use Rattle.ig_cseg.specs.Blocks.{IsClip, IsHeader, last_position}
use Rattle.ig_cseg.proofs.Indices.{value_place-is}
use Rattle.ig_cseg.proofs.Positions.{last_number, last_number-below, position-last, position-most}
use Rattle.ig_cseg.proofs.Searches.{none-below, some-below}

-- the values of larger positions come later
value_place-rises : (bytes : List ℕ) (b p q : ℕ) → p ≤ q → value_place bytes b p ≤ value_place bytes b q
value_place-rises bytes b p q h =
    let bits : p * index_bits bytes b ≤ q * index_bits bytes b = mul-le-mul_right (index_bits bytes b) h in
    omega arith

some-values : (bytes : List ℕ) (b last : ℕ) (block clip : Point) (size lo : Point) → IsClip size block lo clip → last ≡ last_position block clip → (r : Bool)
    → r ≡ nat_lt (word_count bytes) (channel bytes + value_place bytes b last + 1) → (r ≡ true) ⊎ (r ≡ false)
    → r ≡ some_below (λ k. is_outside bytes 1 (value_place bytes b (position_in block clip k))) (count clip)
some-values bytes b last block clip size lo h is r e (inl out) =
    let beyond : word_count bytes < channel bytes + value_place bytes b last + 1 = ltb-true _ _ (sym e ∙ out) in
    let own : value_place bytes b (position_in block clip (last_number clip)) ≡ value_place bytes b last = ap (value_place bytes b) (position-last size block lo clip h ∙ sym is) in
    out ∙ sym (some-below (λ k. is_outside bytes 1 (value_place bytes b (position_in block clip k))) (count clip) (last_number clip) (last_number-below size block lo clip h)
    (lt-ltb _ _ (omega (arith, beyond, own))))
some-values bytes b last block clip size lo h is r e (inr fine) =
    let within : channel bytes + value_place bytes b last + 1 ≤ word_count bytes = ltb-false _ _ (sym e ∙ fine) in
    fine ∙ sym (none-below (λ k. is_outside bytes 1 (value_place bytes b (position_in block clip k))) (count clip)
    (λ k l. let most = value_place-rises bytes b (position_in block clip k) last (omega (arith, position-most size block lo clip k h l, is)) in
    le-ltb _ _ (omega (arith, within, most))))

-- the comparison with the last position finds whether some voxel has its word outside
pub values_outside-is : (bytes : List ℕ) (b table bits values last : ℕ) (size block lo clip : Point) (r : Bool) → IsHeader bytes b table bits values → IsClip size block lo clip
    → last ≡ last_position block clip → (bits ≡ 0 → ⊥) → r ≡ nat_lt (word_count bytes) (values + last * bits / 32 + 1) → r ≡ values_outside block clip bytes b
values_outside-is bytes b table bits values last size block lo clip r h k is some e =
    let bare : (index_bits bytes b == 0) ≡ false = ne_eqb (index_bits bytes b) 0 (λ z. some (h.bits_is ∙ z)) in
    let at = ap (λ n. nat_lt (word_count bytes) (n + 1)) (value_place-is bytes b table bits values last h) in
    some-values bytes b last block clip size lo k is r (e ∙ at) (cases_Bool r)
    ∙ ap (λ t. not t && some_below (λ k. is_outside bytes 1 (value_place bytes b (position_in block clip k))) (count clip)) (sym bare)
