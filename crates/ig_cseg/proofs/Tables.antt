-- Tables that lie in the file.
use Rattle.std.proofs.Common.{arith, ◌≡◌, ◌≤◌, ◌<◌, ◌+◌, ◌*◌, ◌/◌, ◌%◌, ◌^◌, ℕ, List, true, false, not, nat_lt, ◌==◌, ◌&&◌, ap, sym, ◌∙◌}
use Rattle.std.proofs.Math.Nat.{mod-eq_of_lt, mod-lt, mul_comm, pow-le-pow_right}
use Rattle.std.proofs.lemmas.Bool.{le-ltb, lt-ltb, ltb-false, ltb-true, ne_eqb}
use Rattle.std.proofs.lemmas.Nat.{mul-le, pow_pos, row_fits}
use Rattle.ig_space.specs.declared.point.Point.{Point}
use Rattle.ig_space.specs.Geometry.{count}
use Rattle.ig_cseg.specs.Cseg.{channel, entry_place, index_at, index_bits, is_outside, position_in, some_below, table_outside, table_place, value_place, values_outside, word, word_count}
use Rattle.ig_cseg.specs.Blocks.{HasValues, IsClip, IsHeader, row_count, row_position}
use Rattle.ig_cseg.proofs.Positions.{last_number, last_number-below}
use Rattle.ig_cseg.proofs.Rows.{row_voxel}
use Rattle.ig_cseg.proofs.Searches.{below-none, none-below, some-below}

-- a whole table is small
pub table_small : (n bits : ℕ) → n ≤ 2 → bits ≤ 32 → n * 2 ^ bits ≤ 2 ^ 33
table_small n bits few most =
    let power : 2 ^ bits ≤ 2 ^ 32 = pow-le-pow_right (omega arith) most in
    let all = mul-le n (2 ^ bits) 2 (2 ^ 32) few power in
    omega (arith, all)

pub table_whole : (n bits : ℕ) → n ≤ 2 → bits ≤ 32 → n * 2 ^ bits % 2 ^ 64 ≡ n * 2 ^ bits
table_whole n bits few most =
    let small = table_small n bits few most in
    mod-eq_of_lt (omega (arith, small))

-- an index is below the power of 2 of its bits
index-below : (bytes : List ℕ) (b p : ℕ) → index_at bytes b p < 2 ^ index_bits bytes b
index-below bytes b p = mod-lt (word bytes (channel bytes + value_place bytes b p) / 2 ^ (p * index_bits bytes b % 32)) (pow_pos (index_bits bytes b))

entry-within : (n : ℕ) (bytes : List ℕ) (b p : ℕ) → entry_place n bytes b p + n ≤ table_place bytes b + n * 2 ^ index_bits bytes b
entry-within n bytes b p =
    let fits : index_at bytes b p * n + n ≤ 2 ^ index_bits bytes b * n = row_fits (index_at bytes b p) n (2 ^ index_bits bytes b) n (index-below bytes b p) (omega arith) in
    omega (arith, fits, mul_comm n (index_at bytes b p), mul_comm n (2 ^ index_bits bytes b))

-- where a table with an entry for each index lies in the file, no entry is outside
pub table-inside : (n : ℕ) (bytes : List ℕ) (b table bits values : ℕ) (block clip : Point) → IsHeader bytes b table bits values → n ≤ 2 → bits ≤ 32
    → nat_lt (word_count bytes) (table + n * 2 ^ bits % 2 ^ 64) ≡ false → false ≡ table_outside block clip n bytes b
table-inside n bytes b table bits values block clip h few most e =
    let whole : table + n * 2 ^ bits % 2 ^ 64 ≤ word_count bytes = ltb-false _ _ e in
    let same = table_whole n bits few most in
    let power = ap (λ m. n * 2 ^ m) h.bits_is in
    sym (none-below (λ k. is_outside bytes n (entry_place n bytes b (position_in block clip k))) (count clip)
    (λ k l. let own = entry-within n bytes b (position_in block clip k) in
    le-ltb _ _ (omega (arith, whole, same, power, own, h.table_is))))

-- with 0 bits there is one entry
pub entry-outside : (n : ℕ) (bytes : List ℕ) (b table bits values : ℕ) (size block lo clip : Point) → IsHeader bytes b table bits values → IsClip size block lo clip
    → n ≤ 2 → bits ≡ 0 → nat_lt (word_count bytes) (table + n * 2 ^ bits % 2 ^ 64) ≡ true → true ≡ table_outside block clip n bytes b
entry-outside n bytes b table bits values size block lo clip h k few none e =
    let beyond : word_count bytes < table + n * 2 ^ bits % 2 ^ 64 = ltb-true _ _ e in
    let same = table_whole n bits few (omega arith) in
    let power : n * 2 ^ bits ≡ n * 1 = ap (λ m. n * 2 ^ m) none in
    let p = position_in block clip (last_number clip) in
    sym (some-below (λ k. is_outside bytes n (entry_place n bytes b (position_in block clip k))) (count clip) (last_number clip) (last_number-below size block lo clip k)
    (lt-ltb _ _ (omega (arith, beyond, same, power, h.table_is))))

-- the values of each row lie in the file
pub row-values : (bytes : List ℕ) (b bits : ℕ) (block clip : Point) → bits ≡ index_bits bytes b → (bits ≡ 0 → ⊥) → values_outside block clip bytes b ≡ false
    → (r : ℕ) → r < row_count clip → HasValues bytes b (row_position block clip r) clip.x
row-values bytes b bits block clip is some e r below x l =
    let S = some_below (λ k. is_outside bytes 1 (value_place bytes b (position_in block clip k))) (count clip) in
    let bare : (index_bits bytes b == 0) ≡ false = ne_eqb (index_bits bytes b) 0 (λ z. some (is ∙ z)) in
    let none : S ≡ false = sym (ap (λ t. not t && S) bare) ∙ e in
    let v = row_voxel block clip r x below l in
    let own = below-none (λ k. is_outside bytes 1 (value_place bytes b (position_in block clip k))) (count clip) none (x + clip.x * r) v.below in
    let within = ltb-false _ _ own in
    let same = ap (value_place bytes b) v.position in
    omega (arith, within, same)
