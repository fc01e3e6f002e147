-- Indices that are packed into words are unpacked again.
use Rattle.std.proofs.Common.{arith, ◌≡◌, ◌≤◌, ◌<◌, ◌+◌, ◌-◌, ◌*◌, ◌/◌, ◌%◌, ◌^◌, ℕ, zero, suc, Bool, true, false, if◌then◌else◌, nat_le, refl, ap, sym, ◌∙◌, inl, inr, ◌⊎◌}
use Rattle.std.proofs.Math.Nat.{add-mul-div_left, add-mul-mod_self_left, div-eq_of_lt, eq-or-lt_of_le, mod-add-div, mod-eq_of_lt, mod-lt, mul-le-mul_right, mul_comm}
use Rattle.std.proofs.lemmas.Bool.{leb-true}
use Rattle.std.proofs.lemmas.Nat.{div-mul-add, mod-mul-add, mul-add-lt, pow-add, pow_pos}
use Rattle.ig_cseg.specs.Cseg.{is_lawful}
use Rattle.ig_cseg.specs.CsegText.{fewest_bits, packed, value_len}

-- each of the first n indices has so many bits
abbrev pub AllBelow : ℕ → (ℕ → ℕ) → ℕ → Type 0
AllBelow bits index n = (j : ℕ) → j < n → index j < 2 ^ bits

pub packed-below : (bits : ℕ) (index : ℕ → ℕ) (n : ℕ) → AllBelow bits index n → packed bits index n < 2 ^ (bits * n)
packed-below bits index zero small = pow_pos (bits * zero)
packed-below bits index (suc n) small =
    let before = packed-below bits index n (λ j l. small j (omega arith)) in
    let more : index n * 2 ^ (bits * n) + packed bits index n < 2 ^ (bits * n) * 2 ^ bits = mul-add-lt (index n) (2 ^ (bits * n)) (packed bits index n) (2 ^ bits) (small n (omega arith)) before in
    let longer : 2 ^ (bits * suc n) ≡ 2 ^ (bits * n) * 2 ^ bits = ap (λ m. 2 ^ m) (omega arith) ∙ pow-add 2 (bits * n) bits in
    omega (arith, more, longer)

-- the highest index
highest : (low power index bits : ℕ) → low < power → index < 2 ^ bits → (low + power * index) / power % 2 ^ bits ≡ index
highest low power index bits below small =
    let whole : (low + power * index) / power ≡ low / power + index = add-mul-div_left low index (omega arith) in
    let none : low / power ≡ 0 = div-eq_of_lt below in
    ap (λ m. m % 2 ^ bits) (whole ∙ ap (λ m. m + index) none ∙ omega arith) ∙ mod-eq_of_lt small

-- an index that another stands above
lower : (low place size above index : ℕ) → 0 < place → (low + place * (size * above) * index) / place % size ≡ low / place % size
lower low place size above index some =
    let regroup : low + place * (size * above) * index ≡ low + place * (size * (above * index)) = omega arith in
    ap (λ m. m / place % size) regroup ∙ ap (λ m. m % size) (add-mul-div_left low (size * (above * index)) some) ∙ add-mul-mod_self_left (low / place) size (above * index)

unpacked_step : (bits : ℕ) (index : ℕ → ℕ) (n j : ℕ) → AllBelow bits index (suc n) → (j < n → packed bits index n / 2 ^ (bits * j) % 2 ^ bits ≡ index j)
    → (j ≡ n) ⊎ (j < n) → packed bits index (suc n) / 2 ^ (bits * j) % 2 ^ bits ≡ index j
unpacked_step bits index n j small before (inl same) =
    let low = packed-below bits index n (λ j l. small j (omega arith)) in
    ap (λ k. packed bits index (suc n) / 2 ^ (bits * k) % 2 ^ bits) same ∙ highest (packed bits index n) (2 ^ (bits * n)) (index n) bits low (small n (omega arith)) ∙ ap index (sym same)
unpacked_step bits index n j small before (inr l) =
    let between : n ≡ j + (1 + (n - suc j)) = omega arith in
    let parts : bits * n ≡ bits * j + (bits + bits * (n - suc j)) = ap (λ m. bits * m) between ∙ omega arith in
    let power : 2 ^ (bits * n) ≡ 2 ^ (bits * j) * (2 ^ bits * 2 ^ (bits * (n - suc j))) =
    ap (λ m. 2 ^ m) parts ∙ pow-add 2 (bits * j) (bits + bits * (n - suc j)) ∙ ap (λ m. 2 ^ (bits * j) * m) (pow-add 2 bits (bits * (n - suc j))) in
    ap (λ m. (packed bits index n + m * index n) / 2 ^ (bits * j) % 2 ^ bits) power
    ∙ lower (packed bits index n) (2 ^ (bits * j)) (2 ^ bits) (2 ^ (bits * (n - suc j))) (index n) (pow_pos (bits * j))
    ∙ before l

-- index j of a number
pub unpacked : (bits : ℕ) (index : ℕ → ℕ) (n j : ℕ) → AllBelow bits index n → j < n → packed bits index n / 2 ^ (bits * j) % 2 ^ bits ≡ index j
unpacked bits index zero j small l = absurd (omega arith)
unpacked bits index (suc n) j small l =
    unpacked_step bits index n j small (λ m. unpacked bits index n j (λ k h. small k (omega arith)) m) (eq-or-lt_of_le (omega (arith, l)))

-- ---- the word of a position
-- where `per` indices fill a word, position p is in word `p / per`, and `p % per` indices stand below it
pub record IsSplit (bits per p : ℕ) : Type 0 where
  pub word : p * bits / 32 ≡ p / per
  pub below : p * bits % 32 ≡ bits * (p % per)
  pub within : p % per < per

-- indices that fill a word have bits
pub some_bits : (bits per : ℕ) → per * bits ≡ 32 → 1 ≤ bits
some_bits zero per e = absurd (omega (arith, e))
some_bits (suc bits) per e = omega arith

below_by : (bits low high : ℕ) → 1 ≤ bits → low < high → low * bits < high * bits
below_by bits low high some below =
    let whole : suc low * bits ≤ high * bits = mul-le-mul_right bits below in
    omega (arith, whole, some)

rows_of : (p per bits low high : ℕ) → per * bits ≡ 32 → p ≡ low + per * high → p * bits ≡ high * 32 + low * bits
rows_of p per bits low high e whole =
    let turned : high * (per * bits) ≡ high * 32 = ap (λ m. high * m) e in
    ap (λ m. m * bits) whole ∙ omega (arith, turned)

pub split : (bits per p : ℕ) → per * bits ≡ 32 → IsSplit bits per p
split bits zero p e = absurd (omega (arith, e))
split bits (suc per) p e =
    let within : p % suc per < suc per = mod-lt p (omega arith) in
    let some : 1 ≤ bits = some_bits bits (suc per) e in
    let rest : p % suc per * bits < suc per * bits = below_by bits (p % suc per) (suc per) some within in
    let rows : p * bits ≡ p / suc per * 32 + p % suc per * bits = rows_of p (suc per) bits (p % suc per) (p / suc per) e (sym (mod-add-div p (suc per))) in
    record {
      word = ap (λ m. m / 32) rows ∙ div-mul-add (p / suc per) 32 (p % suc per * bits) (omega (arith, rest, e));
      below = ap (λ m. m % 32) rows ∙ mod-mul-add (p / suc per) 32 (p % suc per * bits) (omega (arith, rest, e)) ∙ mul_comm (p % suc per) bits;
      within = within;
    }

-- the word of a position is one of those of all positions
pub value-within : (bits positions p : ℕ) → 1 ≤ bits → p < positions → p * bits / 32 < value_len bits positions
value-within bits positions p some below =
    let whole : suc p * bits ≤ positions * bits = mul-le-mul_right bits below in
    omega (arith, whole, some)

-- ---- the bits of a table
chosen-fill : (a b c d e f : Bool) → let bits : ℕ = if a then 0 else if b then 1 else if c then 2 else if d then 4 else if e then 8 else if f then 16 else 32 in (bits ≡ 0) ⊎ (32 / bits * bits ≡ 32)
chosen-fill true b c d e f = inl refl
chosen-fill false true c d e f = inr refl
chosen-fill false false true d e f = inr refl
chosen-fill false false false true e f = inr refl
chosen-fill false false false false true f = inr refl
chosen-fill false false false false false true = inr refl
chosen-fill false false false false false false = inr refl

-- indices fill a word, if they have bits
pub fewest_bits-fill : (n : ℕ) → (fewest_bits n ≡ 0) ⊎ (32 / fewest_bits n * fewest_bits n ≡ 32)
fewest_bits-fill n = chosen-fill (nat_le n 1) (nat_le n 2) (nat_le n 4) (nat_le n 16) (nat_le n 256) (nat_le n 65536)

chosen-lawful : (a b c d e f : Bool) → is_lawful (if a then 0 else if b then 1 else if c then 2 else if d then 4 else if e then 8 else if f then 16 else 32) ≡ true
chosen-lawful true b c d e f = refl
chosen-lawful false true c d e f = refl
chosen-lawful false false true d e f = refl
chosen-lawful false false false true e f = refl
chosen-lawful false false false false true f = refl
chosen-lawful false false false false false true = refl
chosen-lawful false false false false false false = refl

pub fewest_bits-lawful : (n : ℕ) → is_lawful (fewest_bits n) ≡ true
fewest_bits-lawful n = chosen-lawful (nat_le n 1) (nat_le n 2) (nat_le n 4) (nat_le n 16) (nat_le n 256) (nat_le n 65536)

chosen-room : (n : ℕ) (a b c d e f : Bool) → nat_le n 1 ≡ a → nat_le n 2 ≡ b → nat_le n 4 ≡ c → nat_le n 16 ≡ d → nat_le n 256 ≡ e → nat_le n 65536 ≡ f → n ≤ 2 ^ 32
    → n ≤ 2 ^ (if a then 0 else if b then 1 else if c then 2 else if d then 4 else if e then 8 else if f then 16 else 32)
chosen-room n true b c d e f p q r s t u most = leb-true n 1 p
chosen-room n false true c d e f p q r s t u most = leb-true n 2 q
chosen-room n false false true d e f p q r s t u most = leb-true n 4 r
chosen-room n false false false true e f p q r s t u most = leb-true n 16 s
chosen-room n false false false false true f p q r s t u most = leb-true n 256 t
chosen-room n false false false false false true p q r s t u most = leb-true n 65536 u
chosen-room n false false false false false false p q r s t u most = most

-- and each index of the table has so many bits
pub fewest_bits-room : (n : ℕ) → n ≤ 2 ^ 32 → n ≤ 2 ^ fewest_bits n
fewest_bits-room n most = chosen-room n (nat_le n 1) (nat_le n 2) (nat_le n 4) (nat_le n 16) (nat_le n 256) (nat_le n 65536) refl refl refl refl refl refl most
