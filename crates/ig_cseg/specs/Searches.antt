-- Searches below a number.
use Rattle.std.proofs.Common.{arith, ◌≡◌, ◌<◌, ℕ, zero, suc, ◌+◌, add-one, Bool, true, false, refl, inl, inr, ◌⊎◌, ap, ◌∙◌, sym}
use Rattle.std.proofs.Math.Nat.{eq-or-lt_of_le}
use Rattle.std.proofs.lemmas.Bool.{or_cases, or_from, or_left, or_parts, or_right}
use Rattle.ig_cseg.specs.Cseg.{some_below}

-- none passes the test
pub none-below : (t : ℕ → Bool) (n : ℕ) → ((k : ℕ) → k < n → t k ≡ false) → some_below t n ≡ false
none-below t zero h = refl
none-below t (suc n) h = or_from (t n) (some_below t n) (h n (omega arith)) (none-below t n (λ k l. h k (omega arith)))

last_or_before : (t : ℕ → Bool) (n k : ℕ) (v : Bool) → t n ≡ v → (k < n → t k ≡ v) → (k ≡ n) ⊎ (k < n) → t k ≡ v
last_or_before t n k v last before (inl same) = ap t same ∙ last
last_or_before t n k v last before (inr l) = before l

pub below-none : (t : ℕ → Bool) (n : ℕ) → some_below t n ≡ false → (k : ℕ) → k < n → t k ≡ false
below-none t zero e k l = absurd (omega arith)
below-none t (suc n) e k l =
    let p = or_parts (t n) (some_below t n) e in
    last_or_before t n k false p.0 (below-none t n p.1 k) (eq-or-lt_of_le (omega (arith, l)))

passes : (t : ℕ → Bool) (n k : ℕ) → t k ≡ true → (k < n → some_below t n ≡ true) → (k ≡ n) ⊎ (k < n) → some_below t (suc n) ≡ true
passes t n k own before (inl same) = or_left (t n) (some_below t n) (ap t (sym same) ∙ own)
passes t n k own before (inr l) = or_right (t n) (some_below t n) (before l)

-- one passes it
pub some-below : (t : ℕ → Bool) (n k : ℕ) → k < n → t k ≡ true → some_below t n ≡ true
some-below t zero k l own = absurd (omega arith)
some-below t (suc n) k l own = passes t n k own (λ m. some-below t n k m own) (eq-or-lt_of_le (omega (arith, l)))

abbrev pub Found : (ℕ → Bool) → ℕ → Type 0
Found t n = (k : ℕ) × (k < n) × (t k ≡ true)

further : (t : ℕ → Bool) (n : ℕ) → Found t n → Found t (suc n)
further t n f = (f.0, omega (arith, f.1), f.2)

at_last : (t : ℕ → Bool) (n : ℕ) → (some_below t n ≡ true → Found t n) → (t n ≡ true) ⊎ (some_below t n ≡ true) → Found t (suc n)
at_last t n before (inl own) = (n, omega arith, own)
at_last t n before (inr e) = further t n (before e)

-- which one
pub below-some : (t : ℕ → Bool) (n : ℕ) → some_below t n ≡ true → Found t n
below-some t zero e = absurd (cc)
below-some t (suc n) e = at_last t n (below-some t n) (or_cases (t n) (some_below t n) e)

-- the first ones and one more
pub none-more : (t : ℕ → Bool) (n : ℕ) → some_below t n ≡ false → t n ≡ false → some_below t (n + 1) ≡ false
none-more t n before own = ap (some_below t) (add-one n) ∙ or_from (t n) (some_below t n) own before
