-- The numbers below a bound that pass a test.
use Rattle.std.specs.Prelude.{ℕ, zero, suc, ◌<◌, Bool, true, ◌≡◌, if◌then◌else◌, List, [], ◌∷◌, ◌++◌}

-- how many numbers below n pass
abbrev pub how_many : (ℕ → Bool) → ℕ → ℕ
how_many test zero = zero
how_many test (suc n) = if test n then suc (how_many test n) else how_many test n

-- the numbers below n that pass, ascending
abbrev pub those_below : (ℕ → Bool) → ℕ → List ℕ
those_below test zero = []
those_below test (suc n) = if test n then those_below test n ++ n ∷ [] else those_below test n

-- the least number below n that passes, else `other`
abbrev pub first_below : (ℕ → Bool) → ℕ → ℕ → ℕ
first_below test zero other = other
first_below test (suc n) other = first_below test n (if test n then n else other)

-- f takes each number below n that passes p to one below m that passes q, and no two of them to the same.
pub record IsInjection (p : ℕ → Bool) (n : ℕ) (q : ℕ → Bool) (m : ℕ) (f : ℕ → ℕ) : Type 0 where
  pub below : (i : ℕ) → i < n → p i ≡ true → f i < m
  pub passes : (i : ℕ) → i < n → p i ≡ true → q (f i) ≡ true
  pub apart : (i j : ℕ) → i < n → j < n → p i ≡ true → p j ≡ true → f i ≡ f j → i ≡ j
