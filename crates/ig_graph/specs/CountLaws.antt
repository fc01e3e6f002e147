-- Laws on counting, and on the first number that passes.
use Rattle.std.proofs.Common.{ℕ, zero, suc, ◌+◌, ◌<◌, ◌≤◌, Bool, true, false, ◌≡◌, cond, [], ◌∷◌, ◌++◌, length, refl, sym, ap, ◌∙◌, subst, ◌⊎◌, inl, inr, arith, length-append, ◌-◌}
use Rattle.std.proofs.lemmas.Bool.{false≢true, cases_eq, cases_order}
use Rattle.ig_graph.specs.Counts.{how_many, those_below, first_below}

-- r is the first number below n that passes, or none does and r is `other`
pub data IsFirst (test : ℕ → Bool) (n other : ℕ) : ℕ → Type 0 where
  passes : {r : ℕ} → r < n → test r ≡ true → ((i : ℕ) → i < r → test i ≡ false) → IsFirst test n other r
  none : ((i : ℕ) → i < n → test i ≡ false) → IsFirst test n other other

no_more : (test : ℕ → Bool) (n : ℕ) → ((i : ℕ) → i < n → test i ≡ false) → test n ≡ false → (i : ℕ) → i < suc n → test i ≡ false
no_more test n h e i l = by_case (cases_eq i n) where
  by_case : (i ≡ n) ⊎ (i ≡ n → ⊥) → test i ≡ false
  by_case (inl same) = ap test same ∙ e
  by_case (inr other) = h i (omega arith)

first_more : (test : ℕ → Bool) (n other r : ℕ) (b : Bool) → test n ≡ b → IsFirst test n (cond b n other) r → IsFirst test (suc n) other r
first_more test n other r true e (passes l t h) = passes (omega arith) t h
first_more test n other r true e (none h) = passes (omega arith) e h
first_more test n other r false e (passes l t h) = passes (omega arith) t h
first_more test n other r false e (none h) = none (no_more test n h e)

pub first_below-is : (test : ℕ → Bool) (n other : ℕ) → IsFirst test n other (first_below test n other)
first_below-is test zero other = none (λ i l. absurd (omega arith))
first_below-is test (suc n) other = first_more test n other (first_below test n (cond (test n) n other)) (test n) refl (first_below-is test n (cond (test n) n other))

-- where some number below n passes, the first one is below n, passes, and is no greater
pub record IsFound (test : ℕ → Bool) (n r i : ℕ) : Type 0 where
  pub below : r < n
  pub passes : test r ≡ true
  pub least : r ≤ i

found_first : (test : ℕ → Bool) (n other r i : ℕ) → IsFirst test n other r → i < n → test i ≡ true → IsFound test n r i
found_first test n other r i (passes l t h) below e = record { below = l; passes = t; least = by_case (cases_order r i) } where
  by_case : (r ≡ i) ⊎ ((r < i) ⊎ (i < r)) → r ≤ i
  by_case (inl same) = omega arith
  by_case (inr (inl less)) = omega arith
  by_case (inr (inr more)) = absurd (false≢true (sym (h i more) ∙ e))
found_first test n other r i (none h) below e = absurd (false≢true (sym (h i below) ∙ e))

pub first_below-found : (test : ℕ → Bool) (n other i : ℕ) → i < n → test i ≡ true → IsFound test n (first_below test n other) i
first_below-found test n other i below e = found_first test n other _ i (first_below-is test n other) below e

-- ---- how many
count_more : (test : ℕ → Bool) (n : ℕ) (b : Bool) → test n ≡ b → how_many test n ≤ cond b (suc (how_many test n)) (how_many test n)
count_more test n true e = omega arith
count_more test n false e = omega arith

pub how_many-suc : (test : ℕ → Bool) (n : ℕ) → how_many test n ≤ how_many test (suc n)
how_many-suc test n = count_more test n (test n) refl

count_most : (test : ℕ → Bool) (n : ℕ) (b : Bool) → cond b (suc (how_many test n)) (how_many test n) ≤ suc (how_many test n)
count_most test n true = omega arith
count_most test n false = omega arith

-- no more pass than there are
pub how_many-bound : (test : ℕ → Bool) (n : ℕ) → how_many test n ≤ n
how_many-bound test zero = omega arith
how_many-bound test (suc n) = omega (arith, how_many-bound test n, count_most test n (test n))

-- a greater bound has no fewer
pub how_many-mono : (test : ℕ → Bool) (n d : ℕ) → how_many test n ≤ how_many test (d + n)
how_many-mono test n zero = let e : 0 + n ≡ n = omega arith in rw e (omega arith)
how_many-mono test n (suc d) =
    let e : suc d + n ≡ suc (d + n) = omega arith in
    rw e (omega (arith, how_many-mono test n d, how_many-suc test (d + n)))

pub how_many-le : (test : ℕ → Bool) (m n : ℕ) → m ≤ n → how_many test m ≤ how_many test n
how_many-le test m n h = let e : (n - m) + m ≡ n = omega arith in subst (λ k. how_many test m ≤ how_many test k) e (how_many-mono test m (n - m))

pub how_many-pass : (test : ℕ → Bool) (n : ℕ) → test n ≡ true → how_many test (suc n) ≡ suc (how_many test n)
how_many-pass test n e = ap (λ b. cond b (suc (how_many test n)) (how_many test n)) e

-- a number that passes counts for each greater one
pub how_many-less : (test : ℕ → Bool) (m n : ℕ) → m < n → test m ≡ true → how_many test m < how_many test n
how_many-less test m n h e = omega (arith, how_many-le test (suc m) n (omega arith), how_many-pass test m e)

-- ---- those below
listed_length : (test : ℕ → Bool) (n : ℕ) (b : Bool) → length (those_below test n) ≡ how_many test n
    → length (cond b (those_below test n ++ n ∷ []) (those_below test n)) ≡ cond b (suc (how_many test n)) (how_many test n)
listed_length test n true h = length-append (those_below test n) (n ∷ []) ∙ omega arith
listed_length test n false h = h

pub length-those_below : (test : ℕ → Bool) (n : ℕ) → length (those_below test n) ≡ how_many test n
length-those_below test zero = refl
length-those_below test (suc n) = listed_length test n (test n) (length-those_below test n)

pub those_below-pass : (test : ℕ → Bool) (n : ℕ) → test n ≡ true → those_below test (suc n) ≡ those_below test n ++ n ∷ []
those_below-pass test n e = ap (λ b. cond b (those_below test n ++ n ∷ []) (those_below test n)) e

pub those_below-fail : (test : ℕ → Bool) (n : ℕ) → test n ≡ false → those_below test (suc n) ≡ those_below test n
those_below-fail test n e = ap (λ b. cond b (those_below test n ++ n ∷ []) (those_below test n)) e

-- a greater bound adds nothing where none of the numbers between passes
pub those_below-none : (test : ℕ → Bool) (n d : ℕ) → ((i : ℕ) → n ≤ i → i < d + n → test i ≡ false) → those_below test (d + n) ≡ those_below test n
those_below-none test n zero h = ap (those_below test) (omega arith)
those_below-none test n (suc d) h =
    let e : suc d + n ≡ suc (d + n) = omega arith in
    ap (those_below test) e ∙ those_below-fail test (d + n) (h (d + n) (omega arith) (omega arith)) ∙ those_below-none test n d (λ i from to. h i from (omega arith))

pub those_below-upto : (test : ℕ → Bool) (m n : ℕ) → m ≤ n → ((i : ℕ) → m ≤ i → i < n → test i ≡ false) → those_below test n ≡ those_below test m
those_below-upto test m n le h =
    let e : (n - m) + m ≡ n = omega arith in
    ap (those_below test) (sym e) ∙ those_below-none test m (n - m) (λ i from to. h i from (omega arith))
