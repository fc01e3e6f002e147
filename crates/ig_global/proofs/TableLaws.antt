-- Laws on the least first values of classes, and on how many are below a bound.
use Rattle.std.proofs.Common.{ℕ, zero, suc, ◌+◌, ◌-◌, ◌^◌, ◌<◌, ◌≤◌, Bool, true, false, ◌≡◌, cond, min, ◌&&◌, eqb, ltb, List, [], ◌∷◌, ◌++◌, length, get_or, refl, sym, ap, ◌∙◌, ◌⊎◌, inl, inr, arith}
use Rattle.std.specs.Prelude.{count_by}
use Rattle.std.proofs.lemmas.Bool.{and_left, eq-eqb, ne_eqb, cases_eq, cond-true, cond-false, false≢true}
use Rattle.std.proofs.lemmas.List.Sums.{sum_by-cons, sum_by_push}
use Rattle.ig_graph.specs.Counts.{how_many}
use Rattle.ig_graph.specs.CountLaws.{how_many-pass}
use Rattle.ig_graph.specs.Numbers.{lowest, first_of_class, is_class_before, number_of}
use Rattle.ig_global.proofs.NumberedLaws.{same-count}
use Rattle.ig_global.specs.Numbers.{AreBelow, HaveLeast, HaveTallies, number_by}

-- ---- the lowest value
lowest_min : (test : ℕ → Bool) (value : ℕ → ℕ) (n other x : ℕ) → lowest test value n (min other x) ≡ min x (lowest test value n other)
lowest_min test value zero other x = omega arith
lowest_min test value (suc n) other x = by_test (test n) (lowest_min test value n other x) where
  by_test : (b : Bool) → lowest test value n (min other x) ≡ min x (lowest test value n other)
      → cond b (min (value n) (lowest test value n (min other x))) (lowest test value n (min other x)) ≡ min x (cond b (min (value n) (lowest test value n other)) (lowest test value n other))
  by_test true e = omega (arith, e)
  by_test false e = e

lowest_le : (test : ℕ → Bool) (value : ℕ → ℕ) (n other i : ℕ) → i < n → test i ≡ true → lowest test value n other ≤ value i
lowest_le test value zero other i l t = absurd (omega arith)
lowest_le test value (suc n) other i l t = by_case (test n) refl (cases_eq i n) (λ k. lowest_le test value n other i k t) where
  by_case : (b : Bool) → test n ≡ b → (i ≡ n) ⊎ (i ≡ n → ⊥) → (i < n → lowest test value n other ≤ value i)
      → cond b (min (value n) (lowest test value n other)) (lowest test value n other) ≤ value i
  by_case true e (inl s) less = omega (arith, ap value s)
  by_case true e (inr o) less = omega (arith, less (omega arith))
  by_case false e (inl s) less = absurd (false≢true (sym e ∙ ap test (sym s) ∙ t))
  by_case false e (inr o) less = less (omega arith)

-- one that passes may stand in for a greater `other`
pub lowest-from : (test : ℕ → Bool) (value : ℕ → ℕ) (n other i : ℕ) → i < n → test i ≡ true → value i ≤ other → lowest test value n other ≡ lowest test value n (value i)
lowest-from test value n other i l t le =
    let e : value i ≡ min other (value i) = omega arith in
    let low = lowest_le test value n other i l t in
    let same : lowest test value n (value i) ≡ min (value i) (lowest test value n other) = ap (lowest test value n) e ∙ lowest_min test value n other (value i) in
    omega (arith, same, low)

-- ---- tallies
-- where the first i pass and no other, i pass
pub count-split : (p : ℕ → Bool) (xs : List ℕ) (i : ℕ) → i ≤ length xs → ((k : ℕ) → k < i → p (get_or xs k 0) ≡ true)
    → ((k : ℕ) → i ≤ k → k < length xs → p (get_or xs k 0) ≡ false) → count_by p xs ≡ i
count-split p [] i le pass fail = omega arith
count-split p (x ∷ xs) zero le pass fail =
    let one = cond-false {A = ℕ} (p x) 1 0 (fail 0 (omega arith) (omega arith)) in
    let rest = count-split p xs 0 (omega arith) (λ k l. absurd (omega arith)) (λ k from to. fail (suc k) (omega arith) (omega arith)) in
    omega (arith, sum_by-cons (λ y. cond (p y) 1 0) x xs, one, rest)
count-split p (x ∷ xs) (suc i) le pass fail =
    let one = cond-true {A = ℕ} (p x) 1 0 (pass 0 (omega arith)) in
    let rest = count-split p xs i (omega arith) (λ k l. pass (suc k) (omega arith)) (λ k from to. fail (suc k) (omega arith) (omega arith)) in
    omega (arith, sum_by-cons (λ y. cond (p y) 1 0) x xs, one, rest)

-- the node stands for its class, and has a value below the bound
abbrev is_tallied : List ℕ → List ℕ → ℕ → ℕ → Bool
is_tallied classes least bound a = eqb (get_or classes a 0) a && ltb (get_or least a 0) bound

tally_step : (test : ℕ → Bool) (n count : ℕ) (b : Bool) → test n ≡ b → count ≡ how_many test n → count + cond b 1 0 ≡ how_many test (n + 1)
tally_step test n count true t e =
    let one : n + 1 ≡ suc n = omega arith in
    omega (arith, e, how_many-pass test n t, ap (how_many test) one)
tally_step test n count false t e =
    let one : n + 1 ≡ suc n = omega arith in
    omega (arith, e, cond-false (test n) (suc (how_many test n)) (how_many test n) t, ap (how_many test) one)

pub tallies-push : (classes least ascending : List ℕ) (n : ℕ) → HaveTallies classes least n ascending → get_or classes n 0 ≡ n
    → HaveTallies classes least (n + 1) (ascending ++ get_or least n 0 ∷ [])
tallies-push classes least ascending n is e bound =
    let value = get_or least n 0 in
    let test = ap (λ b. b && ltb value bound) (eq-eqb (get_or classes n 0) n e) in
    sum_by_push (λ x. cond (ltb x bound) 1 0) ascending value
    ∙ tally_step (is_tallied classes least bound) n (count_by (λ x. ltb x bound) ascending) (ltb value bound) test (is bound)

-- ---- numbers
module _ (classes firsts least : List ℕ) (below : AreBelow classes) (fit : (a : ℕ) → get_or firsts a 0 ≤ 2 ^ 64 - 1) (is : HaveLeast classes firsts (length classes) least) where
  least-first : (a : ℕ) → a < length classes
      → get_or least (get_or classes a 0) 0 ≡ first_of_class (λ b. get_or classes b 0) (λ b. get_or firsts b 0) (length classes) a
  least-first a l =
      is.each (get_or classes a 0) (below a l)
      ∙ lowest-from (λ b. eqb (get_or classes b 0) (get_or classes a 0)) (λ b. get_or firsts b 0) (length classes) (2 ^ 64 - 1) a l
      (eq-eqb (get_or classes a 0) (get_or classes a 0) refl) (fit a)

  same-test : (a b : ℕ) → a < length classes → b < length classes
      → (eqb (get_or classes b 0) b && ltb (get_or least b 0) (get_or least (get_or classes a 0) 0))
      ≡ is_class_before (λ c. get_or classes c 0) (λ c. get_or firsts c 0) (length classes) (first_of_class (λ c. get_or classes c 0) (λ c. get_or firsts c 0) (length classes) a) b
  same-test a b la lb = by_case (cases_eq (get_or classes b 0) b) where
    by_case : (get_or classes b 0 ≡ b) ⊎ (get_or classes b 0 ≡ b → ⊥)
        → (eqb (get_or classes b 0) b && ltb (get_or least b 0) (get_or least (get_or classes a 0) 0))
        ≡ is_class_before (λ c. get_or classes c 0) (λ c. get_or firsts c 0) (length classes) (first_of_class (λ c. get_or classes c 0) (λ c. get_or firsts c 0) (length classes) a) b
    by_case (inl e) =
        let here = ap (λ k. get_or least k 0) (sym e) ∙ least-first b lb in
        let there = least-first a la in
        λ i. eqb (get_or classes b 0) b && ltb (here i) (there i)
    by_case (inr o) = and_left _ _ (ne_eqb (get_or classes b 0) b o) ∙ sym (and_left _ _ (ne_eqb (get_or classes b 0) b o))

  pub number-is : (a : ℕ) → a < length classes → number_by classes least a ≡ number_of (λ b. get_or classes b 0) (λ b. get_or firsts b 0) (length classes) a
  number-is a l =
      ap suc (same-count (λ b. eqb (get_or classes b 0) b && ltb (get_or least b 0) (get_or least (get_or classes a 0) 0))
      (is_class_before (λ c. get_or classes c 0) (λ c. get_or firsts c 0) (length classes) (first_of_class (λ c. get_or classes c 0) (λ c. get_or firsts c 0) (length classes) a))
      (length classes) (λ b lb. same-test a b l lb))
