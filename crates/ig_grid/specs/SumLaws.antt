-- Laws on sums, on the numbers of pairs, and on lists of the numbers that pass.
use Rattle.std.proofs.Common.{ℕ, zero, suc, ◌+◌, ◌-◌, ◌<◌, ◌≤◌, Bool, true, false, ◌≡◌, cond, [], ◌∷◌, ◌++◌, get_or, refl, sym, ap, ◌∙◌, subst, ◌⊎◌, inl, inr, arith}
use Rattle.std.specs.Prelude.{nat_lt}
use Rattle.std.proofs.lemmas.Bool.{ltb-true, ltb-false, lt-ltb, cases_eq, cases_lt, false≢true}
use Rattle.std.proofs.lemmas.List.{get_or_append_left, get_or_push}
use Rattle.ig_graph.specs.Counts.{how_many, those_below}
use Rattle.ig_graph.specs.CountLaws.{IsFirst, passes, none, first_below-is, first_below-found, how_many-less, length-those_below}
use Rattle.ig_grid.specs.Sums.{sum_below, pair_first, pair_rank, some_below}

-- ---- some number passes
some_last : (test : ℕ → Bool) (n : ℕ) (b : Bool) → test n ≡ b → cond b true (some_below test n) ≡ true
    → (some_below test n ≡ true → (i : ℕ) × (i < n) × (test i ≡ true)) → (i : ℕ) × (i < suc n) × (test i ≡ true)
some_last test n true e h less = (n, omega arith, e)
some_last test n false e h less = let w = less h in (w.0, omega (arith, w.1), w.2)

pub some-found : (test : ℕ → Bool) (n : ℕ) → some_below test n ≡ true → (i : ℕ) × (i < n) × (test i ≡ true)
some-found test zero h = absurd (false≢true h)
some-found test (suc n) h = some_last test n (test n) refl h (some-found test n)

cond_same : (b : Bool) → cond b true true ≡ true
cond_same true = refl
cond_same false = refl

some_more : (test : ℕ → Bool) (n i : ℕ) → i < suc n → test i ≡ true → (i < n → some_below test n ≡ true) → (i ≡ n) ⊎ (i ≡ n → ⊥) → some_below test (suc n) ≡ true
some_more test n i l e less (inl s) = ap (λ b. cond b true (some_below test n)) (sym (ap test s) ∙ e)
some_more test n i l e less (inr o) = ap (λ b. cond (test n) true b) (less (omega arith)) ∙ cond_same (test n)

pub some-is : (test : ℕ → Bool) (n i : ℕ) → i < n → test i ≡ true → some_below test n ≡ true
some-is test zero i l e = absurd (omega arith)
some-is test (suc n) i l e = some_more test n i l e (λ k. some-is test n i k e) (cases_eq i n)

-- ---- sums rise
sum_up : (many : ℕ → ℕ) (n d : ℕ) → sum_below many n ≤ sum_below many (d + n)
sum_up many n zero = let e : 0 + n ≡ n = omega arith in rw e (omega arith)
sum_up many n (suc d) = let e : suc d + n ≡ suc (d + n) = omega arith in rw e (omega (arith, sum_up many n d))

pub sum-le : (many : ℕ → ℕ) (m n : ℕ) → m ≤ n → sum_below many m ≤ sum_below many n
sum-le many m n h = let e : (n - m) + m ≡ n = omega arith in subst (λ k. sum_below many m ≤ sum_below many k) e (sum_up many m (n - m))

-- what a number has comes before each greater one
pub sum-room : (many : ℕ → ℕ) (k n : ℕ) → k < n → sum_below many k + many k ≤ sum_below many n
sum-room many k n h = sum-le many (suc k) n (omega arith)

-- ---- numbers of pairs
pub pair-number : (many : ℕ → ℕ) (n k r : ℕ) → k < n → r < many k → sum_below many k + r < sum_below many n
pair-number many n k r l h = omega (arith, sum-room many k n l)

first_same : (many : ℕ → ℕ) (k r i : ℕ) → sum_below many k + r < sum_below many (suc i) → i ≤ k → (i < k) ⊎ (k ≤ i) → i ≡ k
first_same many k r i h low (inl l) = absurd (omega (arith, sum-le many (suc i) k l))
first_same many k r i h low (inr m) = omega arith

pub pair-first : (many : ℕ → ℕ) (n k r : ℕ) → k < n → r < many k → pair_first many n (sum_below many k + r) ≡ k
pair-first many n k r l h =
    let a = sum_below many k + r in
    let test : ℕ → Bool = λ i. nat_lt a (sum_below many (suc i)) in
    let here : a < sum_below many (suc k) = omega arith in
    let found = first_below-found test n 0 k l (lt-ltb a (sum_below many (suc k)) here) in
    let first = pair_first many n a in
    first_same many k r first (ltb-true a (sum_below many (suc first)) found.passes) found.least (cases_lt first k)

pub pair-rank : (many : ℕ → ℕ) (n k r : ℕ) → k < n → r < many k → pair_rank many n (sum_below many k + r) ≡ r
pair-rank many n k r l h = ap (λ i. sum_below many k + r - sum_below many i) (pair-first many n k r l h) ∙ omega arith

begins_after : (many : ℕ → ℕ) (a r : ℕ) → ((i : ℕ) → i < r → nat_lt a (sum_below many (suc i)) ≡ false) → sum_below many r ≤ a
begins_after many a zero h = omega arith
begins_after many a (suc r) h = ltb-false a (sum_below many (suc r)) (h r (omega arith))

begins : (many : ℕ → ℕ) (n a other r : ℕ) → other ≡ 0 → IsFirst (λ k. nat_lt a (sum_below many (suc k))) n other r → sum_below many r ≤ a
begins many n a other r e (passes l t h) = begins_after many a r h
begins many n a other r e (none h) = omega (arith, ap (sum_below many) e)

-- what the number of a pair says of it
pub record IsPair (many : ℕ → ℕ) (n a : ℕ) : Type 0 where
  pub first_below : pair_first many n a < n
  pub rank_below : pair_rank many n a < many (pair_first many n a)
  pub number : sum_below many (pair_first many n a) + pair_rank many n a ≡ a

pub pair-is : (many : ℕ → ℕ) (n a : ℕ) → a < sum_below many n → IsPair many n a
pair-is many zero a h = absurd (omega arith)
pair-is many (suc n) a h =
    let test : ℕ → Bool = λ k. nat_lt a (sum_below many (suc k)) in
    let found = first_below-found test (suc n) 0 n (omega arith) (lt-ltb a (sum_below many (suc n)) h) in
    let first = pair_first many (suc n) a in
    let from : sum_below many first ≤ a = begins many (suc n) a 0 first refl (first_below-is test (suc n) 0) in
    let to : a < sum_below many (suc first) = ltb-true a (sum_below many (suc first)) found.passes in
    record { first_below = found.below; rank_below = omega arith; number = omega arith }

-- ---- the numbers that pass
-- the one of which r are before
pub record IsRanked (test : ℕ → Bool) (n r : ℕ) : Type 0 where
  pub at : ℕ
  pub below : at < n
  pub passes : test at ≡ true
  pub before : how_many test at ≡ r

ranked_last : (test : ℕ → Bool) (n r : ℕ) (b : Bool) → test n ≡ b → r < cond b (suc (how_many test n)) (how_many test n)
    → (r < how_many test n → IsRanked test n r) → (r ≡ how_many test n) ⊎ (r ≡ how_many test n → ⊥) → IsRanked test (suc n) r
ranked_last test n r true e l less (inl s) = record { at = n; below = omega arith; passes = e; before = sym s }
ranked_last test n r true e l less (inr o) = let w = less (omega arith) in record { at = w.at; below = omega (arith, w.below); passes = w.passes; before = w.before }
ranked_last test n r false e l less s = let w = less l in record { at = w.at; below = omega (arith, w.below); passes = w.passes; before = w.before }

pub ranked : (test : ℕ → Bool) (n r : ℕ) → r < how_many test n → IsRanked test n r
ranked test zero r l = absurd (omega arith)
ranked test (suc n) r l = ranked_last test n r (test n) refl l (ranked test n r) (cases_eq r (how_many test n))

listed_last : (test : ℕ → Bool) (n i : ℕ) → i < suc n → test i ≡ true → (i < n → get_or (those_below test n) (how_many test i) 0 ≡ i)
    → (b : Bool) → test n ≡ b → (i ≡ n) ⊎ (i ≡ n → ⊥) → get_or (cond b (those_below test n ++ n ∷ []) (those_below test n)) (how_many test i) 0 ≡ i
listed_last test n i l e less true h (inl s) =
    ap (λ k. get_or (those_below test n ++ n ∷ []) (how_many test k) 0) s
    ∙ get_or_push (those_below test n) n 0 (how_many test n) (length-those_below test n) ∙ sym s
listed_last test n i l e less true h (inr o) =
    let below : i < n = omega arith in
    let long = length-those_below test n in
    get_or_append_left (those_below test n) (n ∷ []) 0 (how_many test i) (omega (arith, long, how_many-less test i n below e)) ∙ less below
listed_last test n i l e less false h (inl s) = absurd (false≢true (sym h ∙ ap test (sym s) ∙ e))
listed_last test n i l e less false h (inr o) = less (omega arith)

-- each stands where it has as many before it
pub those-at : (test : ℕ → Bool) (n i : ℕ) → i < n → test i ≡ true → get_or (those_below test n) (how_many test i) 0 ≡ i
those-at test zero i l e = absurd (omega arith)
those-at test (suc n) i l e = listed_last test n i l e (λ k. those-at test n i k e) (test n) refl (cases_eq i n)

pub ranked-at : (test : ℕ → Bool) (n r : ℕ) (w : IsRanked test n r) → get_or (those_below test n) r 0 ≡ w.at
ranked-at test n r w = ap (λ k. get_or (those_below test n) k 0) (sym w.before) ∙ those-at test n w.at w.below w.passes
