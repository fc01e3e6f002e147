-- The stages that a worker has noted, and those that it is still to read.
use Rattle.std.specs.Prelude.{◌≡◌, ◌⊎◌, ◌<◌, ◌^◌, ◌==◌, ◌||◌, ℕ, nat_lt, Bool, true, false, cond, if◌then◌else◌, List, [], ◌∷◌, map, Option, None, Some, is_some, refl}
use Rattle.std.specs.List.{All, AllByRecursion}
use Rattle.std.specs.List.Sorted.{IsStrictlySortedBy}
use Rattle.std.specs.Ordering.{nat_cmp}
use Rattle.std.specs.declared.cmp.Ordering.TheVariants.{Less, Equal, Greater}
use Rattle.std.specs.Str.{bytes_eq}
use Rattle.std.proofs.Common.{arith, inl, inr, ap, sym, subst, true≢false, ◌∙◌}
use Rattle.std.proofs.lemmas.Bool.{cases_order, eq-eqb, eqb-true, lt-ltb, ltb-true}
use Rattle.std.proofs.lemmas.List.Elements.{All-cons, All-head, All-nil, All-tail}
use Rattle.std.proofs.lemmas.Option.{none-some, same_Some}
use Rattle.ig_defs.specs.declared.queue_name.QueueName.{QueueName}
use Rattle.ig_defs.specs.QueueNames.{stage_file}
use Rattle.ig_defs.specs.QueueNameLaws.{IsName-fits}
use Rattle.ig_meaning.specs.QueueMaking.{stage_named}
use Rattle.ig_queue.specs.Candidates.{IsCandidate}
use Rattle.ig_record.specs.declared.stage.Stage.{Stage}
use Rattle.ig_meaning.specs.Lists.{first_of-from}
use Rattle.ig_worker.specs.Fit.{AreStages, IsStage, number_of}
use Rattle.ig_worker.specs.Stages.{Known, is_last, stage_in, unknown_after, unknown_listed, with_stage, with_unknown}
use Rattle.ig_worker.specs.Ending.Standing.{IsKnown}

-- ---- one more is noted
each_by : (P : ℕ × Stage → Type 0) (n : ℕ) (s : Stage) (r : ℕ × Stage) (rest more : Known) (below same : Bool) → P (n, s) → All P (r ∷ rest) → All P more
    → All P (if below then (n, s) ∷ r ∷ rest else (if same then (n, s) ∷ rest else r ∷ more))
each_by P n s r rest more true same new all later = All-cons P (n, s) (r ∷ rest) new all
each_by P n s r rest more false true new all later = All-cons P (n, s) rest new (All-tail P r rest all)
each_by P n s r rest more false false new all later = All-cons P r more (All-head P r rest all) later

each_with : (P : ℕ × Stage → Type 0) (n : ℕ) (s : Stage) (known : Known) → P (n, s) → All P known → All P (with_stage n s known)
each_with P n s [] new all = All-cons P (n, s) [] new all
each_with P n s (r ∷ rest) new all = each_by P n s r rest (with_stage n s rest) (nat_lt n r.0) (r.0 == n) new all (each_with P n s rest new (All-tail P r rest all))

-- ---- in order
below_is : (n m : ℕ) → n < m → nat_cmp n m ≡ Less
below_is n m less = ap (λ b. cond b Less (cond (n == m) Equal Greater)) (lt-ltb n m less)

less_by : (n m : ℕ) (b c : Bool) → nat_lt n m ≡ b → cond b Less (cond c Equal Greater) ≡ Less → n < m
less_by n m true c test is = ltb-true n m test
less_by n m false true test is = absurd (cc)
less_by n m false false test is = absurd (cc)

pub is_below : (n m : ℕ) → nat_cmp n m ≡ Less → n < m
is_below n m is = less_by n m (nat_lt n m) (n == m) refl is

abbrev pub AreAbove : ℕ → Known → Type 0
AreAbove n known = AllByRecursion (λ m. nat_cmp n m ≡ Less) (map number_of known)

above_more : (n m : ℕ) (known : Known) → n < m → AreAbove m known → AreAbove n known
above_more n m [] less all = tt
above_more n m (r ∷ rest) less all =
    let next = is_below m r.0 all.0 in
    (below_is n r.0 (omega (arith, less, next)), above_more n m rest less all.1)

above_by : (k n : ℕ) (s : Stage) (r : ℕ × Stage) (rest more : Known) (below same : Bool) → k < n → AreAbove k (r ∷ rest) → AreAbove k more
    → AreAbove k (if below then (n, s) ∷ r ∷ rest else (if same then (n, s) ∷ rest else r ∷ more))
above_by k n s r rest more true same less all later = (below_is k n less, all)
above_by k n s r rest more false true less all later = (below_is k n less, all.1)
above_by k n s r rest more false false less all later = (all.0, later)

above_with : (k n : ℕ) (s : Stage) (known : Known) → k < n → AreAbove k known → AreAbove k (with_stage n s known)
above_with k n s [] less all = (below_is k n less, tt)
above_with k n s (r ∷ rest) less all = above_by k n s r rest (with_stage n s rest) (nat_lt n r.0) (r.0 == n) less all (above_with k n s rest less all.1)

abbrev pub AreAscending : Known → Type 0
AreAscending known = IsStrictlySortedBy nat_cmp (map number_of known)

ascending_by : (n : ℕ) (s : Stage) (r : ℕ × Stage) (rest more : Known) (below same : Bool) → nat_lt n r.0 ≡ below → (r.0 == n) ≡ same → AreAscending (r ∷ rest) → AreAscending more → (r.0 < n → AreAbove r.0 more)
    → AreAscending (if below then (n, s) ∷ r ∷ rest else (if same then (n, s) ∷ rest else r ∷ more))
unfolding IsStrictlySortedBy
ascending_by n s r rest more true same test e all later above = let less = ltb-true n r.0 test in ((below_is n r.0 less, above_more n r.0 rest less all.0), all)
ascending_by n s r rest more false true test e all later above = (subst (λ k. AreAbove k rest) (eqb-true r.0 n e) all.0, all.1)
ascending_by n s r rest more false false test e all later above = (above (after_it (cases_order n r.0)), later)
  where
    after_it : (n ≡ r.0) ⊎ ((n < r.0) ⊎ (r.0 < n)) → r.0 < n
    after_it (inl is) = absurd (true≢false (sym (eq-eqb r.0 n (sym is)) ∙ e))
    after_it (inr (inl less)) = absurd (true≢false (sym (lt-ltb n r.0 less) ∙ test))
    after_it (inr (inr more)) = more

ascending_with : (n : ℕ) (s : Stage) (known : Known) → AreAscending known → AreAscending (with_stage n s known)
unfolding IsStrictlySortedBy
ascending_with n s [] all = (tt, tt)
ascending_with n s (r ∷ rest) all =
    ascending_by n s r rest (with_stage n s rest) (nat_lt n r.0) (r.0 == n) refl refl all (ascending_with n s rest all.1) (λ less. above_with r.0 n s rest less all.0)

-- Noted stages stay sound and in order.
pub stages_with : (n : ℕ) (s : Stage) (known : Known) → IsStage (n, s) → AreStages known → AreStages (with_stage n s known)
stages_with n s known new all = record { each = each_with IsStage n s known new all.each; ascending = ascending_with n s known all.ascending }

-- ---- which are known

new_by : (n : ℕ) (s : Stage) (r : ℕ × Stage) (rest more : Known) (below same : Bool) → (r.0 == n) ≡ same → IsKnown more n
    → IsKnown (if below then (n, s) ∷ r ∷ rest else (if same then (n, s) ∷ rest else r ∷ more)) n
new_by n s r rest more true same e later = ap (λ b. is_some (if b then Some s else stage_in (r ∷ rest) n)) (eq-eqb n n refl)
new_by n s r rest more false true e later = ap (λ b. is_some (if b then Some s else stage_in rest n)) (eq-eqb n n refl)
new_by n s r rest more false false e later = ap (λ b. is_some (if b then Some r.1 else stage_in more n)) e ∙ later

-- the one that was noted
pub knows_new : (n : ℕ) (s : Stage) (known : Known) → IsKnown (with_stage n s known) n
knows_new n s [] = ap (λ b. is_some (if b then Some s else None)) (eq-eqb n n refl)
knows_new n s (r ∷ rest) = new_by n s r rest (with_stage n s rest) (nat_lt n r.0) (r.0 == n) refl (knows_new n s rest)

some_by : (b : Bool) (s : Stage) (o : Option Stage) → is_some o ≡ true → is_some (if b then Some s else o) ≡ true
some_by true s o is = refl
some_by false s o is = is

other_by : (b c : Bool) (s t : Stage) (o : Option Stage) → (c ≡ true → b ≡ true) → is_some (if c then Some t else o) ≡ true → is_some (if b then Some s else o) ≡ true
other_by true c s t o same is = refl
other_by false true s t o same is = absurd (true≢false (sym (same refl)))
other_by false false s t o same is = is

later_by : (b : Bool) (s : Stage) (o p : Option Stage) → (is_some o ≡ true → is_some p ≡ true) → is_some (if b then Some s else o) ≡ true → is_some (if b then Some s else p) ≡ true
later_by true s o p on is = refl
later_by false s o p on is = on is

old_by : (k n : ℕ) (s : Stage) (r : ℕ × Stage) (rest more : Known) (below same : Bool) → (r.0 == n) ≡ same → (IsKnown rest k → IsKnown more k) → IsKnown (r ∷ rest) k
    → IsKnown (if below then (n, s) ∷ r ∷ rest else (if same then (n, s) ∷ rest else r ∷ more)) k
old_by k n s r rest more true same e on is = some_by (n == k) s (stage_in (r ∷ rest) k) is
old_by k n s r rest more false true e on is = other_by (n == k) (r.0 == k) s r.1 (stage_in rest k) (λ c. ap (λ m. m == k) (sym (eqb-true r.0 n e)) ∙ c) is
old_by k n s r rest more false false e on is = later_by (r.0 == k) r.1 (stage_in rest k) (stage_in more k) on is

-- and each that was known
pub knows_old : (k n : ℕ) (s : Stage) (known : Known) → IsKnown known k → IsKnown (with_stage n s known) k
knows_old k n s [] is = absurd (true≢false (sym is))
knows_old k n s (r ∷ rest) is = old_by k n s r rest (with_stage n s rest) (nat_lt n r.0) (r.0 == n) refl (knows_old k n s rest) is

-- ---- which are to be read: numbers that have their places
abbrev pub IsFew : ℕ → Type 0
IsFew n = n < 10 ^ 4

few_by : (n m : ℕ) (b : Bool) → m < 10 ^ 4 → (if b then Some m else None) ≡ Some n → n < 10 ^ 4
few_by n m true few is = let same = same_Some m n is in omega (arith, same, few)
few_by n m false few is = absurd (none-some n is)

named_few : (name : List ℕ) (n : ℕ) → stage_named name ≡ Some n → n < 10 ^ 4
unfolding stage_named
named_few name n is =
    let v = first_of-from (λ k. if bytes_eq (stage_file k) name then Some k else None) (10 ^ 4) n is in
    few_by n v.number (bytes_eq (stage_file v.number) name) v.below v.is

few_if : (b : Bool) (n : ℕ) (rest : List ℕ) → n < 10 ^ 4 → All IsFew rest → All IsFew (if b then rest else n ∷ rest)
few_if true n rest few all = all
few_if false n rest few all = All-cons IsFew n rest few all

few_with : (known : Known) (o : Option ℕ) (rest : List ℕ) → ((n : ℕ) → o ≡ Some n → n < 10 ^ 4) → All IsFew rest → All IsFew (with_unknown known o rest)
few_with known None rest few all = all
few_with known (Some n) rest few all = few_if (is_some (stage_in known n)) n rest (few n refl) all

pub few_listed : (known : Known) (given : List (List ℕ)) → All IsFew (unknown_listed known given)
few_listed known [] = All-nil IsFew
few_listed known (name ∷ given) = few_with known (stage_named name) (unknown_listed known given) (named_few name) (few_listed known given)

few_after : (b : Bool) (n : ℕ) (same more : List ℕ) → n < 10 ^ 4 → All IsFew same → All IsFew more → All IsFew (if b then same else n ∷ more)
few_after true n same more few a c = a
few_after false n same more few a c = All-cons IsFew n more few c

pub few_named : (given : List (List ℕ)) (now : ℕ) (known : Known) (last : Option ℕ) (names : List QueueName) → All (IsCandidate given now) names → All IsFew (unknown_after known last names)
few_named given now known last [] all = All-nil IsFew
few_named given now known last (name ∷ names) all =
    let rest = All-tail (IsCandidate given now) name names all in
    few_after (is_some (stage_in known name.stage) || is_last last name.stage) name.stage (unknown_after known last names) (unknown_after known (Some name.stage) names)
    (IsName-fits name (All-head (IsCandidate given now) name names all).fits).stage
    (few_named given now known last names rest) (few_named given now known (Some name.stage) names rest)
