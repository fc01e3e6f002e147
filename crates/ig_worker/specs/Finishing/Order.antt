-- Names in order: two lists of them with the same members are equal.
use Rattle.std.specs.Prelude.{◌≡◌, ◌⊎◌, Bool, true, false, if◌then◌else◌, List, [], ◌∷◌, filter, Contains, refl}
use Rattle.std.specs.Cmp.{IsTotalOrder, on_total}
use Rattle.std.specs.Cmp.Lexicographic.{slice_cmp, nat_list_cmp_total}
use Rattle.std.specs.List.{AllByRecursion}
use Rattle.std.specs.List.Sorted.{IsStrictlySortedBy}
use Rattle.std.specs.Ordering.{nat_cmp, ordering_reverse}
use Rattle.std.specs.declared.cmp.Ordering.{Ordering}
use Rattle.std.specs.declared.cmp.Ordering.TheVariants.{Less}
use Rattle.std.proofs.Common.{inl, inr, ap, subst, sym, true≢false, ◌∙◌}
use Rattle.ig_defs.specs.declared.queue_name.QueueName.{QueueName}
use Rattle.ig_queue.specs.Candidates.{rank}
use Rattle.ig_worker.specs.Finishing.CanFinish.{AreInOrder}
use Rattle.ig_worker.specs.Keeping.Lists.{first_in, in_cases, later_in, none_in}

-- ---- the order of names
abbrev order : QueueName → QueueName → Ordering
order a b = slice_cmp nat_cmp (rank a) (rank b)

is_total : IsTotalOrder order
is_total = on_total rank nat_list_cmp_total

not_itself : (x : QueueName) → order x x ≡ Less → ⊥
not_itself x less = let turned : Less ≡ ordering_reverse Less = sym less ∙ is_total.antisymm x x ∙ ap ordering_reverse less in absurd (cc)

above_by : (x y : QueueName) (ys : List QueueName) (z : QueueName) → order x y ≡ Less → (Contains ys z → order x z ≡ Less) → (y ≡ z) ⊎ Contains ys z → order x z ≡ Less
above_by x y ys z less later (inl e) = subst (λ (w : QueueName). order x w ≡ Less) e less
above_by x y ys z less later (inr among) = later among

above_in : (x : QueueName) (ys : List QueueName) (z : QueueName) → AllByRecursion (λ y. order x y ≡ Less) ys → Contains ys z → order x z ≡ Less
above_in x [] z all among = absurd (none_in z among)
above_in x (y ∷ ys) z all among = above_by x y ys z all.0 (above_in x ys z all.1) (in_cases y ys z among)

-- the first of both
one_first : (x y : QueueName) (xs ys : List QueueName) → AllByRecursion (λ z. order x z ≡ Less) xs → AllByRecursion (λ z. order y z ≡ Less) ys → (y ≡ x) ⊎ Contains ys x → (x ≡ y) ⊎ Contains xs y → x ≡ y
one_first x y xs ys a b (inl e) other = sym e
one_first x y xs ys a b (inr h) (inl e) = e
one_first x y xs ys a b (inr h) (inr g) = absurd (not_itself x (is_total.trans x y x (above_in x xs y a g) (above_in y ys x b h)))

-- a later one of the first list is a later one of the second
later_too : (x y : QueueName) (xs ys : List QueueName) (z : QueueName) → x ≡ y → AllByRecursion (λ w. order x w ≡ Less) xs → Contains xs z → (y ≡ z) ⊎ Contains ys z → Contains ys z
later_too x y xs ys z same a among (inl e) = absurd (not_itself x (subst (λ (w : QueueName). order x w ≡ Less) (sym (same ∙ e)) (above_in x xs z a among)))
later_too x y xs ys z same a among (inr h) = h

-- Two lists in order that have the same members are equal.
pub same_names : (xs ys : List QueueName) → AreInOrder xs → AreInOrder ys → ((z : QueueName) → Contains xs z → Contains ys z) → ((z : QueueName) → Contains ys z → Contains xs z) → xs ≡ ys
unfolding IsStrictlySortedBy
same_names [] [] a b to from = refl
same_names [] (y ∷ ys) a b to from = absurd (none_in y (from y (first_in y ys)))
same_names (x ∷ xs) [] a b to from = absurd (none_in x (to x (first_in x xs)))
same_names (x ∷ xs) (y ∷ ys) a b to from =
    let same : x ≡ y = one_first x y xs ys a.0 b.0 (in_cases y ys x (to x (first_in x xs))) (in_cases x xs y (from y (first_in y ys))) in
    let rest : xs ≡ ys = same_names xs ys a.1 b.1
    (λ z among. later_too x y xs ys z same a.0 among (in_cases y ys z (to z (later_in x xs z among))))
    (λ z among. later_too y x ys xs z (sym same) b.0 among (in_cases x xs z (from z (later_in y ys z among)))) in
    λ i. same i ∷ rest i

-- ---- those that pass a test
-- One that passes is left.
passed_by : {A : Type 0} (p : A → Bool) (x : A) (xs : List A) (z : A) (b : Bool) → p x ≡ b → p z ≡ true → (Contains xs z → Contains (filter p xs) z) → (x ≡ z) ⊎ Contains xs z → Contains (if b then x ∷ filter p xs else filter p xs) z
passed_by p x xs z true e is later (inl same) = subst (λ w. Contains (w ∷ filter p xs) z) (sym same) (first_in z (filter p xs))
passed_by p x xs z true e is later (inr among) = later_in x (filter p xs) z (later among)
passed_by p x xs z false e is later (inl same) = absurd (true≢false (sym is ∙ ap p (sym same) ∙ e))
passed_by p x xs z false e is later (inr among) = later among

pub passes_in : {A : Type 0} (p : A → Bool) (xs : List A) (z : A) → Contains xs z → p z ≡ true → Contains (filter p xs) z
passes_in p [] z among is = absurd (none_in z among)
passes_in p (x ∷ xs) z among is = passed_by p x xs z (p x) refl is (λ later. passes_in p xs z later is) (in_cases x xs z among)

-- Each that is left is one of the list, and passes.
pub record IsLeftOf {A : Type 0} (p : A → Bool) (xs : List A) (z : A) : Type 0 where
  pub among : Contains xs z
  pub passes : p z ≡ true

left_later : {A : Type 0} (p : A → Bool) (x : A) (xs : List A) (z : A) → IsLeftOf p xs z → IsLeftOf p (x ∷ xs) z
left_later p x xs z h = record { among = later_in x xs z h.among; passes = h.passes }

left_by : {A : Type 0} (p : A → Bool) (x : A) (xs : List A) (z : A) (b : Bool) → p x ≡ b → (Contains (filter p xs) z → IsLeftOf p xs z) → Contains (if b then x ∷ filter p xs else filter p xs) z → IsLeftOf p (x ∷ xs) z
left_by p x xs z true e later among = by_place (in_cases x (filter p xs) z among)
  where
    by_place : (x ≡ z) ⊎ Contains (filter p xs) z → IsLeftOf p (x ∷ xs) z
    by_place (inl same) = record { among = subst (λ w. Contains (x ∷ xs) w) same (first_in x xs); passes = ap p (sym same) ∙ e }
    by_place (inr more) = left_later p x xs z (later more)
left_by p x xs z false e later among = left_later p x xs z (later among)

pub passes_from : {A : Type 0} (p : A → Bool) (xs : List A) (z : A) → Contains (filter p xs) z → IsLeftOf p xs z
passes_from p [] z among = absurd (none_in z among)
passes_from p (x ∷ xs) z among = left_by p x xs z (p x) refl (passes_from p xs z) among
