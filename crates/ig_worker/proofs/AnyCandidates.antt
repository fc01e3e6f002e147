-- Whatever a listing shows, there is a list of the names that may be leased, in order.
use Rattle.std.proofs.Common.{arith, ◌≡◌, ◌≤◌, ◌⊎◌, inl, inr, ℕ, nat_le, true, false, List, [], ◌∷◌, Option, None, Some, All, Contains, refl, ap, sym, subst, true≢false, ◌∙◌}
use Rattle.std.proofs.lemmas.Bool.{cases_Bool, leb-true, le-leb}
use Rattle.std.proofs.lemmas.Option.{none-some}
use Rattle.std.proofs.lemmas.List.Elements.{All-cons, All-nil, All-weaker, All-head, All-tail, Contains-append_cases, Contains-append_left, Contains-append_right, Contains-push, Contains-push_cases}
use Rattle.std.specs.Cmp.{IsTotalOrder, on_total}
use Rattle.std.specs.Cmp.Lexicographic.{slice_cmp, nat_list_cmp_total}
use Rattle.std.specs.FinMap.{slice_cmp-IsAntisymmetric, nat_cmp-IsAntisymmetric}
use Rattle.std.specs.List.{AllByRecursion}
use Rattle.std.specs.List.Sorted.{IsStrictlySortedBy}
use Rattle.std.specs.Ordering.{nat_cmp, ordering_reverse}
use Rattle.std.specs.declared.cmp.Ordering.{Ordering}
use Rattle.std.specs.declared.cmp.Ordering.TheVariants.{Less, Equal, Greater}
use Rattle.ig_defs.specs.declared.queue_name.QueueName.{QueueName}
use Rattle.ig_defs.specs.QueueNames.{queue_file}
use Rattle.ig_queue.specs.Candidates.{rank, AreCandidates, IsCandidate}
use Rattle.ig_worker.proofs.QueuedNames.{IsNameOf, queued_name, queued_name-gives, queued_name-is}

abbrev order : QueueName → QueueName → Ordering
order a b = slice_cmp nat_cmp (rank a) (rank b)

is_total : IsTotalOrder order
is_total = on_total rank nat_list_cmp_total

one_rank : (x y : QueueName) → order x y ≡ Equal → x ≡ y
one_rank x y e =
    let same = slice_cmp-IsAntisymmetric nat_cmp-IsAntisymmetric (rank x) (rank y) e in
    let stage : x.stage ≡ y.stage = cc in
    let task : x.task ≡ y.task = cc in
    let attempt : x.attempt ≡ y.attempt = cc in
    let visible : x.visible ≡ y.visible = cc in
    λ i. record { visible = visible i; stage = stage i; task = task i; attempt = attempt i }

-- ---- a name in its place
abbrev placed : Ordering → QueueName → QueueName → List QueueName → List QueueName → List QueueName
placed Less x y ys rest = x ∷ y ∷ ys
placed Equal x y ys rest = y ∷ ys
placed Greater x y ys rest = y ∷ rest

abbrev with_name : QueueName → List QueueName → List QueueName
with_name x [] = x ∷ []
with_name x (y ∷ ys) = placed (order x y) x y ys (with_name x ys)

-- what is so of the name and of the others
each_placed : (P : QueueName → Type 0) (r : Ordering) (x y : QueueName) (ys rest : List QueueName) → P x → P y → AllByRecursion P ys → AllByRecursion P rest → AllByRecursion P (placed r x y ys rest)
each_placed P Less x y ys rest here first all later = (here, (first, all))
each_placed P Equal x y ys rest here first all later = (first, all)
each_placed P Greater x y ys rest here first all later = (first, later)

each_with : (P : QueueName → Type 0) (x : QueueName) (ys : List QueueName) → P x → AllByRecursion P ys → AllByRecursion P (with_name x ys)
each_with P x [] here all = (here, all)
each_with P x (y ∷ ys) here all = each_placed P (order x y) x y ys (with_name x ys) here all.0 all.1 (each_with P x ys here all.1)

all_greater : (x y : QueueName) (ys : List QueueName) → order x y ≡ Less → AllByRecursion (λ z. order y z ≡ Less) ys → AllByRecursion (λ z. order x z ≡ Less) ys
all_greater x y [] less all = tt
all_greater x y (z ∷ ys) less all = (is_total.trans x y z less all.0, all_greater x y ys less all.1)

sorted_placed : (r : Ordering) (x y : QueueName) (ys : List QueueName) → order x y ≡ r → IsStrictlySortedBy order (y ∷ ys) → IsStrictlySortedBy order (with_name x ys) → IsStrictlySortedBy order (placed r x y ys (with_name x ys))
unfolding IsStrictlySortedBy
sorted_placed Less x y ys is sorted later = ((is, all_greater x y ys is sorted.0), sorted)
sorted_placed Equal x y ys is sorted later = sorted
sorted_placed Greater x y ys is sorted later = (each_with (λ z. order y z ≡ Less) x ys (is_total.antisymm y x ∙ ap ordering_reverse is) sorted.0, later)

sorted_with : (x : QueueName) (ys : List QueueName) → IsStrictlySortedBy order ys → IsStrictlySortedBy order (with_name x ys)
unfolding IsStrictlySortedBy
sorted_with x [] sorted = (tt, tt)
sorted_with x (y ∷ ys) sorted = sorted_placed (order x y) x y ys refl sorted (sorted_with x ys sorted.1)

has_first : (x : QueueName) (xs : List QueueName) → Contains (x ∷ xs) x
has_first x xs = Contains-append_left (x ∷ []) xs x (Contains-push [] x)

has_later : (y : QueueName) (xs : List QueueName) (x : QueueName) → Contains xs x → Contains (y ∷ xs) x
has_later y xs x has = Contains-append_right (y ∷ []) xs x has

has_placed : (r : Ordering) (x y : QueueName) (ys rest : List QueueName) → order x y ≡ r → Contains rest x → Contains (placed r x y ys rest) x
has_placed Less x y ys rest is later = has_first x (y ∷ ys)
has_placed Equal x y ys rest is later = subst (Contains (y ∷ ys)) (sym (one_rank x y is)) (has_first y ys)
has_placed Greater x y ys rest is later = has_later y rest x later

has_it : (x : QueueName) (ys : List QueueName) → Contains (with_name x ys) x
has_it x [] = has_first x []
has_it x (y ∷ ys) = has_placed (order x y) x y ys (with_name x ys) refl (has_it x ys)

first_or_later : (y : QueueName) (ys : List QueueName) (z : QueueName) → Contains (y ∷ ys) z → (y ≡ z) ⊎ Contains ys z
first_or_later y ys z has = by_place (Contains-append_cases (y ∷ []) ys z has)
  where
    in_one : Contains [] z ⊎ (y ≡ z) → (y ≡ z) ⊎ Contains ys z
    in_one (inl none) = absurd (omega (arith, none.1))
    in_one (inr is) = inl is

    by_place : Contains (y ∷ []) z ⊎ Contains ys z → (y ≡ z) ⊎ Contains ys z
    by_place (inl one) = in_one (Contains-push_cases [] y z one)
    by_place (inr later) = inr later

keeps_placed : (r : Ordering) (x y : QueueName) (ys rest : List QueueName) (z : QueueName) → (Contains ys z → Contains rest z) → (y ≡ z) ⊎ Contains ys z → Contains (placed r x y ys rest) z
keeps_placed Less x y ys rest z later (inl is) = has_later x (y ∷ ys) z (subst (Contains (y ∷ ys)) is (has_first y ys))
keeps_placed Less x y ys rest z later (inr has) = has_later x (y ∷ ys) z (has_later y ys z has)
keeps_placed Equal x y ys rest z later (inl is) = subst (Contains (y ∷ ys)) is (has_first y ys)
keeps_placed Equal x y ys rest z later (inr has) = has_later y ys z has
keeps_placed Greater x y ys rest z later (inl is) = subst (Contains (y ∷ rest)) is (has_first y rest)
keeps_placed Greater x y ys rest z later (inr has) = has_later y rest z (later has)

has_others : (x : QueueName) (ys : List QueueName) (z : QueueName) → Contains ys z → Contains (with_name x ys) z
has_others x [] z has = absurd (omega (arith, has.1))
has_others x (y ∷ ys) z has = keeps_placed (order x y) x y ys (with_name x ys) z (has_others x ys z) (first_or_later y ys z has)

all_with : (P : QueueName → Type 0) (x : QueueName) (ys : List QueueName) → P x → All P ys → All P (with_name x ys)
all_with P x [] here all = All-cons P x [] here all
all_with P x (y ∷ ys) here all = all_placed (order x y) (with_name x ys) (all_with P x ys here (All-tail P y ys all))
  where
    all_placed : (r : Ordering) (rest : List QueueName) → All P rest → All P (placed r x y ys rest)
    all_placed Less rest later = All-cons P x (y ∷ ys) here all
    all_placed Equal rest later = all
    all_placed Greater rest later = All-cons P y rest (All-head P y ys all) later

-- ---- a listing, name by name
still : (text : List ℕ) (names : List (List ℕ)) (now : ℕ) (name : QueueName) → IsCandidate names now name → IsCandidate (text ∷ names) now name
still text names now name is = record { fits = is.fits; listed = Contains-append_right (text ∷ []) names (queue_file name) is.listed; due = is.due }

-- the name of a candidate is the first listed, or it is one of the others
newest : (text : List ℕ) (names : List (List ℕ)) (now : ℕ) (name : QueueName) → IsCandidate (text ∷ names) now name → IsNameOf text name ⊎ IsCandidate names now name
newest text names now name is = by_place (Contains-append_cases (text ∷ []) names (queue_file name) is.listed)
  where
    in_one : Contains [] (queue_file name) ⊎ (text ≡ queue_file name) → IsNameOf text name ⊎ IsCandidate names now name
    in_one (inl none) = absurd (omega (arith, none.1))
    in_one (inr first) = inl (record { fits = is.fits; is = sym first })

    by_place : Contains (text ∷ []) (queue_file name) ⊎ Contains names (queue_file name) → IsNameOf text name ⊎ IsCandidate names now name
    by_place (inl one) = in_one (Contains-push_cases [] text (queue_file name) one)
    by_place (inr later) = inr (record { fits = is.fits; listed = later; due = is.due })

-- no name more, where the text is not that of one that may be leased
none_more : (text : List ℕ) (names : List (List ℕ)) (now : ℕ) (list : List QueueName) → ((name : QueueName) → IsNameOf text name → name.visible ≤ now → ⊥)
    → AreCandidates names now list → AreCandidates (text ∷ names) now list
none_more text names now list none so = record {
  sorted = so.sorted;
  only = All-weaker (IsCandidate names now) (IsCandidate (text ∷ names) now) (still text names now) list so.only;
  each = λ name is. by_place name is (newest text names now name is);
}
  where
    by_place : (name : QueueName) → IsCandidate (text ∷ names) now name → IsNameOf text name ⊎ IsCandidate names now name → Contains list name
    by_place name is (inl first) = absurd (none name first is.due)
    by_place name is (inr later) = so.each name later

one_more : (text : List ℕ) (names : List (List ℕ)) (now : ℕ) (list : List QueueName) (new : QueueName) → IsNameOf text new → new.visible ≤ now
    → ((name : QueueName) → IsNameOf text name → new ≡ name) → AreCandidates names now list → AreCandidates (text ∷ names) now (with_name new list)
one_more text names now list new w due same so = record {
  sorted = sorted_with new list so.sorted;
  only = all_with (IsCandidate (text ∷ names) now) new list
      (record { fits = w.fits; listed = subst (Contains (text ∷ names)) (sym w.is) (Contains-append_left (text ∷ []) names text (Contains-push [] text)); due = due })
      (All-weaker (IsCandidate names now) (IsCandidate (text ∷ names) now) (still text names now) list so.only);
  each = λ name is. by_place name (newest text names now name is);
}
  where
    by_place : (name : QueueName) → IsNameOf text name ⊎ IsCandidate names now name → Contains (with_name new list) name
    by_place name (inl first) = subst (Contains (with_name new list)) (same name first) (has_it new list)
    by_place name (inr later) = has_others new list name (so.each name later)

-- the candidates of a listing
pub record HasCandidates (names : List (List ℕ)) (now : ℕ) : Type 0 where
  pub list : List QueueName
  pub are : AreCandidates names now list

by_due : (text : List ℕ) (names : List (List ℕ)) (now : ℕ) (new : QueueName) → queued_name text ≡ Some new → HasCandidates names now → (nat_le new.visible now ≡ true) ⊎ (nat_le new.visible now ≡ false) → HasCandidates (text ∷ names) now
by_due text names now new is so (inl due) = record {
  list = with_name new so.list;
  are = one_more text names now so.list new (queued_name-gives text new is) (leb-true new.visible now due)
      (λ name w. let e : Some new ≡ Some name = sym is ∙ queued_name-is text name w in let same : new ≡ name = cc in same) so.are;
}
by_due text names now new is so (inr late) = record {
  list = so.list;
  are = none_more text names now so.list
      (λ name w due. let e : Some new ≡ Some name = sym is ∙ queued_name-is text name w in let same : new ≡ name = cc in
      true≢false (sym (le-leb name.visible now due) ∙ ap (λ (other : QueueName). nat_le other.visible now) (sym same) ∙ late)) so.are;
}

by_name : (text : List ℕ) (names : List (List ℕ)) (now : ℕ) (found : Option QueueName) → queued_name text ≡ found → HasCandidates names now → HasCandidates (text ∷ names) now
by_name text names now None is so = record {
  list = so.list;
  are = none_more text names now so.list (λ name w due. none-some name (sym is ∙ queued_name-is text name w)) so.are;
}
by_name text names now (Some new) is so = by_due text names now new is so (cases_Bool (nat_le new.visible now))

pub any_candidates : (names : List (List ℕ)) (now : ℕ) → HasCandidates names now
unfolding IsStrictlySortedBy
any_candidates [] now = record {
  list = [];
  are = record { sorted = tt; only = All-nil (IsCandidate [] now); each = λ name is. absurd (omega (arith, is.listed.1)) };
}
any_candidates (text ∷ names) now = by_name text names now (queued_name text) refl (any_candidates names now)
