-- Names in order, each once.
use Rattle.std.proofs.Common.{◌≡◌, ◌↔◌, ◌==◌, ◌&&◌, ℕ, Bool, true, List, All, Contains, get_or, refl, sym, ap, subst, eq-eqb, ◌∙◌}
use Rattle.std.proofs.lemmas.Bool.{and_parts, and_from, eqb-true}
use Rattle.std.proofs.lemmas.List.Elements.{All-contains, Contains-get_or}
use Rattle.std.proofs.lemmas.List.Kept.{Contains-dedup, Contains-from_dedup, IsStrictlySortedBy-dedup}
use Rattle.std.proofs.lemmas.List.Sorted.{Contains-permutation, IsPermutation-sym}
use Rattle.std.specs.Cmp.{IsTotalOrder, both_ways, eq_by_cmp_equiv, on_total, Equal-is}
use Rattle.std.specs.Cmp.Lexicographic.{slice_cmp, nat_list_cmp_total}
use Rattle.std.specs.FinMap.{slice_cmp-IsAntisymmetric, nat_cmp-IsAntisymmetric}
use Rattle.std.specs.List.{dedup}
use Rattle.std.specs.List.Sorted.{IsPermutation, IsSorted, IsStrictlySortedBy}
use Rattle.std.specs.Ordering.{nat_cmp, eq_by_cmp}
use Rattle.std.specs.declared.cmp.Ordering.{Ordering}
use Rattle.ig_defs.specs.declared.queue_name.QueueName.{QueueName}
use Rattle.ig_queue.specs.Candidates.{rank, AreCandidates, IsCandidate}

abbrev pub order : QueueName → QueueName → Ordering
order a b = slice_cmp nat_cmp (rank a) (rank b)

is_total : IsTotalOrder order
is_total = on_total rank nat_list_cmp_total

-- names of one rank are one
one_rank : (x y : QueueName) → rank x ≡ rank y → x ≡ y
one_rank x y e =
    let stage : x.stage ≡ y.stage = cc in
    let task : x.task ≡ y.task = cc in
    let attempt : x.attempt ≡ y.attempt = cc in
    let visible : x.visible ≡ y.visible = cc in
    λ i. record { visible = visible i; stage = stage i; task = task i; attempt = attempt i }

tied_is : (x y : QueueName) → eq_by_cmp order x y ≡ true → x ≡ y
tied_is x y e = one_rank x y (slice_cmp-IsAntisymmetric nat_cmp-IsAntisymmetric (rank x) (rank y) ((Equal-is (order x y)).0 e))

-- the test whether names are equal, member by member
abbrev pub alike : QueueName → QueueName → Bool
alike x y = (x.visible == y.visible) && ((x.stage == y.stage) && ((x.task == y.task) && (x.attempt == y.attempt)))

alike_is : (x y : QueueName) → alike x y ≡ true → x ≡ y
alike_is x y e =
    let first = and_parts (x.visible == y.visible) _ e in
    let second = and_parts (x.stage == y.stage) _ first.1 in
    let third = and_parts (x.task == y.task) _ second.1 in
    let visible = eqb-true x.visible y.visible first.0 in
    let stage = eqb-true x.stage y.stage second.0 in
    let task = eqb-true x.task y.task third.0 in
    let attempt = eqb-true x.attempt y.attempt third.1 in
    λ i. record { visible = visible i; stage = stage i; task = task i; attempt = attempt i }

alike_itself : (x : QueueName) → alike x x ≡ true
alike_itself x =
    and_from (x.visible == x.visible) _ (eq-eqb x.visible x.visible refl)
    (and_from (x.stage == x.stage) _ (eq-eqb x.stage x.stage refl)
    (and_from (x.task == x.task) _ (eq-eqb x.task x.task refl) (eq-eqb x.attempt x.attempt refl)))

-- it is the order's
by_order : (x y : QueueName) → alike x y ≡ eq_by_cmp order x y
by_order x y =
    both_ways (alike x y) (eq_by_cmp order x y)
    (λ e. subst (λ z. eq_by_cmp order x z ≡ true) (alike_is x y e) ((eq_by_cmp_equiv is_total).refl x))
    (λ e. subst (λ z. alike x z ≡ true) (tied_is x y e) (alike_itself x))

dedup_by_order : (xs : List QueueName) → dedup alike xs ≡ dedup (eq_by_cmp order) xs
dedup_by_order xs = ap (λ test. dedup test xs) (λ i x y. by_order x y i)

-- sorted names without repeats rise
pub rises : (sorted xs : List QueueName) → xs ≡ dedup alike sorted → IsSorted order sorted → IsStrictlySortedBy order xs
rises sorted xs e up = subst (IsStrictlySortedBy order) (sym (e ∙ dedup_by_order sorted)) (IsStrictlySortedBy-dedup is_total (λ x y. refl) sorted up)

-- and they are the same names
pub same_names : (before sorted xs : List QueueName) → xs ≡ dedup alike sorted → IsPermutation before sorted → (name : QueueName) → Contains xs name ↔ Contains before name
same_names before sorted xs e moved name = (
  λ has. Contains-permutation sorted before name (IsPermutation-sym before sorted moved) (Contains-from_dedup alike sorted name (subst (λ ys. Contains ys name) e has)),
  λ has. subst (λ ys. Contains ys name) (sym (e ∙ dedup_by_order sorted))
      (Contains-dedup (eq_by_cmp_equiv is_total) tied_is sorted name (Contains-permutation before sorted name moved has)),
)

-- ---- a list of them

-- those of what was found, in order, are the tasks that may be leased
pub are_candidates : (names : List (List ℕ)) (now : ℕ) (due list : List QueueName) → All (IsCandidate names now) due → ((name : QueueName) → IsCandidate names now name → Contains due name)
    → IsStrictlySortedBy order list → ((name : QueueName) → Contains list name ↔ Contains due name) → AreCandidates names now list
are_candidates names now due list only each sorted same = record {
  sorted = sorted;
  only = λ k d below. All-contains (IsCandidate names now) due (get_or list k d) only ((same (get_or list k d)).0 (Contains-get_or list k d below));
  each = λ name is. (same name).1 (each name is);
}
