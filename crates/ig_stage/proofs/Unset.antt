-- The numbers of flags that are not set.
use Rattle.std.proofs.Common.{◌≡◌, ◌⊎◌, ◌<◌, ℕ, zero, suc, Bool, true, false, cond, ◌==◌, List, [], ◌∷◌, ◌++◌, length, map, get_or, Option, None, Some, Contains, refl, ap, sym, subst, ◌∙◌, inl, inr, arith, append-nil}
use Rattle.std.specs.List.{AllByRecursion, slice_get}
use Rattle.std.specs.List.Sorted.{IsStrictlySortedBy}
use Rattle.std.specs.Ordering.{nat_cmp}
use Rattle.std.specs.declared.cmp.Ordering.TheVariants.{Less, Equal, Greater}
use Rattle.std.proofs.lemmas.Bool.{cases_eq, lt-ltb}
use Rattle.std.proofs.lemmas.List.{map-append}
use Rattle.std.proofs.lemmas.List.Elements.{Contains-append_cases, Contains-append_left, Contains-append_right, Contains-push, Contains-push_cases}
use Rattle.ig_space.specs.Chunks.{listed}
use Rattle.ig_meaning.specs.QueueActs.{AreUnshown, IsShown}
use Rattle.ig_rule.specs.Stages.{task_id}
use Rattle.ig_defs.specs.Log.{Log}
use Rattle.ig_defs.specs.Files.{Files}
use Rattle.ig_defs.specs.declared.step.Act.{Act}
use Rattle.ig_stage.specs.Listings.{DoesListAll}
use Rattle.ig_stage.specs.Shown.{if_unset, unset}
use Rattle.ig_stage.proofs.Listed.{not_both}
use Rattle.ig_stage.proofs.NamesPut.{flag_is}

-- ---- which they are

-- a number below, whose flag is not set
pub record IsUnset (flags : List Bool) (n k : ℕ) : Type 0 where
  pub below : k < n
  pub is : slice_get flags k ≡ Some false

nothing_in : (k : ℕ) → Contains {X = ℕ} [] k → ⊥
nothing_in k h = absurd (omega (arith, h.1))

only_one : (m k : ℕ) → Contains [] k ⊎ (m ≡ k) → m ≡ k
only_one m k (inl h) = absurd (nothing_in k h)
only_one m k (inr e) = e

of_one : (flags : List Bool) (m k : ℕ) (flag : Option Bool) → slice_get flags m ≡ flag → Contains (if_unset flag m) k → IsUnset flags (suc m) k
of_one flags m k (Some true) is h = absurd (nothing_in k h)
of_one flags m k None is h = absurd (nothing_in k h)
of_one flags m k (Some false) is h =
    let e : m ≡ k = only_one m k (Contains-push_cases [] m k h) in
    record { below = omega (arith, e); is = ap (slice_get flags) (sym e) ∙ is }

unset_last : (flags : List Bool) (n k : ℕ) → (Contains (unset flags n) k → IsUnset flags n k) → Contains (unset flags n) k ⊎ Contains (if_unset (slice_get flags n) n) k → IsUnset flags (suc n) k
unset_last flags n k before (inl h) = let w = before h in record { below = omega (arith, w.below); is = w.is }
unset_last flags n k before (inr h) = of_one flags n k (slice_get flags n) refl h

pub unset_is : (flags : List Bool) (n k : ℕ) → Contains (unset flags n) k → IsUnset flags n k
unset_is flags zero k h = absurd (nothing_in k h)
unset_is flags (suc n) k h = unset_last flags n k (unset_is flags n k) (Contains-append_cases (unset flags n) (if_unset (slice_get flags n) n) k h)

has_last : (flags : List Bool) (n k : ℕ) → slice_get flags k ≡ Some false → (k < n → Contains (unset flags n) k) → k < suc n → (k ≡ n) ⊎ (k ≡ n → ⊥) → Contains (unset flags (suc n)) k
has_last flags n k is before below (inl e) =
    Contains-append_right (unset flags n) (if_unset (slice_get flags n) n) k
    (subst (λ (flag : Option Bool). Contains (if_unset flag n) k) (sym (ap (slice_get flags) (sym e) ∙ is)) (subst (λ m. Contains (m ∷ []) k) e (Contains-push [] k)))
has_last flags n k is before below (inr differ) =
    Contains-append_left (unset flags n) (if_unset (slice_get flags n) n) k (before (omega (arith, below, differ)))

pub unset_has : (flags : List Bool) (n k : ℕ) → k < n → slice_get flags k ≡ Some false → Contains (unset flags n) k
unset_has flags zero k below is = absurd (omega (arith, below))
unset_has flags (suc n) k below is = has_last flags n k is (λ before. unset_has flags n k before is) below (cases_eq k n)

-- ---- they ascend

less : (x y : ℕ) → x < y → nat_cmp x y ≡ Less
less x y h = ap (λ b. cond b Less (cond (x == y) Equal Greater)) (lt-ltb x y h)

all_less : (x y : ℕ) (xs : List ℕ) → AllByRecursion (λ z. nat_cmp x z ≡ Less) xs → x < y → AllByRecursion (λ z. nat_cmp x z ≡ Less) (xs ++ y ∷ [])
all_less x y [] all h = (less x y h, tt)
all_less x y (z ∷ xs) all h = (all.0, all_less x y xs all.1 h)

ascends_on : (xs : List ℕ) (y : ℕ) → ((x : ℕ) → Contains xs x → x < y) → IsStrictlySortedBy nat_cmp xs → IsStrictlySortedBy nat_cmp (xs ++ y ∷ [])
unfolding IsStrictlySortedBy
ascends_on [] y below h = (tt, tt)
ascends_on (x ∷ xs) y below h = (
  all_less x y xs h.0 (below x (Contains-append_left (x ∷ []) xs x (Contains-push [] x))),
  ascends_on xs y (λ z there. below z (Contains-append_right (x ∷ []) xs z there)) h.1,
)

ascends_begin : IsStrictlySortedBy nat_cmp []
unfolding IsStrictlySortedBy
ascends_begin = tt

ascends_last : (flags : List Bool) (n : ℕ) (flag : Option Bool) → IsStrictlySortedBy nat_cmp (unset flags n) → IsStrictlySortedBy nat_cmp (unset flags n ++ if_unset flag n)
ascends_last flags n (Some false) before = ascends_on (unset flags n) n (λ x there. (unset_is flags n x there).below) before
ascends_last flags n (Some true) before = subst (IsStrictlySortedBy nat_cmp) (sym (append-nil (unset flags n))) before
ascends_last flags n None before = subst (IsStrictlySortedBy nat_cmp) (sym (append-nil (unset flags n))) before

pub unset_ascends : (flags : List Bool) (n : ℕ) → IsStrictlySortedBy nat_cmp (unset flags n)
unset_ascends flags zero = ascends_begin
unset_ascends flags (suc n) = ascends_last flags n (slice_get flags n) (unset_ascends flags n)

-- ---- where each flag is set exactly where a listing shows the task

pub are_unshown : (allows : Bool → Files → Act → Type 0) (q : List ℕ) (n tasks : ℕ) (flags : List Bool) (old new : Log) → length flags ≡ tasks
    → (d : DoesListAll allows q n tasks flags old new) → AreUnshown d.queued d.dead d.done n tasks (unset flags tasks)
are_unshown allows q n tasks flags old new same d = record {
  ascending = unset_ascends flags tasks;
  each = λ k there. let w = unset_is flags tasks k there in (w.below, λ shown. not_both flags k w.is (d.set k w.below shown));
  all = λ k below hidden. by_flag k below hidden (get_or flags k false) refl;
}
  where
    by_flag : (k : ℕ) → k < tasks → (IsShown d.queued d.dead d.done (task_id n k) → ⊥) → (b : Bool) → get_or flags k false ≡ b → Contains (unset flags tasks) k
    by_flag k below hidden true e = absurd (hidden (d.only k below (flag_is flags k true (subst (λ m. k < m) (sym same) below) e)))
    by_flag k below hidden false e = unset_has flags tasks k below (flag_is flags k false (subst (λ m. k < m) (sym same) below) e)

-- ---- where no flag is set

pub all_unset : {A : Type 0} (f : ℕ → A) (flags : List Bool) (n : ℕ) → ((k : ℕ) → k < n → slice_get flags k ≡ Some false) → map f (unset flags n) ≡ listed f n
all_unset f flags zero none = refl
all_unset f flags (suc n) none =
    map-append f (unset flags n) (if_unset (slice_get flags n) n)
    ∙ ap (λ xs. xs ++ map f (if_unset (slice_get flags n) n)) (all_unset f flags n (λ k below. none k (omega (arith, below))))
    ∙ ap (λ (flag : Option Bool). listed f n ++ map f (if_unset flag n)) (none n (omega arith))
