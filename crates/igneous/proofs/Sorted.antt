-- A list in order stays so where some of its items are left out.
use Rattle.std.proofs.Common.{◌≡◌, ◌<◌, ◌+◌, ◌++◌, ℕ, Bool, true, false, List, [], ◌∷◌, refl, subst, length, drop, map, get_or, add-one, if◌then◌else◌, All, arith}
use Rattle.std.proofs.Math.Seq.{drop-cons}
use Rattle.std.proofs.lemmas.List.Elements.{All-push}
use Rattle.std.specs.List.{AllByRecursion}
use Rattle.std.specs.List.Sorted.{IsStrictlySortedBy}
use Rattle.std.proofs.Common.{Global, String, string_bytes, append_assoc}
use Rattle.std.specs.Ordering.{nat_cmp}
use Rattle.std.specs.declared.cmp.Ordering.{Ordering}
use Rattle.std.specs.Cmp.Lexicographic.{slice_cmp}
use Rattle.std.specs.String.{string_cmp}

abbrev pub Ascending : List (List ℕ) → Type 0
Ascending = IsStrictlySortedBy (slice_cmp nat_cmp)

all_without : {X : Type 0} (P : X → Type 0) (xs : List X) (x : X) (ys : List X) → AllByRecursion P (xs ++ x ∷ ys) → AllByRecursion P (xs ++ ys)
all_without P [] x ys all = all.1
all_without P (k ∷ ks) x ys all = (all.0, all_without P ks x ys all.1)

sorted_without : {X : Type 0} (c : X → X → Ordering) (xs : List X) (x : X) (ys : List X) → IsStrictlySortedBy c (xs ++ x ∷ ys) → IsStrictlySortedBy c (xs ++ ys)
unfolding IsStrictlySortedBy
sorted_without c [] x ys sorted = sorted.1
sorted_without c (k ∷ ks) x ys sorted = (all_without _ ks x ys sorted.0, sorted_without c ks x ys sorted.1)

all_bytes : (x : String Global) (xs : List (String Global)) → AllByRecursion (λ y. string_cmp x y ≡ Ordering.Less) xs
    → AllByRecursion (λ y. slice_cmp nat_cmp (string_bytes x) y ≡ Ordering.Less) (map string_bytes xs)
all_bytes x [] all = all
all_bytes x (y ∷ ys) all = (all.0, all_bytes x ys all.1)

pub Ascending-bytes : (xs : List (String Global)) → IsStrictlySortedBy string_cmp xs → Ascending (map string_bytes xs)
unfolding IsStrictlySortedBy
Ascending-bytes [] sorted = sorted
Ascending-bytes (x ∷ xs) sorted = (all_bytes x xs sorted.0, Ascending-bytes xs sorted.1)

-- one more item is kept, or left out
abbrev pub kept : Bool → List (List ℕ) → List ℕ → List (List ℕ)
kept there names name = if there then names ++ name ∷ [] else names

goes : (there : Bool) (names : List (List ℕ)) (name : List ℕ) (rest : List (List ℕ)) → Ascending (names ++ name ∷ rest) → Ascending (kept there names name ++ rest)
goes true names name rest sorted = rw (append_assoc names (name ∷ []) rest) sorted
goes false names name rest sorted = sorted_without (slice_cmp nat_cmp) names name rest sorted

pub Ascending-step : (there : Bool) (names new es : List (List ℕ)) (i : ℕ) (name : List ℕ) → i < length es → name ≡ get_or es i [] → Ascending (names ++ drop i es)
    → new ≡ kept there names name → Ascending (new ++ drop (i + 1) es)
Ascending-step there names new es i name within is sorted e =
    let P : List (List ℕ) → Type 0 = λ rest. Ascending (names ++ rest) in
    let at : drop i es ≡ name ∷ drop (i + 1) es = rw (add-one i, is) (drop-cons es i [] within) in
    rw e (goes there names name (drop (i + 1) es) (subst P at sorted))

pub All-step : (P : List ℕ → Type 0) (there : Bool) (names new : List (List ℕ)) (name : List ℕ) → (there ≡ true → P name) → All P names
    → new ≡ kept there names name → All P new
All-step P true names new name holds all e = rw e (All-push P names name all (holds refl))
All-step P false names new name holds all e = rw e all

pub start : (P : List ℕ → Type 0) (names es : List (List ℕ)) → names ≡ [] → Ascending es → All P names × Ascending (names ++ es)
start P names es e sorted = rw e ((λ k d h. absurd (omega (arith, h))), sorted)
