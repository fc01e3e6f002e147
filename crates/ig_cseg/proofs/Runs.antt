-- The labels of runs are those of the list.
use Rattle.std.proofs.Common.{arith, ◌≡◌, ◌≤◌, ◌<◌, ◌+◌, ◌-◌, ◌↔◌, ℕ, List, [], ◌∷◌, ◌++◌, length, take, slice_index, sym, subst, ◌∙◌, inl, inr, ◌⊎◌}
use Rattle.std.specs.List.{Contains}
use Rattle.std.proofs.lemmas.List.{get_or-take, length-take-le, take_all, take_more}
use Rattle.std.proofs.lemmas.List.Elements.{Contains-append_left, Contains-get_or, Contains-push, Contains-push_cases}

-- the same labels
abbrev pub IsSame : List ℕ → List ℕ → Type 0
IsSame xs ys = (label : ℕ) → Contains xs label ↔ Contains ys label

pushed : (xs ys : List ℕ) (x label : ℕ) → (Contains xs label → Contains ys label) → Contains xs label ⊎ (x ≡ label) → Contains (ys ++ x ∷ []) label
pushed xs ys x label to (inl c) = Contains-append_left ys (x ∷ []) label (to c)
pushed xs ys x label to (inr e) = subst (Contains (ys ++ x ∷ [])) e (Contains-push ys x)

both_pushed : (xs ys : List ℕ) (x : ℕ) → IsSame xs ys → IsSame (xs ++ x ∷ []) (ys ++ x ∷ [])
both_pushed xs ys x same label =
    (λ c. pushed xs ys x label (same label).0 (Contains-push_cases xs x label c), λ c. pushed ys xs x label (same label).1 (Contains-push_cases ys x label c))

-- the first label of a run
pub same-pushed : (runs ls : List ℕ) (k : ℕ) → k < length ls → IsSame runs (take k ls) → IsSame (runs ++ slice_index ls k ∷ []) (take (k + 1) ls)
same-pushed runs ls k l same =
    subst (IsSame (runs ++ slice_index ls k ∷ [])) (sym (take_more ls k 0 l)) (both_pushed runs (take k ls) (slice_index ls k) same)

one_of : (xs : List ℕ) (x label : ℕ) → Contains xs x → Contains xs label ⊎ (x ≡ label) → Contains xs label
one_of xs x label own (inl c) = c
one_of xs x label own (inr e) = subst (Contains xs) e own

-- a further label of it
pub same-kept : (runs ls : List ℕ) (k : ℕ) → k < length ls → (k ≡ 0 → ⊥) → slice_index ls k ≡ slice_index ls (k - 1) → IsSame runs (take k ls) → IsSame runs (take (k + 1) ls)
same-kept runs ls k l some e same =
    let before : k - 1 < length (take k ls) = omega (arith, length-take-le k ls (omega (arith, l))) in
    let last : slice_index (take k ls) (k - 1) ≡ slice_index ls k = get_or-take k ls (k - 1) 0 (omega arith) ∙ sym e in
    let own : Contains (take k ls) (slice_index ls k) = subst (Contains (take k ls)) last (Contains-get_or (take k ls) (k - 1) 0 before) in
    subst (IsSame runs) (sym (take_more ls k 0 l))
    (λ label. (
      λ c. Contains-append_left (take k ls) (slice_index ls k ∷ []) label ((same label).0 c),
      λ c. (same label).1 (one_of (take k ls) (slice_index ls k) label own (Contains-push_cases (take k ls) (slice_index ls k) label c)),
    ))

pub same-all : (runs ls : List ℕ) (k : ℕ) → length ls ≤ k → IsSame runs (take k ls) → IsSame runs ls
same-all runs ls k l same = subst (IsSame runs) (take_all k ls l) same
