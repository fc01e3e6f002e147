-- A text that is cut in two at the first of a byte.
use Rattle.std.proofs.Common.{◌≡◌, ◌<◌, ◌+◌, ℕ, suc, Bool, true, false, ◌==◌, List, [], ◌∷◌, length, take, drop, cond, Option, None, Some, option_map, Bor, MatchOption, refl, ap, sym, ◌∙◌, subst, arith}
use Rattle.std.proofs.lemmas.List.Recursion.{is_position_or_len}
use Rattle.std.specs.List.{position_or_len, before_first, after_first}
use Rattle.ig_meaning.specs.Options.{cut_at}
use Rattle.ig_cli.specs.Options.{both}

abbrev is_mark : ℕ → ℕ → Bool
is_mark c x = x == c

-- the first such byte, counted
abbrev place : ℕ → List ℕ → ℕ
place c [] = 0
place c (x ∷ xs) = cond (x == c) 0 (1 + place c xs)

place-is : (c : ℕ) (xs : List ℕ) → place c xs ≡ position_or_len (is_mark c) xs
place-is c = is_position_or_len (place c) (is_mark c) refl (λ x xs. refl)

-- before and after a place
abbrev cut_in : ℕ → List ℕ → List ℕ × List ℕ
cut_in n xs = (take n xs, drop (n + 1) xs)

abbrev begun : ℕ → List ℕ × List ℕ → List ℕ × List ℕ
begun x p = (x ∷ p.0, p.1)

begun-cut : (x n : ℕ) (xs : List ℕ) → begun x (cut_in n xs) ≡ cut_in (1 + n) (x ∷ xs)
begun-cut x n xs =
    let next : 1 + n ≡ suc n = omega arith in
    let after : suc n + 1 ≡ suc (n + 1) = omega arith in
    let moved : begun x (cut_in n xs) ≡ cut_in (suc n) (x ∷ xs) = ap (λ m. (x ∷ take n xs, drop m (x ∷ xs))) (sym after) in
    moved ∙ ap (λ m. cut_in m (x ∷ xs)) (sym next)

some_at : (x : ℕ) (xs : List ℕ) (same : Bool) (n : ℕ) (rest : Option (List ℕ × List ℕ)) → (n < length xs → rest ≡ Some (cut_in n xs))
    → cond same 0 (1 + n) < length (x ∷ xs) → cond same (Some ([], xs)) (option_map (begun x) rest) ≡ Some (cut_in (cond same 0 (1 + n)) (x ∷ xs))
some_at x xs true n rest so below = refl
some_at x xs false n rest so below =
    ap (option_map (begun x)) (so (omega arith)) ∙ ap Some (begun-cut x n xs)

cut-some : (c : ℕ) (xs : List ℕ) → place c xs < length xs → cut_at c xs ≡ Some (cut_in (place c xs) xs)
cut-some c [] below = absurd (omega arith)
cut-some c (x ∷ xs) below = some_at x xs (x == c) (place c xs) (cut_at c xs) (cut-some c xs) below

none_at : (x : ℕ) (xs : List ℕ) (same : Bool) (n : ℕ) (rest : Option (List ℕ × List ℕ)) → (n ≡ length xs → rest ≡ None)
    → cond same 0 (1 + n) ≡ length (x ∷ xs) → cond same (Some ([], xs)) (option_map (begun x) rest) ≡ None
none_at x xs true n rest so all = absurd (omega arith)
none_at x xs false n rest so all = ap (option_map (begun x)) (so (omega arith))

cut-none : (c : ℕ) (xs : List ℕ) → place c xs ≡ length xs → cut_at c xs ≡ None
cut-none c [] all = refl
cut-none c (x ∷ xs) all = none_at x xs (x == c) (place c xs) (cut_at c xs) (cut-none c xs) all

-- what `split_once` says at an ASCII character, as its cut
pub cut-is : (c : ℕ) (xs : List ℕ) (r : Option (Bor (List ℕ) × Bor (List ℕ)))
    → MatchOption r (position_or_len (λ b. b == c) xs ≡ length xs) (λ x. (x.0.now ≡ before_first (λ b. b == c) xs) × (x.1.now ≡ after_first (λ b. b == c) xs) × (position_or_len (λ b. b == c) xs < length xs))
    → option_map both r ≡ cut_at c xs
cut-is c xs None h = sym (cut-none c xs (place-is c xs ∙ h))
cut-is c xs (Some (a, b)) h =
    let below : place c xs < length xs = subst (λ n. n < length xs) (sym (place-is c xs)) h.2 in
    let same : cut_in (position_or_len (is_mark c) xs) xs ≡ cut_in (place c xs) xs = ap (λ n. cut_in n xs) (sym (place-is c xs)) in
    let pair : (a.now, b.now) ≡ cut_in (position_or_len (is_mark c) xs) xs = λ i. (h.0 i, h.1 i) in
    ap Some (pair ∙ same) ∙ sym (cut-some c xs below)
