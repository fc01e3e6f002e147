-- A text that is cut at the first of a byte.
use Rattle.std.proofs.Common.{◌≡◌, ◌<◌, ◌+◌, ℕ, suc, Bool, true, false, not, ◌==◌, List, [], ◌∷◌, ◌++◌, length, take, cond, Option, None, Some, Bor, IfSome, IsNone, refl, ap, sym, ◌∙◌, subst, true≢false, arith}
use Rattle.std.proofs.Math.Seq.{take-length}
use Rattle.std.proofs.lemmas.Bool.{and_parts, and_from}
use Rattle.std.proofs.lemmas.Bool.Decides.{nat_tests}
use Rattle.std.proofs.lemmas.List.Folds.{list_all-append}
use Rattle.std.proofs.lemmas.List.Recursion.{is_position_or_len}
use Rattle.std.proofs.lemmas.Str.Pattern.{IsSplitOnceResult, split_once_first}
use Rattle.std.specs.List.{position_or_len}
use Rattle.ig_space.specs.Chunk.{lacks}

abbrev is_mark : ℕ → ℕ → Bool
is_mark c x = x == c

-- the first such byte, counted
abbrev place : ℕ → List ℕ → ℕ
place c [] = 0
place c (x ∷ xs) = cond (x == c) 0 (1 + place c xs)

place-is : (c : ℕ) (xs : List ℕ) → place c xs ≡ position_or_len (is_mark c) xs
place-is c = is_position_or_len (place c) (is_mark c) refl (λ x xs. refl)

before_at : (c x : ℕ) (xs : List ℕ) (same : Bool) → (x == c) ≡ same → lacks c (take (place c xs) xs) ≡ true
    → lacks c (take (cond same 0 (1 + place c xs)) (x ∷ xs)) ≡ true
before_at c x xs true e rest = refl
before_at c x xs false e rest =
    let next : 1 + place c xs ≡ suc (place c xs) = omega arith in
    subst (λ m. lacks c (take m (x ∷ xs)) ≡ true) (sym next) (and_from (not (x == c)) _ (ap not e) rest)

lacks-place : (c : ℕ) (xs : List ℕ) → lacks c (take (place c xs) xs) ≡ true
lacks-place c [] = refl
lacks-place c (x ∷ xs) = before_at c x xs (x == c) refl (lacks-place c xs)

lacks-before : (c : ℕ) (xs : List ℕ) → lacks c (take (position_or_len (is_mark c) xs) xs) ≡ true
lacks-before c xs = subst (λ m. lacks c (take m xs) ≡ true) (place-is c xs) (lacks-place c xs)

lacks-all : (c : ℕ) (xs : List ℕ) → position_or_len (is_mark c) xs ≡ length xs → lacks c xs ≡ true
lacks-all c xs e = ap (lacks c) (sym (ap (λ n. take n xs) e ∙ take-length xs)) ∙ lacks-before c xs

-- what stands before the first such byte lacks it
pub first_lacks : (c : ℕ) (text : List ℕ) (r : Option (Bor (List ℕ) × Bor (List ℕ))) → IsSplitOnceResult c text r → c < 128 → IfSome r (λ parts. lacks c parts.0.now ≡ true)
first_lacks c text None h ascii = tt
first_lacks c text (Some (a, b)) h ascii = let parts = split_once_first c text (Some (a, b)) h ascii in ap (lacks c) parts.1 ∙ lacks-before c text

-- and so does all the text where there is none
pub none_lacks : (c : ℕ) (text : List ℕ) (r : Option (Bor (List ℕ) × Bor (List ℕ))) → IsSplitOnceResult c text r → c < 128 → IsNone r → lacks c text ≡ true
none_lacks c text None h ascii none = lacks-all c text (split_once_first c text None h ascii)
none_lacks c text (Some (a, b)) h ascii none = absurd (true≢false none)

not_self : (c : ℕ) → (c == c) ≡ true
not_self c = grind (arith, nat_tests)

-- a text has the byte that it is cut at
pub lacks-not : (c : ℕ) (us vs : List ℕ) → lacks c (us ++ c ∷ vs) ≡ true → ⊥
lacks-not c us vs h =
    let rest = and_parts (lacks c us) (lacks c (c ∷ vs)) (sym (list_all-append (λ x. not (x == c)) us (c ∷ vs)) ∙ h) in
    let first = (and_parts (not (c == c)) (lacks c vs) rest.1).0 in
    true≢false (sym first ∙ ap not (not_self c))
