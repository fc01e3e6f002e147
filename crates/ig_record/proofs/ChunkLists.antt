-- Lists of chunks, one place after the other.
use Rattle.std.proofs.Common.{◌≡◌, ◌≤◌, ◌<◌, ◌+◌, ◌-◌, ℕ, suc, List, [], ◌∷◌, ◌++◌, length, get_or, arith, ap, sym, subst, ◌∙◌, append_assoc, length-append, drop, drop-cons}
use Rattle.std.specs.List.{AllByRecursion}
use Rattle.ig_space.specs.declared.point.Box3.{Box3}
use Rattle.ig_space.specs.declared.place.Place.{Place}
use Rattle.ig_space.specs.Chunks.{chunks_in, listed}
use Rattle.ig_record.specs.Columns.{chunks_of_all}
use Rattle.ig_record.specs.SoundFacts.{IsScale}
use Rattle.ig_record.specs.SoundRows.{AllWithin}

-- one more of the values that are added to a list
pub added-more : {A : Type 0} (f : ℕ → A) (old xs new : List A) (before : ℕ) (y : A) → xs ≡ old ++ listed f (length xs - before) → before ≤ length xs → y ≡ f (length xs - before) → new ≡ xs ++ y ∷ []
    → new ≡ old ++ listed f (length new - before)
added-more f old xs new before y so_far more item grown =
    let n = length xs - before in
    let long : length new - before ≡ suc n = let l = ap length grown ∙ length-append xs (y ∷ []) in omega (arith, l, more) in
    grown ∙ ap (λ front. front ++ y ∷ []) so_far ∙ append_assoc old (listed f n) (y ∷ []) ∙ ap (λ z. old ++ (listed f n ++ z ∷ [])) item
    ∙ ap (λ m. old ++ listed f m) (sym long)

-- ---- the places that are left
pub rest-is : (dests items : List Place) (i : ℕ) (dest : Place) → items ≡ dests → i < length items → dest ≡ get_or items i dest → drop i dests ≡ dest ∷ drop (i + 1) dests
rest-is dests items i dest same below is =
    let at : get_or dests i dest ≡ dest = sym (is ∙ ap (λ ps. get_or ps i dest) same) in
    let next : suc i ≡ i + 1 = omega arith in
    drop-cons dests i dest (omega (arith, below, ap length same)) ∙ ap (λ p. p ∷ drop (suc i) dests) at ∙ ap (λ k. dest ∷ drop k dests) next

-- the chunks of one more of them were added
pub written-more : (boxes : ℕ → Box3) (m n : ℕ) (rest tail : List Place) (dest : Place) (all paths new : List (List ℕ)) → rest ≡ dest ∷ tail → suc m ≡ n
    → all ≡ paths ++ chunks_of_all boxes m rest → new ≡ paths ++ chunks_in dest (boxes m) → all ≡ new ++ chunks_of_all boxes n tail
written-more boxes m n rest tail dest all paths new is next so_far more =
    so_far ∙ ap (λ ps. paths ++ chunks_of_all boxes m ps) is ∙ sym (append_assoc paths (chunks_in dest (boxes m)) (chunks_of_all boxes (suc m) tail))
    ∙ ap (λ front. front ++ chunks_of_all boxes (suc m) tail) (sym more) ∙ ap (λ k. new ++ chunks_of_all boxes k tail) next

pub scales-rest : (rest tail : List Place) (dest : Place) → rest ≡ dest ∷ tail → AllByRecursion IsScale rest → AllByRecursion IsScale tail
scales-rest rest tail dest is all = (subst (AllByRecursion IsScale) is all).1

pub boxes-rest : (boxes : ℕ → Box3) (m n : ℕ) (rest tail : List Place) (dest : Place) → rest ≡ dest ∷ tail → suc m ≡ n → AllWithin boxes m rest → AllWithin boxes n tail
boxes-rest boxes m n rest tail dest is next all = subst (λ k. AllWithin boxes k tail) next (subst (AllWithin boxes m) is all).1
