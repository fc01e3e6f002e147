-- Lists that lie in longer lists.
use Rattle.std.proofs.Common.{arith, ◌≡◌, ◌≤◌, ◌<◌, ◌+◌, ◌*◌, ℕ, zero, suc, List, [], ◌∷◌, ◌++◌, length, length-append, slice_index, ap, sym, subst, ◌∙◌, inl, inr, ◌⊎◌}
use Rattle.std.proofs.Math.Nat.{eq-or-lt_of_le}
use Rattle.std.proofs.lemmas.List.{get_or-append-add, get_or_append_left}
use Rattle.std.specs.List.{flat_map}
use Rattle.ig_space.specs.Chunks.{listed}
use Rattle.ig_cseg.specs.TextSizes.{length-listed}

-- the piece lies in the list from this place on
pub record Lies (piece : List ℕ) (place : ℕ) (xs : List ℕ) : Type 0 where
  pub fits : place + length piece ≤ length xs
  pub same : (j : ℕ) → j < length piece → slice_index xs (place + j) ≡ slice_index piece j

pub lies-left : (xs ys : List ℕ) → Lies xs 0 (xs ++ ys)
lies-left xs ys = record {
  fits = omega (arith, length-append xs ys);
  same = λ j l. ap (slice_index (xs ++ ys)) (omega arith) ∙ get_or_append_left xs ys 0 j l;
}

pub lies-right : (xs ys : List ℕ) → Lies ys (length xs) (xs ++ ys)
lies-right xs ys = record {
  fits = omega (arith, length-append xs ys);
  same = λ j l. get_or-append-add xs ys j 0;
}

pub lies-within : (a b c : List ℕ) (i k n : ℕ) → Lies a i b → Lies b k c → n ≡ k + i → Lies a n c
lies-within a b c i k n inner outer e = record {
  fits = omega (arith, inner.fits, outer.fits, e);
  same = λ j l.
      let at : n + j ≡ k + (i + j) = omega (arith, e) in
      ap (slice_index c) at ∙ outer.same (i + j) (omega (arith, inner.fits, l)) ∙ inner.same j l;
}

pub lies-after : (x : ℕ) (xs : List ℕ) → Lies xs 1 (x ∷ xs)
lies-after x xs = record {
  fits = omega arith;
  same = λ j l. let at : 1 + j ≡ suc j = omega arith in ap (slice_index (x ∷ xs)) at;
}

-- ---- lists that are joined one after the other
joined_by : (f joined : ℕ → List ℕ) (m b : ℕ) → joined (suc m) ≡ joined m ++ f m → (b < m → Lies (f b) (length (joined b)) (joined m)) → (b ≡ m) ⊎ (b < m)
    → Lies (f b) (length (joined b)) (joined (suc m))
joined_by f joined m b more before (inl same) =
    subst (λ k. Lies (f k) (length (joined k)) (joined (suc m))) (sym same) (subst (λ xs. Lies (f m) (length (joined m)) xs) (sym more) (lies-right (joined m) (f m)))
joined_by f joined m b more before (inr l) =
    subst (λ xs. Lies (f b) (length (joined b)) xs) (sym more)
    (lies-within (f b) (joined m) (joined m ++ f m) (length (joined b)) 0 (length (joined b)) (before l) (lies-left (joined m) (f m)) (omega arith))

-- each lies after those before it
pub lies-joined : (f joined : ℕ → List ℕ) (m b : ℕ) → ((m : ℕ) → joined (suc m) ≡ joined m ++ f m) → b < m → Lies (f b) (length (joined b)) (joined m)
lies-joined f joined zero b more l = absurd (omega arith)
lies-joined f joined (suc m) b more l = joined_by f joined m b (more m) (lies-joined f joined m b more) (eq-or-lt_of_le (omega (arith, l)))

-- as they do where each has n elements
pub lies-flat_map : (f : ℕ → List ℕ) (n : ℕ) (xs : List ℕ) (i : ℕ) → ((x : ℕ) → length (f x) ≡ n) → i < length xs → Lies (f (slice_index xs i)) (n * i) (flat_map f xs)
lies-flat_map f n [] i even l = absurd (omega arith)
lies-flat_map f n (x ∷ xs) zero even l =
    let none : n * 0 ≡ 0 = omega arith in
    subst (λ k. Lies (f x) k (f x ++ flat_map f xs)) (sym none) (lies-left (f x) (flat_map f xs))
lies-flat_map f n (x ∷ xs) (suc i) even l =
    lies-within (f (slice_index xs i)) (flat_map f xs) (f x ++ flat_map f xs) (n * i) (length (f x)) (n * suc i) (lies-flat_map f n xs i even (omega (arith, l))) (lies-right (f x) (flat_map f xs))
    (omega (arith, even x))

-- ---- values that are listed
listed_by : (f : ℕ → ℕ) (n k : ℕ) → (k < n → slice_index (listed f n) k ≡ f k) → (k ≡ n) ⊎ (k < n) → slice_index (listed f (suc n)) k ≡ f k
listed_by f n k before (inl same) =
    let at : k ≡ length (listed f n) + 0 = omega (arith, same, length-listed f n) in
    ap (slice_index (listed f n ++ f n ∷ [])) at ∙ get_or-append-add (listed f n) (f n ∷ []) 0 0 ∙ ap f (sym same)
listed_by f n k before (inr l) =
    get_or_append_left (listed f n) (f n ∷ []) 0 k (omega (arith, l, length-listed f n)) ∙ before l

pub listed-at : (f : ℕ → ℕ) (n k : ℕ) → k < n → slice_index (listed f n) k ≡ f k
listed-at f zero k l = absurd (omega arith)
listed-at f (suc n) k l = listed_by f n k (listed-at f n k) (eq-or-lt_of_le (omega (arith, l)))
