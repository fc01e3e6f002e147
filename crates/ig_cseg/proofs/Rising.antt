-- Lists that rise.
use Rattle.std.proofs.Common.{arith, ◌≡◌, ◌<◌, ◌+◌, ℕ, zero, suc, false, List, [], ◌∷◌, length, slice_index, slice_index_or, ◌==◌, if◌then◌else◌, refl, ap, sym, subst, ◌∙◌, inl, inr, ◌⊎◌}
use Rattle.std.proofs.lemmas.Bool.{eq-eqb, ne_eqb}
use Rattle.std.proofs.lemmas.List.{get_or_default}
use Rattle.std.proofs.lemmas.List.Kept.{AllPairs-from_increasing}
use Rattle.std.specs.List.{Contains}
use Rattle.std.specs.List.Sorted.{IsStrictlyIncreasing}
use Rattle.ig_cseg.specs.CsegText.{distinct, index_in}
use Rattle.ig_cseg.proofs.DistinctOrder.{IsBelow, IsOf, Rises, distinct-of, distinct-rises, of-distinct}

-- ---- between the two ways to say it
of_at : (x : ℕ) (xs : List ℕ) (k : ℕ) → k < length xs → slice_index_or xs k x ≡ x → IsOf x xs
of_at x [] k l e = absurd (omega arith)
of_at x (y ∷ ys) zero l e = inl (sym e)
of_at x (y ∷ ys) (suc k) l e = inr (of_at x ys k (omega arith) e)

pub of-contained : (x : ℕ) (xs : List ℕ) → Contains xs x → IsOf x xs
of-contained x xs h = of_at x xs h.0 h.1 h.2

pub contains-of : (x : ℕ) (xs : List ℕ) → IsOf x xs → Contains xs x
contains-of x [] h = absurd h
contains-of x (y ∷ ys) (inl e) = (0, omega arith, sym e)
contains-of x (y ∷ ys) (inr h) =
    let c = contains-of x ys h in
    (suc c.0, omega (arith, c.1), c.2)

pub of-place : (xs : List ℕ) (k : ℕ) → k < length xs → IsOf (slice_index xs k) xs
of-place xs k l = of_at (slice_index xs k) xs k l (get_or_default xs k (slice_index xs k) 0 l)

pub rises-places : (xs : List ℕ) (i j : ℕ) → Rises xs → i < j → j < length xs → slice_index xs i < slice_index xs j
rises-places [] i j h l m = absurd (omega arith)
rises-places (x ∷ xs) i zero h l m = absurd (omega arith)
rises-places (x ∷ xs) zero (suc j) h l m = h.0 (slice_index xs j) (of-place xs j (omega arith))
rises-places (x ∷ xs) (suc i) (suc j) h l m = rises-places xs i j h.1 (omega arith) (omega arith)

pub increasing-from_rises : (xs : List ℕ) → Rises xs → IsStrictlyIncreasing xs
increasing-from_rises xs h k l = rises-places xs k (k + 1) h (omega arith) l

below_from : (x y : ℕ) (xs : List ℕ) → IsStrictlyIncreasing (x ∷ xs) → Contains xs y → x < y
below_from x y xs h c =
    let pair = AllPairs-from_increasing (x ∷ xs) h 0 (suc c.0) y (omega arith) (omega (arith, c.1)) in
    subst (λ n. x < n) c.2 pair

pub rises-from_increasing : (xs : List ℕ) → IsStrictlyIncreasing xs → Rises xs
rises-from_increasing [] h = tt
rises-from_increasing (x ∷ xs) h =
    let rest : IsStrictlyIncreasing xs = λ k l.
    let same : suc k + 1 ≡ suc (k + 1) = omega arith in
    subst (λ n. slice_index xs k < slice_index (x ∷ xs) n) same (h (suc k) (omega (arith, l))) in
    (λ y o. below_from x y xs h (contains-of y xs o), rises-from_increasing xs rest)

-- ---- rising lists with the same numbers are the same
heads : (x y : ℕ) (xs ys : List ℕ) → IsBelow x xs → IsBelow y ys → (x ≡ y) ⊎ IsOf x ys → (y ≡ x) ⊎ IsOf y xs → x ≡ y
heads x y xs ys p q (inl e) h = e
heads x y xs ys p q (inr o) (inl e) = sym e
heads x y xs ys p q (inr o) (inr r) = absurd (omega (arith, q x o, p y r))

tail_of : (x y z : ℕ) (ys : List ℕ) → x ≡ y → x < z → (z ≡ y) ⊎ IsOf z ys → IsOf z ys
tail_of x y z ys e l (inl same) = absurd (omega (arith, e, l, same))
tail_of x y z ys e l (inr o) = o

pub same-rising : (xs ys : List ℕ) → Rises xs → Rises ys → ((x : ℕ) → IsOf x xs → IsOf x ys) → ((x : ℕ) → IsOf x ys → IsOf x xs) → xs ≡ ys
same-rising [] [] p q to from = refl
same-rising [] (y ∷ ys) p q to from = absurd (from y (inl refl))
same-rising (x ∷ xs) [] p q to from = absurd (to x (inl refl))
same-rising (x ∷ xs) (y ∷ ys) p q to from =
    let first = heads x y xs ys p.0 q.0 (to x (inl refl)) (from y (inl refl)) in
    let rest = same-rising xs ys p.1 q.1 (λ z o. tail_of x y z ys first (p.0 z o) (to z (inr o))) (λ z o. tail_of y x z xs (sym first) (q.0 z o) (from z (inr o))) in
    cc

-- ---- where a label stands
pub index-at : (xs : List ℕ) (label k : ℕ) → Rises xs → k < length xs → slice_index xs k ≡ label → index_in xs label ≡ k
index-at [] label k h l e = absurd (omega arith)
index-at (x ∷ xs) label zero h l e = ap (λ b. if b then 0 else suc (index_in xs label)) (eq-eqb label x (sym e))
index-at (x ∷ xs) label (suc k) h l e =
    let above : x < slice_index xs k = h.0 (slice_index xs k) (of-place xs k (omega arith)) in
    let apart : (label == x) ≡ false = ne_eqb label x (λ same. omega (arith, above, e, same)) in
    let deeper = index-at xs label k h.1 (omega arith) e in
    ap (λ b. if b then 0 else suc (index_in xs label)) apart ∙ ap suc deeper

pub index-below : (xs : List ℕ) (label : ℕ) → Rises xs → IsOf label xs → index_in xs label < length xs
index-below xs label h o =
    let c = contains-of label xs o in
    omega (arith, index-at xs label c.0 h c.1 (get_or_default xs c.0 0 label c.1 ∙ c.2), c.1)

-- ---- the table of labels
pub distinct-increasing : (ls : List ℕ) → IsStrictlyIncreasing (distinct ls)
distinct-increasing ls = increasing-from_rises (distinct ls) (distinct-rises ls)

pub distinct-contains : (ls : List ℕ) (k : ℕ) → k < length ls → Contains (distinct ls) (slice_index ls k)
distinct-contains ls k l = contains-of (slice_index ls k) (distinct ls) (of-distinct (slice_index ls k) ls (of-place ls k l))

-- a rising list with the labels
pub distinct-is : (xs ls : List ℕ) → IsStrictlyIncreasing xs → ((x : ℕ) → Contains xs x → Contains ls x) → ((x : ℕ) → Contains ls x → Contains xs x) → xs ≡ distinct ls
distinct-is xs ls h to from =
    same-rising xs (distinct ls) (rises-from_increasing xs h) (distinct-rises ls)
    (λ x o. of-distinct x ls (of-contained x ls (to x (contains-of x xs o))))
    (λ x o. of-contained x xs (from x (contains-of x ls (distinct-of x ls o))))
