-- What operations on vectors of four labels hold at each lane.
use Rattle.std.proofs.Common.{◌≡◌, ℕ, zero, suc, ◌+◌, ◌-◌, ◌*◌, ◌<◌, ◌≤◌, List, ◌++◌, Bool, true, false, ◌||◌, cond, eqb, length, get_or, ap, subst, sym, ◌∙◌, refl, ⊎_elim, arith}
use Rattle.std.proofs.lemmas.Bool.{cases_lt}
use Rattle.std.proofs.lemmas.List.{get_or-append_right, get_or_append_left}
use Rattle.std.specs.Simd.Lanes.{zip2, sel_l}
use Rattle.std.proofs.lemmas.Simd.{length-zip2, get_or-zip2, length-sel_l, get_or-sel_l}
use Rattle.ig_mode.specs.Lanes.{HasLanes}
use Rattle.ig_mode.specs.Mode.{block_mode, edge, mode_of}

-- what holds of each of the four lanes
pub below_four : (P : ℕ → Type 0) → P 0 → P 1 → P 2 → P 3 → (j : ℕ) → j < 4 → P j
below_four P p0 p1 p2 p3 zero h = p0
below_four P p0 p1 p2 p3 (suc zero) h = p1
below_four P p0 p1 p2 p3 (suc (suc zero)) h = p2
below_four P p0 p1 p2 p3 (suc (suc (suc zero))) h = p3
below_four P p0 p1 p2 p3 (suc (suc (suc (suc n)))) h = absurd (omega arith)

-- a choice of two vectors by the comparison of two others
pub lanes-chosen : (a b x y : List ℕ) → length a ≡ 4 → length b ≡ 4 → length x ≡ 4 → length y ≡ 4
    → HasLanes (sel_l (zip2 eqb a b) x y) (λ k. cond (eqb (get_or a k 0) (get_or b k 0)) (get_or x k 0) (get_or y k 0))
lanes-chosen a b x y p q r s =
    let long : length (zip2 eqb a b) ≡ 4 = length-zip2 eqb a b (p ∙ sym q) ∙ p in
    record {
      long = length-sel_l _ x y (long ∙ sym r) (long ∙ sym s) ∙ long;
      each = λ k l.
          get_or-sel_l _ x y k 0 (omega arith) (omega arith) (omega arith)
          ∙ (λ i. cond (get_or-zip2 eqb a b k 0 0 false (omega arith) (omega arith) i) (get_or x k 0) (get_or y k 0));
    }

-- what two vectors hold side by side, and what is picked of them
pub lane-of_two : (u v : List ℕ) (f : ℕ → ℕ) → HasLanes u f → HasLanes v (λ k. f (4 + k)) → (p : ℕ) → p < 8 → get_or (u ++ v) p 0 ≡ f p
lane-of_two u v f low high p below = ⊎_elim in_low in_high (cases_lt p 4)
  where
    in_low : p < 4 → get_or (u ++ v) p 0 ≡ f p
    in_low h = get_or_append_left u v 0 p (omega (arith, low.long)) ∙ low.each p h

    in_high : 4 ≤ p → get_or (u ++ v) p 0 ≡ f p
    in_high h =
        let same : 4 + (p - 4) ≡ p = omega arith in
        get_or-append_right u v 4 p 0 low.long h ∙ high.each (p - 4) (omega arith) ∙ ap f same

pub lanes-later : (v row : List ℕ) (at : ℕ) → HasLanes v (λ k. get_or row (at + 4 + k) 0) → HasLanes v (λ k. get_or row (at + (4 + k)) 0)
lanes-later v row at h = record {
  long = h.long;
  each = λ k l. let same : at + 4 + k ≡ at + (4 + k) = omega arith in h.each k l ∙ ap (λ p. get_or row p 0) same;
}

one_of : (a b d : ℕ) (s t r : Bool) → cond s a (cond t a (cond r b d)) ≡ cond (s || t) a (cond r b d)
one_of a b d true t r = refl
one_of a b d false t r = refl

-- three choices are the mode
pub lanes-modes : (a b c d u v w : List ℕ)
    → HasLanes u (λ k. cond (eqb (get_or b k 0) (get_or c k 0)) (get_or b k 0) (get_or d k 0))
    → HasLanes v (λ k. cond (eqb (get_or a k 0) (get_or c k 0)) (get_or a k 0) (get_or u k 0))
    → HasLanes w (λ k. cond (eqb (get_or a k 0) (get_or b k 0)) (get_or a k 0) (get_or v k 0))
    → HasLanes w (λ k. mode_of (get_or a k 0) (get_or b k 0) (get_or c k 0) (get_or d k 0))
lanes-modes a b c d u v w last second first = record {
  long = first.long;
  each = λ k l.
      first.each k l
      ∙ ap (λ x. cond (eqb (get_or a k 0) (get_or b k 0)) (get_or a k 0) x)
      (second.each k l ∙ ap (λ x. cond (eqb (get_or a k 0) (get_or c k 0)) (get_or a k 0) x) (last.each k l))
      ∙ one_of (get_or a k 0) (get_or b k 0) (get_or d k 0) (eqb (get_or a k 0) (get_or b k 0)) (eqb (get_or a k 0) (get_or c k 0)) (eqb (get_or b k 0) (get_or c k 0));
}

-- block 4 n + j of two rows, by its labels
pub block-lane : (side n j : ℕ) (upper lower : List ℕ) → j < 4 → 8 * n + 8 ≤ side
    → mode_of (get_or upper (8 * n + 2 * j) 0) (get_or upper (8 * n + (2 * j + 1)) 0) (get_or lower (8 * n + 2 * j) 0) (get_or lower (8 * n + (2 * j + 1)) 0)
    ≡ block_mode side upper lower (4 * n + j)
block-lane side n j upper lower below within =
    let left : 8 * n + 2 * j ≡ 2 * (4 * n + j) = omega arith in
    let right : 8 * n + (2 * j + 1) ≡ edge side (2 * (4 * n + j) + 1) = omega arith in
    λ i. mode_of (get_or upper (left i) 0) (get_or upper (right i) 0) (get_or lower (left i) 0) (get_or lower (right i) 0)

-- what holds of all before, and of four more
pub four-more : (P : ℕ → Type 0) (n : ℕ) → ((k : ℕ) → k < 4 * n → P k) → ((j : ℕ) → j < 4 → P (4 * n + j)) → (k : ℕ) → k < 4 * (n + 1) → P k
four-more P n before here k below = ⊎_elim (before k) then (cases_lt k (4 * n))
  where
    then : 4 * n ≤ k → P k
    then h = let same : 4 * n + (k - 4 * n) ≡ k = omega arith in subst P same (here (k - 4 * n) (omega arith))

-- four blocks by the lanes of their labels
pub fours-are : (side n : ℕ) (upper lower a b c d m : List ℕ) → 8 * n + 8 ≤ side
    → HasLanes a (λ k. get_or upper (8 * n + 2 * k) 0) → HasLanes b (λ k. get_or upper (8 * n + (2 * k + 1)) 0)
    → HasLanes c (λ k. get_or lower (8 * n + 2 * k) 0) → HasLanes d (λ k. get_or lower (8 * n + (2 * k + 1)) 0)
    → HasLanes m (λ k. mode_of (get_or a k 0) (get_or b k 0) (get_or c k 0) (get_or d k 0))
    → (j : ℕ) → j < 4 → get_or m j 0 ≡ block_mode side upper lower (4 * n + j)
fours-are side n upper lower a b c d m within in_a in_b in_c in_d modes j below =
    modes.each j below
    ∙ (λ i. mode_of (in_a.each j below i) (in_b.each j below i) (in_c.each j below i) (in_d.each j below i))
    ∙ block-lane side n j upper lower below within
