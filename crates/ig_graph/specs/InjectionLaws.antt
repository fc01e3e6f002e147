-- Laws on counting by maps that take no two numbers to the same.
use Rattle.std.proofs.Common.{ℕ, zero, suc, ◌<◌, ◌≤◌, Bool, true, false, ◌≡◌, cond, ◌&&◌, not, eqb, refl, sym, ap, ◌∙◌, subst, ◌⊎◌, inl, inr, arith}
use Rattle.std.proofs.lemmas.Bool.{and_right, eq-eqb, ne_eqb, cases_eq}
use Rattle.ig_graph.specs.Counts.{how_many, IsInjection}
use Rattle.ig_graph.specs.CountLaws.{how_many-pass}

-- those that pass, without k
abbrev without : (ℕ → Bool) → ℕ → ℕ → Bool
without q k i = q i && not (eqb i k)

without-out : (q : ℕ → Bool) (k : ℕ) → without q k k ≡ false
without-out q k = and_right (q k) (not (eqb k k)) (ap not (eq-eqb k k refl))

without-other : (q : ℕ → Bool) (k i : ℕ) → (i ≡ k → ⊥) → without q k i ≡ q i
without-other q k i n = ap (λ b. q i && not b) (ne_eqb i k n) ∙ and_yes (q i) where
  and_yes : (b : Bool) → (b && true) ≡ b
  and_yes true = refl
  and_yes false = refl

count_step : (p q : ℕ → Bool) (n : ℕ) → p n ≡ q n → how_many p n ≡ how_many q n → how_many p (suc n) ≡ how_many q (suc n)
count_step p q n e h = ap (λ b. cond b (suc (how_many p n)) (how_many p n)) e ∙ ap (λ c. cond (q n) (suc c) c) h

same-count : (p q : ℕ → Bool) (n : ℕ) → ((i : ℕ) → i < n → p i ≡ q i) → how_many p n ≡ how_many q n
same-count p q zero h = refl
same-count p q (suc n) h = count_step p q n (h n (omega arith)) (same-count p q n (λ i l. h i (omega arith)))

how_many-fail : (test : ℕ → Bool) (n : ℕ) → test n ≡ false → how_many test (suc n) ≡ how_many test n
how_many-fail test n e = ap (λ b. cond b (suc (how_many test n)) (how_many test n)) e

-- one number less passes without one that does
one_less : (q : ℕ → Bool) (k m : ℕ) → k < m → q k ≡ true → how_many q m ≡ suc (how_many (without q k) m)
one_less q k zero l e = absurd (omega arith)
one_less q k (suc m) l e = by_case q k m l e (λ h. one_less q k m h e) (cases_eq k m) where
  last : (q : ℕ → Bool) (k m : ℕ) → k < m → (b : Bool) → q m ≡ b → how_many q m ≡ suc (how_many (without q k) m) → how_many q (suc m) ≡ suc (how_many (without q k) (suc m))
  last q k m l true e h =
      let other = without-other q k m (λ s. absurd (omega arith)) in
      how_many-pass q m e ∙ ap suc h ∙ ap suc (sym (how_many-pass (without q k) m (other ∙ e)))
  last q k m l false e h =
      let other = without-other q k m (λ s. absurd (omega arith)) in
      how_many-fail q m e ∙ h ∙ ap suc (sym (how_many-fail (without q k) m (other ∙ e)))

  by_case : (q : ℕ → Bool) (k m : ℕ) → k < suc m → q k ≡ true → (k < m → how_many q m ≡ suc (how_many (without q k) m)) → (k ≡ m) ⊎ (k ≡ m → ⊥)
      → how_many q (suc m) ≡ suc (how_many (without q k) (suc m))
  by_case q k m l e less (inl s) =
      let here : without q k m ≡ false = subst (λ i. without q k i ≡ false) s (without-out q k) in
      how_many-pass q m (subst (λ i. q i ≡ true) s e)
      ∙ ap suc (same-count q (without q k) m (λ i below. sym (without-other q k i (λ t. absurd (omega arith)))))
      ∙ ap suc (sym (how_many-fail (without q k) m here))
  by_case q k m l e less (inr n) = let h : k < m = omega arith in last q k m h (q m) refl (less h)

fewer_step : (p : ℕ → Bool) (n : ℕ) (q : ℕ → Bool) (m : ℕ) (f : ℕ → ℕ) → ((r : ℕ → Bool) → IsInjection p n r m f → how_many p n ≤ how_many r m)
    → IsInjection p (suc n) q m f → (b : Bool) → p n ≡ b → how_many p (suc n) ≤ how_many q m
fewer_step p n q m f less inj true e =
    let into = f n in
    let one = one_less q (f n) m (inj.below n (omega arith) e) (inj.passes n (omega arith) e) in
    let rest = less (without q (f n)) (record {
      below = λ i l h. inj.below i (omega arith) h;
      passes = λ i l h. without-other q (f n) (f i) (λ s. absurd (omega (arith, inj.apart i n (omega arith) (omega arith) h e s))) ∙ inj.passes i (omega arith) h;
      apart = λ i j li lj hi hj s. inj.apart i j (omega arith) (omega arith) hi hj s;
    }) in
    omega (arith, how_many-pass p n e, one, rest)
fewer_step p n q m f less inj false e =
    let rest = less q (record {
      below = λ i l h. inj.below i (omega arith) h;
      passes = λ i l h. inj.passes i (omega arith) h;
      apart = λ i j li lj hi hj s. inj.apart i j (omega arith) (omega arith) hi hj s;
    }) in
    omega (arith, how_many-fail p n e, rest)

pub fewer : (p : ℕ → Bool) (n : ℕ) (q : ℕ → Bool) (m : ℕ) (f : ℕ → ℕ) → IsInjection p n q m f → how_many p n ≤ how_many q m
fewer p zero q m f inj = omega arith
fewer p (suc n) q m f inj = fewer_step p n q m f (λ r h. fewer p n r m f h) inj (p n) refl

pub as_many : (p : ℕ → Bool) (n : ℕ) (q : ℕ → Bool) (m : ℕ) (f g : ℕ → ℕ) → IsInjection p n q m f → IsInjection q m p n g → how_many p n ≡ how_many q m
as_many p n q m f g there back = omega (arith, fewer p n q m f there, fewer q m p n g back)
