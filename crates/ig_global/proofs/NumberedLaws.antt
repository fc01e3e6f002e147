-- Numbers of classes read only what nodes have.
use Rattle.std.proofs.Common.{ℕ, zero, suc, ◌<◌, Bool, ◌≡◌, cond, min, ◌&&◌, eqb, ltb, refl, ap, arith}
use Rattle.ig_graph.specs.Counts.{how_many}
use Rattle.ig_graph.specs.Numbers.{lowest, first_of_class, is_class_before, number_of}

pub same-count : (s t : ℕ → Bool) (n : ℕ) → ((i : ℕ) → i < n → s i ≡ t i) → how_many s n ≡ how_many t n
same-count s t zero h = refl
same-count s t (suc n) h =
    let less = same-count s t n (λ i l. h i (omega arith)) in
    let here = h n (omega arith) in
    λ i. cond (here i) (suc (less i)) (less i)

same_lowest : (s t : ℕ → Bool) (v w : ℕ → ℕ) (n other more : ℕ) → ((i : ℕ) → i < n → s i ≡ t i) → ((i : ℕ) → i < n → v i ≡ w i) → other ≡ more
    → lowest s v n other ≡ lowest t w n more
same_lowest s t v w zero other more hs hv e = e
same_lowest s t v w (suc n) other more hs hv e =
    let less = same_lowest s t v w n other more (λ i l. hs i (omega arith)) (λ i l. hv i (omega arith)) e in
    let here = hs n (omega arith) in
    let value = hv n (omega arith) in
    λ i. cond (here i) (min (value i) (less i)) (less i)

-- the same classes and first values
module _ (c d f h : ℕ → ℕ) (n : ℕ) (classes : (i : ℕ) → i < n → c i ≡ d i) (firsts : (i : ℕ) → i < n → f i ≡ h i) where
  same_first : (a : ℕ) → a < n → first_of_class c f n a ≡ first_of_class d h n a
  same_first a l =
      same_lowest (λ b. eqb (c b) (c a)) (λ b. eqb (d b) (d a)) f h n (f a) (h a)
      (λ b lb. let here = classes b lb in let there = classes a l in λ i. eqb (here i) (there i)) firsts (firsts a l)

  same_before : (a b : ℕ) → a < n → b < n → is_class_before c f n (first_of_class c f n a) b ≡ is_class_before d h n (first_of_class d h n a) b
  same_before a b la lb =
      let class = classes b lb in
      let own = same_first b lb in
      let other = same_first a la in
      λ i. eqb (class i) b && ltb (own i) (other i)

  pub same-number : (a : ℕ) → a < n → number_of c f n a ≡ number_of d h n a
  same-number a l =
      ap suc (same-count (is_class_before c f n (first_of_class c f n a)) (is_class_before d h n (first_of_class d h n a)) n (λ b lb. same_before a b l lb))
