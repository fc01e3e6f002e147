-- Laws on paths: joined is what nodes reach.
use Rattle.std.proofs.Common.{ℕ, zero, suc, ◌<◌, Bool, true, false, ◌≡◌, ◌&&◌, ◌||◌, eqb, List, [], ◌∷◌, ◌++◌, refl, sym, ap, subst, ◌⊎◌, inl, inr, arith}
use Rattle.std.proofs.lemmas.Bool.{and_parts, and_from, or_cases, eqb-true, eq-eqb, ltb-true, cases_eq}
use Rattle.ig_graph.specs.Graph.{Graph, is_in, steps, IsSymmetric, IsPath, Joined, reaches}

pub or_first : (x y : Bool) → x ≡ true → (x || y) ≡ true
or_first x y h = ap (λ b. b || y) h

pub or_second : (x y : Bool) → y ≡ true → (x || y) ≡ true
or_second true y h = refl
or_second false y h = h

-- ---- steps
pub steps-from : (g : Graph) (p q : ℕ) → steps g p q ≡ true → is_in g p ≡ true
steps-from g p q h = (and_parts _ _ h).0

pub steps-to : (g : Graph) (p q : ℕ) → steps g p q ≡ true → is_in g q ≡ true
steps-to g p q h = (and_parts _ _ (and_parts _ _ h).1).0

pub steps-adj : (g : Graph) (p q : ℕ) → steps g p q ≡ true → g.adj p q ≡ true
steps-adj g p q h = (and_parts _ _ (and_parts _ _ h).1).1

pub steps-is : (g : Graph) (p q : ℕ) → is_in g p ≡ true → is_in g q ≡ true → g.adj p q ≡ true → steps g p q ≡ true
steps-is g p q a b c = and_from _ _ a (and_from _ _ b c)

pub steps-sym : (g : Graph) → IsSymmetric g → (p q : ℕ) → steps g p q ≡ true → steps g q p ≡ true
steps-sym g both p q h = steps-is g q p (steps-to g p q h) (steps-from g p q h) (both p q (steps-adj g p q h))

pub in-below : (g : Graph) (p : ℕ) → is_in g p ≡ true → p < g.size
in-below g p h = ltb-true p g.size (and_parts _ _ h).0

-- ---- paths
pub path-append : (g : Graph) (p q r : ℕ) (xs ys : List ℕ) → IsPath g p xs q → IsPath g q ys r → IsPath g p (xs ++ ys) r
path-append g p q r [] ys a b = subst (λ s. IsPath g s ys r) (sym a) b
path-append g p q r (x ∷ xs) ys a b = (a.0, path-append g x q r xs ys a.1 b)

pub Joined-self : (g : Graph) (p : ℕ) → Joined g p p
Joined-self g p = ([], refl)

pub Joined-same : (g : Graph) (p q : ℕ) → p ≡ q → Joined g p q
Joined-same g p q e = ([], e)

pub Joined-step : (g : Graph) (p q : ℕ) → steps g p q ≡ true → Joined g p q
Joined-step g p q h = (q ∷ [], (h, refl))

pub Joined-trans : (g : Graph) (p q r : ℕ) → Joined g p q → Joined g q r → Joined g p r
Joined-trans g p q r a b = (a.0 ++ b.0, path-append g p q r a.0 b.0 a.1 b.1)

path-back : (g : Graph) → IsSymmetric g → (p q : ℕ) (xs : List ℕ) → IsPath g p xs q → Joined g q p
path-back g both p q [] a = ([], sym a)
path-back g both p q (x ∷ xs) a = Joined-trans g q x p (path-back g both x q xs a.1) (Joined-step g x p (steps-sym g both p x a.0))

pub Joined-sym : (g : Graph) → IsSymmetric g → (p q : ℕ) → Joined g p q → Joined g q p
Joined-sym g both p q a = path-back g both p q a.0 a.1

-- what each step keeps is kept along a path
pub path-keeps : (g : Graph) (P : ℕ → Type 0) → ((p q : ℕ) → steps g p q ≡ true → P p → P q) → (p q : ℕ) (xs : List ℕ) → IsPath g p xs q → P p → P q
path-keeps g P keeps p q [] a h = subst P a h
path-keeps g P keeps p q (x ∷ xs) a h = path-keeps g P keeps x q xs a.1 (keeps p x a.0 h)

pub Joined-in : (g : Graph) (p q : ℕ) → Joined g p q → is_in g p ≡ true → is_in g q ≡ true
Joined-in g p q a h = path-keeps g (λ x. is_in g x ≡ true) (λ x y s i. steps-to g x y s) p q a.0 a.1 h

-- ---- what nodes reach
reaches-or : (g : Graph) (k p q : ℕ) → (reaches g k p q || (reaches g k p k && reaches g k k q)) ≡ true
    → (reaches g k p q ≡ true) ⊎ ((reaches g k p k ≡ true) × (reaches g k k q ≡ true))
reaches-or g k p q h = by_case (or_cases _ _ h) where
  by_case : (reaches g k p q ≡ true) ⊎ ((reaches g k p k && reaches g k k q) ≡ true) → (reaches g k p q ≡ true) ⊎ ((reaches g k p k ≡ true) × (reaches g k k q ≡ true))
  by_case (inl a) = inl a
  by_case (inr b) = inr (and_parts _ _ b)

reaches-direct : (g : Graph) (k p q : ℕ) → reaches g k p q ≡ true → reaches g (suc k) p q ≡ true
reaches-direct g k p q h = or_first _ _ h

reaches-through : (g : Graph) (k p q : ℕ) → reaches g k p k ≡ true → reaches g k k q ≡ true → reaches g (suc k) p q ≡ true
reaches-through g k p q a b = or_second _ _ (and_from _ _ a b)

reaches-joined : (g : Graph) (k p q : ℕ) → reaches g k p q ≡ true → Joined g p q
reaches-joined g zero p q h = by_case (or_cases _ _ h) where
  by_case : (eqb p q ≡ true) ⊎ (steps g p q ≡ true) → Joined g p q
  by_case (inl e) = ([], eqb-true p q e)
  by_case (inr s) = Joined-step g p q s
reaches-joined g (suc k) p q h =
    both_ways_joined g k p q (λ a. reaches-joined g k p q a) (λ a. reaches-joined g k p k a) (λ a. reaches-joined g k k q a) (reaches-or g k p q h) where
      both_ways_joined : (g : Graph) (k p q : ℕ) → (reaches g k p q ≡ true → Joined g p q) → (reaches g k p k ≡ true → Joined g p k) → (reaches g k k q ≡ true → Joined g k q)
          → (reaches g k p q ≡ true) ⊎ ((reaches g k p k ≡ true) × (reaches g k k q ≡ true)) → Joined g p q
      both_ways_joined g k p q a b c (inl h) = a h
      both_ways_joined g k p q a b c (inr h) = Joined-trans g p k q (b h.0) (c h.1)

-- at the last number there is nothing to go around
to_last : (g : Graph) (k p : ℕ) → reaches g (suc k) p k ≡ true → reaches g k p k ≡ true
to_last g k p h = by_case (reaches-or g k p k h) where
  by_case : (reaches g k p k ≡ true) ⊎ ((reaches g k p k ≡ true) × (reaches g k k k ≡ true)) → reaches g k p k ≡ true
  by_case (inl a) = a
  by_case (inr b) = b.0

from_last : (g : Graph) (k q : ℕ) → reaches g (suc k) k q ≡ true → reaches g k k q ≡ true
from_last g k q h = by_case (reaches-or g k k q h) where
  by_case : (reaches g k k q ≡ true) ⊎ ((reaches g k k k ≡ true) × (reaches g k k q ≡ true)) → reaches g k k q ≡ true
  by_case (inl a) = a
  by_case (inr b) = b.1

-- it goes on through each number below k
abbrev GoesOn : Graph → ℕ → Type 0
GoesOn g k = (p m q : ℕ) → m < k → reaches g k p m ≡ true → reaches g k m q ≡ true → reaches g k p q ≡ true

goes_on_more : (g : Graph) (k : ℕ) → GoesOn g k → (p m q : ℕ) → m < k
    → (reaches g k p m ≡ true) ⊎ ((reaches g k p k ≡ true) × (reaches g k k m ≡ true))
    → (reaches g k m q ≡ true) ⊎ ((reaches g k m k ≡ true) × (reaches g k k q ≡ true)) → reaches g (suc k) p q ≡ true
goes_on_more g k on p m q l (inl a) (inl b) = reaches-direct g k p q (on p m q l a b)
goes_on_more g k on p m q l (inl a) (inr b) = reaches-through g k p q (on p m k l a b.0) b.1
goes_on_more g k on p m q l (inr a) (inl b) = reaches-through g k p q a.0 (on k m q l a.1 b)
goes_on_more g k on p m q l (inr a) (inr b) = reaches-through g k p q a.0 b.1

pub goes_on : (g : Graph) (k : ℕ) → GoesOn g k
goes_on g zero p m q l a b = absurd (omega arith)
goes_on g (suc k) p m q l a b = by_case g k p m q (goes_on g k) l a b (cases_eq m k) where
  by_case : (g : Graph) (k p m q : ℕ) → GoesOn g k → m < suc k → reaches g (suc k) p m ≡ true → reaches g (suc k) m q ≡ true → (m ≡ k) ⊎ (m ≡ k → ⊥) → reaches g (suc k) p q ≡ true
  by_case g k p m q on l a b (inl e) =
      reaches-through g k p q (to_last g k p (subst (λ x. reaches g (suc k) p x ≡ true) e a)) (from_last g k q (subst (λ x. reaches g (suc k) x q ≡ true) e b))
  by_case g k p m q on l a b (inr e) = goes_on_more g k on p m q (omega arith) (reaches-or g k p m a) (reaches-or g k m q b)

reaches-start : (g : Graph) (k p q : ℕ) → reaches g zero p q ≡ true → reaches g k p q ≡ true
reaches-start g zero p q h = h
reaches-start g (suc k) p q h = reaches-direct g k p q (reaches-start g k p q h)

path-reaches : (g : Graph) (p q : ℕ) (xs : List ℕ) → IsPath g p xs q → reaches g g.size p q ≡ true
path-reaches g p q [] a = reaches-start g g.size p q (or_first _ _ (eq-eqb p q a))
path-reaches g p q (x ∷ xs) a =
    goes_on g g.size p x q (in-below g x (steps-to g p x a.0)) (reaches-start g g.size p x (or_second _ _ a.0)) (path-reaches g x q xs a.1)

-- over all numbers a number reaches what is joined with it, and nothing else
pub Joined-reaches : (g : Graph) (p q : ℕ) → Joined g p q → reaches g g.size p q ≡ true
Joined-reaches g p q a = path-reaches g p q a.0 a.1

pub reaches-Joined : (g : Graph) (p q : ℕ) → reaches g g.size p q ≡ true → Joined g p q
reaches-Joined g p q h = reaches-joined g g.size p q h
