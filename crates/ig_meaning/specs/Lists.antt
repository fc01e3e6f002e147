-- Values by their numbers: the first that is there, and lists of them.
use Rattle.std.specs.Prelude.{◌≡◌, ◌⊎◌, ◌<◌, ℕ, zero, suc, List, [], ◌∷◌, ◌++◌, Option, Some, None, Contains, refl}
use Rattle.std.proofs.Common.{arith, ap, sym, subst, ◌∙◌, inl, inr}
use Rattle.std.proofs.lemmas.List.Elements.{Contains-append_left, Contains-push, Contains-push_cases}
use Rattle.std.proofs.lemmas.Option.{none-some}
use Rattle.ig_space.specs.Chunks.{listed}
use Rattle.ig_layer.specs.Faults.{first_of, or_else}
use Rattle.ig_layer.specs.Listed.{IsValue}
use Rattle.ig_layer.specs.Texts.{all_listed, with_last}

-- ---- the first that is there
from_either : {A : Type 0} (f : ℕ → Option A) (n : ℕ) (x : A) (front : Option A) → first_of f n ≡ front → (first_of f n ≡ Some x → IsValue f n x) → or_else front (f n) ≡ Some x → IsValue f (suc n) x
from_either f n x (Some y) is before e = let v = before (is ∙ e) in record { number = v.number; below = omega (arith, v.below); is = v.is }
from_either f n x None is before e = record { number = n; below = omega arith; is = e }

-- is one of the values
pub first_of-from : {A : Type 0} (f : ℕ → Option A) (n : ℕ) (x : A) → first_of f n ≡ Some x → IsValue f n x
first_of-from f zero x e = absurd (none-some x e)
first_of-from f (suc n) x e = from_either f n x (first_of f n) refl (first_of-from f n x) e

last_is : {A : Type 0} (x : A) (front back : Option A) → back ≡ Some x → ((y : A) → front ≡ Some y → y ≡ x) → or_else front back ≡ Some x
last_is x None back is same = is
last_is x (Some y) back is same = ap Some (same y refl)

below_or_last : (k n : ℕ) → k < suc n → (k < n) ⊎ (k ≡ n)
below_or_last k n below = grind arith

first_by : {A : Type 0} (f : ℕ → Option A) (n k : ℕ) (x : A) → f k ≡ Some x → ((i : ℕ) (y : A) → i < suc n → f i ≡ Some y → y ≡ x) → (k < n → first_of f n ≡ Some x) → (k < n) ⊎ (k ≡ n) → first_of f (suc n) ≡ Some x
first_by f n k x is same before (inl less) = ap (λ o. or_else o (f n)) (before less)
first_by f n k x is same before (inr last) =
    last_is x (first_of f n) (f n) (ap f (sym last) ∙ is)
    (λ y e. let v = first_of-from f n y e in same v.number y (omega (arith, v.below)) v.is)

-- and is this one, where no other is there
pub first_of-is : {A : Type 0} (f : ℕ → Option A) (n k : ℕ) (x : A) → k < n → f k ≡ Some x → ((i : ℕ) (y : A) → i < n → f i ≡ Some y → y ≡ x) → first_of f n ≡ Some x
first_of-is f zero k x below is same = absurd (omega (arith, below))
first_of-is f (suc n) k x below is same =
    first_by f n k x is same (λ less. first_of-is f n k x less is (λ i y few e. same i y (omega (arith, few)) e)) (below_or_last k n below)

-- ---- all of them
-- the value is that of a number below n
pub record IsNumbered {A : Type 0} (f : ℕ → A) (n : ℕ) (x : A) : Type 0 where
  pub number : ℕ
  pub below : number < n
  pub is : f number ≡ x

numbered_by : {A : Type 0} (f : ℕ → A) (n : ℕ) (x : A) → (Contains (listed f n) x → IsNumbered f n x) → Contains (listed f n) x ⊎ (f n ≡ x) → IsNumbered f (suc n) x
numbered_by f n x before (inl among) = let v = before among in record { number = v.number; below = omega (arith, v.below); is = v.is }
numbered_by f n x before (inr last) = record { number = n; below = omega arith; is = last }

pub listed-from : {A : Type 0} (f : ℕ → A) (n : ℕ) (x : A) → Contains (listed f n) x → IsNumbered f n x
listed-from f zero x h = absurd (omega (arith, h.1))
listed-from f (suc n) x h = numbered_by f n x (listed-from f n x) (Contains-push_cases (listed f n) (f n) x h)

has_by : {A : Type 0} (f : ℕ → A) (n k : ℕ) → (k < n → Contains (listed f n) (f k)) → (k < n) ⊎ (k ≡ n) → Contains (listed f (suc n)) (f k)
has_by f n k before (inl less) = Contains-append_left (listed f n) (f n ∷ []) (f k) (before less)
has_by f n k before (inr last) = subst (λ x. Contains (listed f n ++ f n ∷ []) x) (ap f (sym last)) (Contains-push (listed f n) (f n))

pub listed-has : {A : Type 0} (f : ℕ → A) (n k : ℕ) → k < n → Contains (listed f n) (f k)
listed-has f zero k below = absurd (omega (arith, below))
listed-has f (suc n) k below = has_by f n k (listed-has f n k) (below_or_last k n below)

-- ---- all that are there
-- the values of one function are those of another wherever they are there
abbrev pub Grows : {A : Type 0} → (ℕ → Option A) → (ℕ → Option A) → Type 0
Grows {A} f g = (k : ℕ) (x : A) → f k ≡ Some x → g k ≡ Some x

with_last-grows : {A : Type 0} (front more : Option (List A)) (back last : Option A) (xs : List A) → ((ys : List A) → front ≡ Some ys → more ≡ Some ys) → ((x : A) → back ≡ Some x → last ≡ Some x)
    → with_last front back ≡ Some xs → with_last more last ≡ Some xs
with_last-grows None more back last xs fronts backs e = absurd (none-some xs e)
with_last-grows (Some ys) more None last xs fronts backs e = absurd (none-some xs e)
with_last-grows (Some ys) more (Some x) last xs fronts backs e = ap (λ o. with_last o last) (fronts ys refl) ∙ ap (with_last (Some ys)) (backs x refl) ∙ e

pub all_listed-grows : {A : Type 0} (f g : ℕ → Option A) → Grows f g → (n : ℕ) (xs : List A) → all_listed f n ≡ Some xs → all_listed g n ≡ Some xs
all_listed-grows f g grows zero xs e = e
all_listed-grows f g grows (suc n) xs e = with_last-grows (all_listed f n) (all_listed g n) (f n) (g n) xs (all_listed-grows f g grows n) (grows n) e
