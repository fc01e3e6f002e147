-- The elements of lists, and of the lists that a worker keeps.
use Rattle.std.specs.Prelude.{◌≡◌, ◌⊎◌, ◌<◌, ◌==◌, ℕ, zero, suc, nat_lt, Bool, true, false, if◌then◌else◌, List, [], ◌∷◌, length, filter, get_or, map, Option, None, Some, IsSome, Contains, refl}
use Rattle.std.specs.List.{list_any}
use Rattle.std.proofs.Common.{arith, cond, inl, inr, ap, sym, subst, true≢false, ◌∙◌}
use Rattle.std.proofs.lemmas.Bool.{eqb-true, or_parts}
use Rattle.std.proofs.lemmas.List.Elements.{All-contains, All-contains_itself, All-filter, Contains-append_right, filter_passes}
use Rattle.std.proofs.lemmas.Option.{none-some, same_Some}
use Rattle.ig_record.specs.declared.stage.Stage.{Stage}
use Rattle.ig_worker.specs.Stages.{Known, stage_in, with_stage}

-- ---- elements
pub first_in : {A : Type 0} (x : A) (xs : List A) → Contains (x ∷ xs) x
first_in x xs = (zero, omega arith, refl)

pub later_in : {A : Type 0} (x : A) (xs : List A) (y : A) → Contains xs y → Contains (x ∷ xs) y
later_in x xs y h = Contains-append_right (x ∷ []) xs y h

pub none_in : {A : Type 0} (y : A) → Contains [] y → ⊥
none_in y h = absurd (omega (arith, h.1))

-- a list without an element
pub is_empty : {A : Type 0} (xs : List A) → ((x : A) → Contains xs x → ⊥) → xs ≡ []
is_empty [] none = refl
is_empty (x ∷ xs) none = absurd (none x (first_in x xs))

pub none_in_both : {A : Type 0} (y : A) → Contains [] y ⊎ Contains [] y → ⊥
none_in_both y (inl h) = none_in y h
none_in_both y (inr h) = none_in y h

-- what is there, and that nothing is
pub some_of : {A : Type 0} (o : Option A) → IsSome o → (x : A) × (o ≡ Some x)
some_of (Some x) there = (x, refl)
some_of None there = absurd (true≢false (sym there))

pub none_of : {A : Type 0} (o : Option A) → (IsSome o → ⊥) → o ≡ None
none_of None no_way = refl
none_of (Some x) no_way = absurd (no_way refl)

first_or_later : {A : Type 0} (x y : A) (xs : List A) (k : ℕ) → k < length (x ∷ xs) → get_or (x ∷ xs) k y ≡ y → (x ≡ y) ⊎ Contains xs y
first_or_later x y xs zero below is = inl is
first_or_later x y xs (suc k) below is = inr (k, omega (arith, below), is)

pub in_cases : {A : Type 0} (x : A) (xs : List A) (y : A) → Contains (x ∷ xs) y → (x ≡ y) ⊎ Contains xs y
in_cases x xs y h = first_or_later x y xs h.0 h.1 h.2

-- ---- images
map_in_by : {A B : Type 0} (f : A → B) (y : A) (ys : List A) (x : A) → (Contains ys x → Contains (map f ys) (f x)) → (y ≡ x) ⊎ Contains ys x → Contains (map f (y ∷ ys)) (f x)
map_in_by f y ys x later (inl e) = subst (λ z. Contains (f y ∷ map f ys) z) (ap f e) (first_in (f y) (map f ys))
map_in_by f y ys x later (inr h) = later_in (f y) (map f ys) (f x) (later h)

pub map_in : {A B : Type 0} (f : A → B) (xs : List A) (x : A) → Contains xs x → Contains (map f xs) (f x)
map_in f [] x h = absurd (none_in x h)
map_in f (y ∷ ys) x h = map_in_by f y ys x (map_in f ys x) (in_cases y ys x h)

-- the image of an item of the list
pub record IsImage {A B : Type 0} (f : A → B) (xs : List A) (y : B) : Type 0 where
  pub item : A
  pub among : Contains xs item
  pub is : f item ≡ y

image_by : {A B : Type 0} (f : A → B) (x : A) (xs : List A) (y : B) → (Contains (map f xs) y → IsImage f xs y) → (f x ≡ y) ⊎ Contains (map f xs) y → IsImage f (x ∷ xs) y
image_by f x xs y later (inl e) = record { item = x; among = first_in x xs; is = e }
image_by f x xs y later (inr h) = let i = later h in record { item = i.item; among = later_in x xs i.item i.among; is = i.is }

pub image_of : {A B : Type 0} (f : A → B) (xs : List A) (y : B) → Contains (map f xs) y → IsImage f xs y
image_of f [] y h = absurd (none_in y h)
image_of f (x ∷ xs) y h = image_by f x xs y (image_of f xs y) (in_cases (f x) (map f xs) y h)

-- ---- the elements that pass a test
-- are those of the list that pass it
pub kept_from : {A : Type 0} (p : A → Bool) (xs : List A) (x : A) → Contains (filter p xs) x → Contains xs x × (p x ≡ true)
kept_from p xs x among = (
  All-contains (Contains xs) (filter p xs) x (All-filter p (Contains xs) xs (All-contains_itself xs)) among,
  All-contains (λ y. p y ≡ true) (filter p xs) x (filter_passes p xs) among,
)

pub kept_in : {A : Type 0} (p : A → Bool) (xs : List A) (x : A) → Contains xs x → p x ≡ true → Contains (filter p xs) x
kept_in p [] x among passes = absurd (none_in x among)
kept_in p (y ∷ ys) x among passes = by_test (p y) refl (λ h. kept_in p ys x h passes) (in_cases y ys x among)
  where
    by_test : (b : Bool) → p y ≡ b → (Contains ys x → Contains (filter p ys) x) → (y ≡ x) ⊎ Contains ys x → Contains (cond b (y ∷ filter p ys) (filter p ys)) x
    by_test true is later (inl e) = subst (λ z. Contains (y ∷ filter p ys) z) e (first_in y (filter p ys))
    by_test true is later (inr h) = later_in y (filter p ys) x (later h)
    by_test false is later (inl e) = absurd (true≢false (sym passes ∙ ap p (sym e) ∙ is))
    by_test false is later (inr h) = later h

-- ---- a test that no element passes
passes_none : {A : Type 0} (p : A → Bool) (x : A) (xs : List A) (y : A) → (p x ≡ false) × (list_any p xs ≡ false) → (list_any p xs ≡ false → Contains xs y → p y ≡ false) → (x ≡ y) ⊎ Contains xs y → p y ≡ false
passes_none p x xs y parts later (inl e) = ap p (sym e) ∙ parts.0
passes_none p x xs y parts later (inr h) = later parts.1 h

pub any_false : {A : Type 0} (p : A → Bool) (xs : List A) (y : A) → list_any p xs ≡ false → Contains xs y → p y ≡ false
any_false p [] y none h = absurd (none_in y h)
any_false p (x ∷ xs) y none h = passes_none p x xs y (or_parts (p x) (list_any p xs) none) (any_false p xs y) (in_cases x xs y h)

-- ---- known stages
among_by : (r : ℕ × Stage) (rest : Known) (n : ℕ) (s : Stage) (b : Bool) → (r.0 == n) ≡ b → (if b then Some r.1 else stage_in rest n) ≡ Some s → (stage_in rest n ≡ Some s → Contains rest (n, s))
    → Contains (r ∷ rest) (n, s)
among_by r rest n s true same e later =
    let number : r.0 ≡ n = eqb-true r.0 n same in
    let stage : r.1 ≡ s = same_Some r.1 s e in
    let both : r ≡ (n, s) = λ i. (number i, stage i) in
    subst (λ x. Contains (r ∷ rest) x) both (first_in r rest)
among_by r rest n s false same e later = later_in r rest (n, s) (later e)

-- a stage that is known is one of the list
pub stage_in-among : (known : Known) (n : ℕ) (s : Stage) → stage_in known n ≡ Some s → Contains known (n, s)
stage_in-among [] n s e = absurd (none-some s e)
stage_in-among (r ∷ rest) n s e = among_by r rest n s (r.0 == n) refl e (stage_in-among rest n s)

abbrev placed : Bool → Bool → ℕ × Stage → ℕ × Stage → Known → Known → Known
placed first same x r rest later = if first then x ∷ r ∷ rest else (if same then x ∷ rest else r ∷ later)

new_by : (first same : Bool) (x r : ℕ × Stage) (rest later : Known) → Contains later x → Contains (placed first same x r rest later) x
new_by true same x r rest later h = first_in x (r ∷ rest)
new_by false true x r rest later h = first_in x rest
new_by false false x r rest later h = later_in r later x h

-- the stage that was noted is one of them,
pub with_stage-new : (n : ℕ) (s : Stage) (known : Known) → Contains (with_stage n s known) (n, s)
with_stage-new n s [] = first_in (n, s) []
with_stage-new n s (r ∷ rest) = new_by (nat_lt n r.0) (r.0 == n) (n, s) r rest (with_stage n s rest) (with_stage-new n s rest)

old_by : (first same : Bool) (n : ℕ) (s : Stage) (r : ℕ × Stage) (rest later : Known) (y : ℕ × Stage) → (r.0 == n) ≡ same → (Contains rest y → Contains later y ⊎ (y.0 ≡ n)) → (r ≡ y) ⊎ Contains rest y
    → Contains (placed first same (n, s) r rest later) y ⊎ (y.0 ≡ n)
old_by true same n s r rest later y e more (inl is) = inl (later_in (n, s) (r ∷ rest) y (subst (λ z. Contains (r ∷ rest) z) is (first_in r rest)))
old_by true same n s r rest later y e more (inr h) = inl (later_in (n, s) (r ∷ rest) y (later_in r rest y h))
old_by false true n s r rest later y e more (inl is) = inr (ap (λ (z : ℕ × Stage). z.0) (sym is) ∙ eqb-true r.0 n e)
old_by false true n s r rest later y e more (inr h) = inl (later_in (n, s) rest y h)
old_by false false n s r rest later y e more (inl is) = inl (subst (λ z. Contains (r ∷ later) z) is (first_in r later))
old_by false false n s r rest later y e more (inr h) = old_later (more h)
  where
    old_later : Contains later y ⊎ (y.0 ≡ n) → Contains (r ∷ later) y ⊎ (y.0 ≡ n)
    old_later (inl h') = inl (later_in r later y h')
    old_later (inr same') = inr same'

-- and so is each other one,
pub with_stage-old : (n : ℕ) (s : Stage) (known : Known) (y : ℕ × Stage) → Contains known y → Contains (with_stage n s known) y ⊎ (y.0 ≡ n)
with_stage-old n s [] y h = absurd (none_in y h)
with_stage-old n s (r ∷ rest) y h = old_by (nat_lt n r.0) (r.0 == n) n s r rest (with_stage n s rest) y refl (with_stage-old n s rest y) (in_cases r rest y h)

from_by : (first same : Bool) (x r : ℕ × Stage) (rest later : Known) (y : ℕ × Stage) → (Contains later y → Contains rest y ⊎ (x ≡ y)) → Contains (placed first same x r rest later) y
    → Contains (r ∷ rest) y ⊎ (x ≡ y)
from_by true same x r rest later y less h = turned (in_cases x (r ∷ rest) y h)
  where
    turned : (x ≡ y) ⊎ Contains (r ∷ rest) y → Contains (r ∷ rest) y ⊎ (x ≡ y)
    turned (inl e) = inr e
    turned (inr h') = inl h'
from_by false true x r rest later y less h = turned (in_cases x rest y h)
  where
    turned : (x ≡ y) ⊎ Contains rest y → Contains (r ∷ rest) y ⊎ (x ≡ y)
    turned (inl e) = inr e
    turned (inr h') = inl (later_in r rest y h')
from_by false false x r rest later y less h = turned (in_cases r later y h)
  where
    further : Contains rest y ⊎ (x ≡ y) → Contains (r ∷ rest) y ⊎ (x ≡ y)
    further (inl h') = inl (later_in r rest y h')
    further (inr e) = inr e

    turned : (r ≡ y) ⊎ Contains later y → Contains (r ∷ rest) y ⊎ (x ≡ y)
    turned (inl e) = inl (subst (λ z. Contains (r ∷ rest) z) e (first_in r rest))
    turned (inr h') = further (less h')

-- and there are no more.
pub with_stage-from : (n : ℕ) (s : Stage) (known : Known) (y : ℕ × Stage) → Contains (with_stage n s known) y → Contains known y ⊎ ((n, s) ≡ y)
with_stage-from n s [] y h = turned (in_cases (n, s) [] y h)
  where
    turned : ((n, s) ≡ y) ⊎ Contains [] y → Contains [] y ⊎ ((n, s) ≡ y)
    turned (inl e) = inr e
    turned (inr h') = inl h'
with_stage-from n s (r ∷ rest) y h = from_by (nat_lt n r.0) (r.0 == n) (n, s) r rest (with_stage n s rest) y (with_stage-from n s rest y) h
