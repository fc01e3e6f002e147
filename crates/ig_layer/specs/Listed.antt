-- Laws on values that are listed if each is there, and on the files of chunks.
use Rattle.std.specs.Prelude.{◌≡◌, ◌⊎◌, ◌<◌, ◌≤◌, ◌^◌, ℕ, zero, suc, true, List, [], ◌∷◌, ◌++◌, length, take, slice_index, Option, None, Some, refl}
use Rattle.std.proofs.Common.{arith, inl, inr, ap, sym, subst, ◌∙◌}
use Rattle.std.proofs.lemmas.List.Elements.{Contains-append_left, Contains-push, Contains-push_cases}
use Rattle.std.proofs.lemmas.Option.{none-some, same_Some}
use Rattle.std.specs.List.{Contains}
use Rattle.std.proofs.Math.Seq.{take-suc}
use Rattle.std.proofs.lemmas.Bool.{and_from, lt-ltb}
use Rattle.ig_space.specs.declared.geometry.Width.{Width}
use Rattle.ig_space.specs.Geometry.{label_len}
use Rattle.ig_space.specs.Raw.{AllFit}
use Rattle.ig_defs.specs.Own.{File}
use Rattle.ig_layer.specs.Texts.{all_fit, all_listed, file_if, with_last}

-- the parts of a list that is there
record Parts {A : Type 0} (front : Option (List A)) (back : Option A) (xs : List A) : Type 0 where
  items : List A
  item : A
  front_is : front ≡ Some items
  back_is : back ≡ Some item
  whole : xs ≡ items ++ item ∷ []

parts_of : {A : Type 0} (front : Option (List A)) (back : Option A) (xs : List A) → with_last front back ≡ Some xs → Parts front back xs
parts_of None back xs e = absurd (none-some xs e)
parts_of (Some items) None xs e = absurd (none-some xs e)
parts_of (Some items) (Some item) xs e = record { items = items; item = item; front_is = refl; back_is = refl; whole = sym (same_Some _ _ e) }

below_or_last : (k n : ℕ) → k < suc n → (k < n) ⊎ (k ≡ n)
below_or_last k n below = grind arith

-- a value that is there, with its number
pub record IsValue {A : Type 0} (f : ℕ → Option A) (n : ℕ) (x : A) : Type 0 where
  pub number : ℕ
  pub below : number < n
  pub is : f number ≡ Some x

-- a value with this number is there, and is one of the list
pub record IsListed {A : Type 0} (f : ℕ → Option A) (k : ℕ) (xs : List A) : Type 0 where
  pub value : A
  pub is : f k ≡ Some value
  pub among : Contains xs value

-- where each value is there, the list is
pub all_listed-each : {A : Type 0} (f : ℕ → Option A) (n : ℕ) → ((k : ℕ) → k < n → (x : A) × (f k ≡ Some x)) → (xs : List A) × (all_listed f n ≡ Some xs)
all_listed-each f zero each = ([], refl)
all_listed-each f (suc n) each =
    let front = all_listed-each f n (λ k below. each k (omega arith)) in
    let back = each n (omega arith) in
    (front.0 ++ back.0 ∷ [], rw front.1 (rw back.1 refl))

has_by : {A : Type 0} (f : ℕ → Option A) (k n : ℕ) (xs : List A) (p : Parts (all_listed f n) (f n) xs) → (k < n → IsListed f k p.items) → (k < n) ⊎ (k ≡ n) → IsListed f k xs
has_by f k n xs p earlier (inl less) =
    let v = earlier less in
    record { value = v.value; is = v.is; among = subst (λ ys. Contains ys v.value) (sym p.whole) (Contains-append_left p.items (p.item ∷ []) v.value v.among) }
has_by f k n xs p earlier (inr last) =
    record { value = p.item; is = ap f last ∙ p.back_is; among = subst (λ ys. Contains ys p.item) (sym p.whole) (Contains-push p.items p.item) }

-- where the list is there, each value is, and is one of the list
pub all_listed-has : {A : Type 0} (f : ℕ → Option A) (n : ℕ) (xs : List A) → all_listed f n ≡ Some xs → (k : ℕ) → k < n → IsListed f k xs
all_listed-has f zero xs is k below = absurd (omega arith)
all_listed-has f (suc n) xs is k below =
    let p = parts_of (all_listed f n) (f n) xs is in
    has_by f k n xs p (λ less. all_listed-has f n p.items p.front_is k less) (below_or_last k n below)

nothing_in : {A : Type 0} (x : A) → Contains [] x → ⊥
nothing_in x h = absurd (omega (arith, h.1))

from_by : {A : Type 0} (f : ℕ → Option A) (n : ℕ) (xs : List A) (x : A) (p : Parts (all_listed f n) (f n) xs) → (Contains p.items x → IsValue f n x)
    → Contains p.items x ⊎ (p.item ≡ x) → IsValue f (suc n) x
from_by f n xs x p earlier (inl among) =
    let v = earlier among in
    record { number = v.number; below = omega (arith, v.below); is = v.is }
from_by f n xs x p earlier (inr last) = record { number = n; below = omega arith; is = p.back_is ∙ ap Some last }

-- and each of the list is one of the values
pub all_listed-from : {A : Type 0} (f : ℕ → Option A) (n : ℕ) (xs : List A) → all_listed f n ≡ Some xs → (x : A) → Contains xs x → IsValue f n x
all_listed-from f zero xs is x h = absurd (nothing_in x (subst (λ ys. Contains ys x) (sym (same_Some _ _ is)) h))
all_listed-from f (suc n) xs is x h =
    let p = parts_of (all_listed f n) (f n) xs is in
    from_by f n xs x p (λ among. all_listed-from f n p.items p.front_is x among) (Contains-push_cases p.items p.item x (subst (λ ys. Contains ys x) p.whole h))

-- a file that is there has this path
pub file_if-path : (path : List ℕ) (bytes : Option (List ℕ)) (file : File) → file_if path bytes ≡ Some file → file.path ≡ path
file_if-path path None file e = absurd (none-some file e)
file_if-path path (Some bytes) file e = ap (λ (f : File). f.path) (sym (same_Some _ _ e))

-- values that are there at each number make the list that has them
pub all_listed-is : (f : ℕ → Option ℕ) (n : ℕ) (xs : List ℕ) → n ≤ length xs → ((k : ℕ) → k < n → f k ≡ Some (slice_index xs k)) → all_listed f n ≡ Some (take n xs)
all_listed-is f zero xs short each = refl
all_listed-is f (suc n) xs short each =
    rw (all_listed-is f n xs (omega arith) (λ k below. each k (omega arith)))
    (rw (each n (omega arith)) (ap Some (sym (take-suc xs n 0 (omega arith)))))

-- labels that fit pass the test
pub all_fit-from : (width : Width) (labels : List ℕ) → AllFit width labels → all_fit width labels ≡ true
all_fit-from width [] fit = refl
all_fit-from width (label ∷ labels) fit =
    and_from _ _ (lt-ltb label (256 ^ label_len width) (fit 0 (omega arith))) (all_fit-from width labels (λ k below. fit (suc k) (omega arith)))
