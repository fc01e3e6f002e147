-- The labels of a box in order, and volumes that have them.
use Rattle.std.specs.Prelude.{◌≡◌, ◌⊎◌, ◌<◌, ◌+◌, ◌-◌, ℕ, zero, suc, Bool, true, if◌then◌else◌, List, [], ◌∷◌, ◌++◌, length, take, slice_get, slice_index, Option, None, Some, refl}
use Rattle.std.proofs.Common.{arith, ap, sym, subst, ◌∙◌, inl, inr, length-append}
use Rattle.std.proofs.Math.Nat.{eq-or-lt_of_le}
use Rattle.std.proofs.Math.Seq.{take-length}
use Rattle.std.proofs.lemmas.List.{get_or-append_right, get_or_append_left}
use Rattle.std.proofs.lemmas.Option.{none-some, same_Some, slice_get-get_or}
use Rattle.ig_space.specs.declared.point.Point.{Point}
use Rattle.ig_space.specs.declared.point.Box3.{Box3}
use Rattle.ig_space.specs.Cells.{IsIn-is_in, number-below, point_at-is, point_at-place}
use Rattle.ig_space.specs.Geometry.{count}
use Rattle.ig_space.specs.Grid.{IsIn, is_in, point_at, size_of}
use Rattle.ig_space.specs.Points.{place_of-point_at}
use Rattle.ig_space.specs.Volume.{IsInside, IsWhole, Voxels, place_of}
use Rattle.ig_layer.specs.AllListed.{all_listed-agrees, label_by_number-is, number_in, number_in-below}
use Rattle.ig_layer.specs.Layer.{Labels}
use Rattle.ig_layer.specs.Listed.{all_listed-each, all_listed-is}
use Rattle.ig_layer.specs.Texts.{all_listed, label_by_number, labels_in, with_last}
use Rattle.ig_mode.specs.Known.{AgreeIn, IsKnown}
use Rattle.ig_meaning.specs.Wants.{placed}

-- ---- values that are listed, by their places
-- the list has each of the first values, in order
record HasValues (f : ℕ → Option ℕ) (n : ℕ) (xs : List ℕ) : Type 0 where
  long : length xs ≡ n
  each : (k : ℕ) → k < n → f k ≡ Some (slice_index xs k)

last-value : (f : ℕ → Option ℕ) (n k x : ℕ) (xs : List ℕ) → HasValues f n xs → f n ≡ Some x → (k ≡ n) ⊎ (k < n) → f k ≡ Some (slice_index (xs ++ x ∷ []) k)
last-value f n k x xs h is (inl last) =
    let first : k - n ≡ 0 = omega (arith, last) in
    ap f last ∙ is ∙ ap Some (sym (get_or-append_right xs (x ∷ []) n k 0 h.long (omega (arith, last)) ∙ ap (slice_index (x ∷ [])) first))
last-value f n k x xs h is (inr less) = h.each k less ∙ ap Some (sym (get_or_append_left xs (x ∷ []) 0 k (omega (arith, less, h.long))))

values-more : (f : ℕ → Option ℕ) (n : ℕ) (front : Option (List ℕ)) (back : Option ℕ) (xs : List ℕ) → with_last front back ≡ Some xs → f n ≡ back
    → ((ys : List ℕ) → front ≡ Some ys → HasValues f n ys) → HasValues f (suc n) xs
values-more f n None back xs e is before = absurd (none-some xs e)
values-more f n (Some ys) None xs e is before = absurd (none-some xs e)
values-more f n (Some ys) (Some y) xs e is before =
    let h = before ys refl in
    let same : ys ++ y ∷ [] ≡ xs = same_Some (ys ++ y ∷ []) xs e in
    record {
      long = ap length (sym same) ∙ length-append ys (y ∷ []) ∙ omega (arith, h.long);
      each = λ k below. last-value f n k y ys h is (eq-or-lt_of_le (omega (arith, below))) ∙ ap (λ zs. Some (slice_index zs k)) same;
    }

all_listed-values : (f : ℕ → Option ℕ) (n : ℕ) (xs : List ℕ) → all_listed f n ≡ Some xs → HasValues f n xs
all_listed-values f zero xs is = record { long = ap length (sym (same_Some [] xs is)); each = λ k below. absurd (omega (arith, below)) }
all_listed-values f (suc n) xs is = values-more f n (all_listed f n) (f n) xs is refl (λ ys e. all_listed-values f n ys e)

-- ---- labels of a box
-- the voxel with a number lies in the box
numbered_in : (b : Box3) (k : ℕ) → k < count (size_of b) → IsIn b (b.lo.x + (point_at (size_of b) k).x) (b.lo.y + (point_at (size_of b) k).y) (b.lo.z + (point_at (size_of b) k).z)
numbered_in b k below =
    let place = point_at-place (size_of b) k below in
    record { x_from = omega arith; x_to = omega (arith, place.x); y_from = omega arith; y_to = omega (arith, place.y); z_from = omega arith; z_to = omega (arith, place.z) }

-- volumes that agree in a box have the same labels there
pub agree-labels : (v w : Labels) (b : Box3) → AgreeIn b v w → labels_in v b ≡ labels_in w b
agree-labels v w b same =
    all_listed-agrees (label_by_number v b) (label_by_number w b) (count (size_of b))
    (λ k below. same (b.lo.x + (point_at (size_of b) k).x) (b.lo.y + (point_at (size_of b) k).y) (b.lo.z + (point_at (size_of b) k).z) (numbered_in b k below))

label-of : (v : Labels) (b : Box3) (labels : List ℕ) → labels_in v b ≡ Some labels → (x y z : ℕ) → IsIn b x y z → v x y z ≡ Some (slice_index labels (number_in b x y z))
label-of v b labels are x y z inside =
    sym (label_by_number-is v b x y z inside) ∙ (all_listed-values (label_by_number v b) (count (size_of b)) labels are).each (number_in b x y z) (number_in-below b x y z inside)

if_true : {A : Type 0} (test : Bool) (x y : A) → test ≡ true → (if test then x else y) ≡ x
if_true test x y e = rw e refl

-- so the labels of a box, put there, are those of the volume
pub placed-agrees : (v : Labels) (b : Box3) (labels : List ℕ) → labels_in v b ≡ Some labels → AgreeIn b (placed b labels) v
placed-agrees v b labels are x y z inside =
    let long = (all_listed-values (label_by_number v b) (count (size_of b)) labels are).long in
    let below = number_in-below b x y z inside in
    if_true (is_in b x y z) (slice_get labels (number_in b x y z)) None (IsIn-is_in b x y z inside)
    ∙ slice_get-get_or labels (number_in b x y z) 0 (omega (arith, below, long))
    ∙ sym (label-of v b labels are x y z inside)

-- a box in another has labels where the other has
pub inner-labels : (v : Labels) (a b : Box3) (labels : List ℕ) → labels_in v b ≡ Some labels → ((x y z : ℕ) → IsIn a x y z → IsIn b x y z) → (own : List ℕ) × (labels_in v a ≡ Some own)
inner-labels v a b labels are within =
    all_listed-each (label_by_number v a) (count (size_of a)) (λ k below.
    let p = point_at (size_of a) k in
    let inside = within (a.lo.x + p.x) (a.lo.y + p.y) (a.lo.z + p.z) (numbered_in a k below) in
    (slice_index labels (number_in b (a.lo.x + p.x) (a.lo.y + p.y) (a.lo.z + p.z)), label-of v b labels are (a.lo.x + p.x) (a.lo.y + p.y) (a.lo.z + p.z) inside))

-- ---- known volumes
pub labels-known : (v : Labels) (b : Box3) (labels : List ℕ) → labels_in v b ≡ Some labels → IsKnown v b (record { size = size_of b; labels = labels })
labels-known v b labels are = record {
  size = refl;
  each = λ x y z inside.
      let p : Point = record { x = x; y = y; z = z } in
      let below = number-below (size_of b) p (record { x = inside.x_below; y = inside.y_below; z = inside.z_below }) in
      ap (λ (q : Point). v (b.lo.x + q.x) (b.lo.y + q.y) (b.lo.z + q.z)) (sym (point_at-is (size_of b) x y z inside.x_below inside.y_below))
      ∙ (all_listed-values (label_by_number v b) (count (size_of b)) labels are).each (place_of (size_of b) x y z) below;
}

pub known-labels : (w : Labels) (b : Box3) (out : Voxels) → IsKnown w b out → IsWhole out.size out.labels → labels_in w b ≡ Some out.labels
known-labels w b out known whole =
    let size : size_of b ≡ out.size = sym known.size in
    let long : count (size_of b) ≡ length out.labels = ap (λ (p : Point). count p) size ∙ sym whole.length in
    all_listed-is (label_by_number w b) (count (size_of b)) out.labels (omega (arith, long)) (λ k below.
    let p = point_at (size_of b) k in
    let place = point_at-place (size_of b) k below in
    let inside : IsInside out.size p.x p.y p.z = subst (λ (s : Point). IsInside s p.x p.y p.z) size (record { x_below = place.x; y_below = place.y; z_below = place.z }) in
    known.each p.x p.y p.z inside
    ∙ ap (λ (s : Point). Some (slice_index out.labels (place_of s p.x p.y p.z))) known.size
    ∙ ap (λ n. Some (slice_index out.labels n)) (place_of-point_at (size_of b) k))
    ∙ ap (λ n. Some (take n out.labels)) long ∙ ap Some (take-length out.labels)
