-- Laws on the voxels of boxes, and on the graphs of these.
use Rattle.std.proofs.Common.{ℕ, ◌+◌, ◌-◌, ◌<◌, ◌≤◌, Bool, true, false, ◌≡◌, ◌≢◌, not, eqb, ◌&&◌, ◌||◌, refl, sym, ap, ◌∙◌, ◌⊎◌, inl, inr, arith}
use Rattle.std.specs.Prelude.{nat_lt}
use Rattle.std.proofs.lemmas.Bool.{and_parts, and_from, eqb-false, eq-eqb, ne_eqb, lt-ltb, le-ltb, cases_eq, cases_lt, not-true}
use Rattle.ig_space.specs.declared.point.Point.{Point}
use Rattle.ig_space.specs.declared.point.Box3.{Box3}
use Rattle.ig_space.specs.Geometry.{count}
use Rattle.ig_space.specs.Grid.{IsIn, point_at, size_of}
use Rattle.ig_space.specs.Volume.{place_of}
use Rattle.ig_space.specs.Points.{place_of-point_at}
use Rattle.ig_space.specs.Cells.{IsPlace, point_at-is, point_at-place, number-below}
use Rattle.ig_graph.specs.Graph.{is_in, steps, IsSymmetric}
use Rattle.ig_graph.specs.PathLaws.{in-below, steps-adj, steps-is}
use Rattle.ig_label.specs.VoxelGraph.{differ_by_one, are_beside}
use Rattle.ig_grid.specs.BoxGraph.{voxel_at, place_in, label_of, box_graph}

-- ---- places and voxels of a box
pub voxel-in : (b : Box3) (p : ℕ) → p < count (size_of b) → IsIn b (voxel_at b p).x (voxel_at b p).y (voxel_at b p).z
voxel-in b p below =
    let place = point_at-place (size_of b) p below in
    record {
      x_from = omega arith;
      x_to = omega (arith, place.x);
      y_from = omega arith;
      y_to = omega (arith, place.y);
      z_from = omega arith;
      z_to = omega (arith, place.z);
    }

pub place-voxel : (b : Box3) (p : ℕ) → place_in b (voxel_at b p) ≡ p
place-voxel b p =
    let a = point_at (size_of b) p in
    let ex : b.lo.x + a.x - b.lo.x ≡ a.x = omega arith in
    let ey : b.lo.y + a.y - b.lo.y ≡ a.y = omega arith in
    let ez : b.lo.z + a.z - b.lo.z ≡ a.z = omega arith in
    (λ i. place_of (size_of b) (ex i) (ey i) (ez i)) ∙ place_of-point_at (size_of b) p

-- the voxel's numbers, from the first of the box on
abbrev pub from_low : Box3 → Point → Point
from_low b a = record { x = a.x - b.lo.x; y = a.y - b.lo.y; z = a.z - b.lo.z }

pub from_low-place : (b : Box3) (a : Point) → IsIn b a.x a.y a.z → IsPlace (from_low b a) (size_of b)
from_low-place b a h = record { x = omega (arith, h.x_from, h.x_to); y = omega (arith, h.y_from, h.y_to); z = omega (arith, h.z_from, h.z_to) }

pub place-below : (b : Box3) (a : Point) → IsIn b a.x a.y a.z → place_in b a < count (size_of b)
place-below b a h = number-below (size_of b) (from_low b a) (from_low-place b a h)

pub voxel-place : (b : Box3) (a : Point) → IsIn b a.x a.y a.z → voxel_at b (place_in b a) ≡ a
voxel-place b a h =
    let place = from_low-place b a h in
    let e = point_at-is (size_of b) (a.x - b.lo.x) (a.y - b.lo.y) (a.z - b.lo.z) place.x place.y in
    let ex : b.lo.x + (a.x - b.lo.x) ≡ a.x = omega (arith, h.x_from) in
    let ey : b.lo.y + (a.y - b.lo.y) ≡ a.y = omega (arith, h.y_from) in
    let ez : b.lo.z + (a.z - b.lo.z) ≡ a.z = omega (arith, h.z_from) in
    (λ i. record { x = b.lo.x + (e i).x; y = b.lo.y + (e i).y; z = b.lo.z + (e i).z })
    ∙ (λ i. record { x = ex i; y = ey i; z = ez i })

-- ---- nodes and steps
pub node-label : (volume : ℕ → ℕ → ℕ → ℕ) (b : Box3) (p : ℕ) → is_in (box_graph volume b) p ≡ true → label_of volume (voxel_at b p) ≢ 0
node-label volume b p h = eqb-false (label_of volume (voxel_at b p)) 0 (not-true (eqb (label_of volume (voxel_at b p)) 0) (and_parts _ _ h).1)

pub label-node : (volume : ℕ → ℕ → ℕ → ℕ) (b : Box3) (p : ℕ) → p < count (size_of b) → label_of volume (voxel_at b p) ≢ 0 → is_in (box_graph volume b) p ≡ true
label-node volume b p l h = and_from _ _ (lt-ltb p (count (size_of b)) l) (ap not (ne_eqb (label_of volume (voxel_at b p)) 0 h))

-- the voxel is one of the box, and has a label
pub node-in : (volume : ℕ → ℕ → ℕ → ℕ) (b : Box3) (p : ℕ) → is_in (box_graph volume b) p ≡ true → IsIn b (voxel_at b p).x (voxel_at b p).y (voxel_at b p).z
node-in volume b p h = voxel-in b p (in-below (box_graph volume b) p h)

pub in-node : (volume : ℕ → ℕ → ℕ → ℕ) (b : Box3) (a : Point) → IsIn b a.x a.y a.z → label_of volume a ≢ 0 → is_in (box_graph volume b) (place_in b a) ≡ true
in-node volume b a h some =
    label-node volume b (place_in b a) (place-below b a h) (λ e. some (ap (label_of volume) (sym (voxel-place b a h)) ∙ e))

-- two voxels beside each other with one label
abbrev pub are_alike : (ℕ → ℕ → ℕ → ℕ) → Point → Point → Bool
are_alike volume a b = are_beside a b && eqb (label_of volume a) (label_of volume b)

pub step-alike : (volume : ℕ → ℕ → ℕ → ℕ) (b : Box3) (p q : ℕ) → steps (box_graph volume b) p q ≡ true → are_alike volume (voxel_at b p) (voxel_at b q) ≡ true
step-alike volume b p q h = steps-adj (box_graph volume b) p q h

-- between voxels of a box, by their points
pub alike-step : (volume : ℕ → ℕ → ℕ → ℕ) (b : Box3) (u v : Point) → IsIn b u.x u.y u.z → IsIn b v.x v.y v.z → label_of volume u ≢ 0 → label_of volume v ≢ 0
    → are_alike volume u v ≡ true → steps (box_graph volume b) (place_in b u) (place_in b v) ≡ true
alike-step volume b u v hu hv su sv h =
    let eu = sym (voxel-place b u hu) in
    let ev = sym (voxel-place b v hv) in
    steps-is (box_graph volume b) (place_in b u) (place_in b v) (in-node volume b u hu su) (in-node volume b v hv sv)
    (sym (λ i. are_alike volume (eu i) (ev i)) ∙ h)

-- ---- both ways
eqb-sym : (a b : ℕ) → eqb a b ≡ eqb b a
eqb-sym a b = by_case (cases_eq a b) where
  by_case : (a ≡ b) ⊎ (a ≡ b → ⊥) → eqb a b ≡ eqb b a
  by_case (inl e) = eq-eqb a b e ∙ sym (eq-eqb b a (sym e))
  by_case (inr n) = ne_eqb a b n ∙ sym (ne_eqb b a (λ e. n (sym e)))

or-comm : (x y : Bool) → (x || y) ≡ (y || x)
or-comm true true = refl
or-comm true false = refl
or-comm false true = refl
or-comm false false = refl

pub alike-sym : (volume : ℕ → ℕ → ℕ → ℕ) (a b : Point) → are_alike volume a b ≡ are_alike volume b a
alike-sym volume a b =
    let dx = or-comm (eqb (a.x + 1) b.x) (eqb (b.x + 1) a.x) in
    let dy = or-comm (eqb (a.y + 1) b.y) (eqb (b.y + 1) a.y) in
    let dz = or-comm (eqb (a.z + 1) b.z) (eqb (b.z + 1) a.z) in
    let ex = eqb-sym a.x b.x in
    let ey = eqb-sym a.y b.y in
    let ez = eqb-sym a.z b.z in
    let el = eqb-sym (label_of volume a) (label_of volume b) in
    λ i. ((dx i && (ey i && ez i)) || ((ex i && (dy i && ez i)) || (ex i && (ey i && dz i)))) && el i

pub box-symmetric : (volume : ℕ → ℕ → ℕ → ℕ) (b : Box3) → IsSymmetric (box_graph volume b)
box-symmetric volume b p q h = sym (alike-sym volume (voxel_at b p) (voxel_at b q)) ∙ h

-- ---- the labels of a box, by themselves
shift-eqb : (n a b : ℕ) → eqb a b ≡ eqb (n + a) (n + b)
shift-eqb n a b = by_case (cases_eq a b) where
  by_case : (a ≡ b) ⊎ (a ≡ b → ⊥) → eqb a b ≡ eqb (n + a) (n + b)
  by_case (inl e) = eq-eqb a b e ∙ sym (eq-eqb (n + a) (n + b) (omega (arith, e)))
  by_case (inr o) = ne_eqb a b o ∙ sym (ne_eqb (n + a) (n + b) (λ e. o (omega (arith, e))))

shift-differ : (n a b : ℕ) → differ_by_one a b ≡ differ_by_one (n + a) (n + b)
shift-differ n a b =
    let there = shift-eqb n (a + 1) b ∙ ap (λ k. eqb k (n + b)) (omega arith) in
    let back = shift-eqb n (b + 1) a ∙ ap (λ k. eqb k (n + a)) (omega arith) in
    λ i. there i || back i

pub shift-beside : (b : Box3) (p q : ℕ) → are_beside (point_at (size_of b) p) (point_at (size_of b) q) ≡ are_beside (voxel_at b p) (voxel_at b q)
shift-beside b p q =
    let u = point_at (size_of b) p in
    let v = point_at (size_of b) q in
    let dx = shift-differ b.lo.x u.x v.x in
    let dy = shift-differ b.lo.y u.y v.y in
    let dz = shift-differ b.lo.z u.z v.z in
    let ex = shift-eqb b.lo.x u.x v.x in
    let ey = shift-eqb b.lo.y u.y v.y in
    let ez = shift-eqb b.lo.z u.z v.z in
    λ i. (dx i && (ey i && ez i)) || ((ex i && (dy i && ez i)) || (ex i && (ey i && dz i)))

pub below-and : (p n : ℕ) (x y : Bool) → (p < n → x ≡ y) → (nat_lt p n && x) ≡ (nat_lt p n && y)
below-and p n x y h = by_case (cases_lt p n) where
  by_case : (p < n) ⊎ (n ≤ p) → (nat_lt p n && x) ≡ (nat_lt p n && y)
  by_case (inl l) = ap (λ b. nat_lt p n && b) (h l)
  by_case (inr m) = ap (λ b. b && x) (le-ltb p n m) ∙ sym (ap (λ b. b && y) (le-ltb p n m))
