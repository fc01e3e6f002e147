-- Steps between voxels, as numbers: by 1 within a row, by the width within a plane, by a plane.
use Rattle.std.proofs.Common.{ℕ, ◌+◌, ◌*◌, ◌%◌, ◌/◌, ◌<◌, ◌≤◌, ◌≡◌, ◌≢◌, eqb, not, ◌&&◌, ◌||◌, Bool, true, false, refl, sym, ap, ◌∙◌, ◌⊎◌, inl, inr, arith}
use Rattle.std.proofs.Math.Nat.{mod-lt}
use Rattle.std.proofs.lemmas.Bool.{and_parts, and_from, or_cases, eqb-true, eqb-false, eq-eqb, ne_eqb, cases_eq, not-true, lt-ltb}
use Rattle.std.proofs.lemmas.Nat.{div-add-mod', mod-mul-add, div-mul-add}
use Rattle.ig_space.specs.declared.point.Point.{Point}
use Rattle.ig_space.specs.Geometry.{count}
use Rattle.ig_space.specs.Grid.{point_at}
use Rattle.ig_space.specs.Volume.{Voxels, place_of}
use Rattle.ig_space.specs.Points.{place_of-point_at}
use Rattle.ig_graph.specs.Graph.{is_in, steps, IsSymmetric}
use Rattle.ig_graph.specs.PathLaws.{or_first, or_second, steps-is, steps-adj}
use Rattle.ig_label.specs.VoxelGraph.{label_at, differ_by_one, are_beside, voxel_graph}

-- ---- tests
eqb-sym : (a b : ℕ) → eqb a b ≡ eqb b a
eqb-sym a b = by_case (cases_eq a b) where
  by_case : (a ≡ b) ⊎ (a ≡ b → ⊥) → eqb a b ≡ eqb b a
  by_case (inl e) = eq-eqb a b e ∙ sym (eq-eqb b a (sym e))
  by_case (inr n) = ne_eqb a b n ∙ sym (ne_eqb b a (λ e. n (sym e)))

or-comm : (x y : Bool) → (x || y) ≡ (y || x)
or-comm true true = refl
or-comm true false = refl
or-comm false true = refl
or-comm false false = refl

differ-sym : (a b : ℕ) → differ_by_one a b ≡ differ_by_one b a
differ-sym a b = or-comm (eqb (a + 1) b) (eqb (b + 1) a)

pub beside-sym : (a b : Point) → are_beside a b ≡ are_beside b a
beside-sym a b =
    let dx = differ-sym a.x b.x in
    let dy = differ-sym a.y b.y in
    let dz = differ-sym a.z b.z in
    let ex = eqb-sym a.x b.x in
    let ey = eqb-sym a.y b.y in
    let ez = eqb-sym a.z b.z in
    λ i. (dx i && (ey i && ez i)) || ((ex i && (dy i && ez i)) || (ex i && (ey i && dz i)))

pub voxels-symmetric : (v : Voxels) → IsSymmetric (voxel_graph v)
voxels-symmetric v p q h =
    let parts = and_parts (are_beside (point_at v.size p) (point_at v.size q)) (eqb (label_at v p) (label_at v q)) h in
    and_from (are_beside (point_at v.size q) (point_at v.size p)) (eqb (label_at v q) (label_at v p))
    (sym (beside-sym (point_at v.size p) (point_at v.size q)) ∙ parts.0) (sym (eqb-sym (label_at v p) (label_at v q)) ∙ parts.1)

-- ---- nodes
pub node-label : (v : Voxels) (p : ℕ) → is_in (voxel_graph v) p ≡ true → label_at v p ≢ 0
node-label v p h = eqb-false (label_at v p) 0 (not-true (eqb (label_at v p) 0) (and_parts _ _ h).1)

pub label-node : (v : Voxels) (p : ℕ) → p < count v.size → label_at v p ≢ 0 → is_in (voxel_graph v) p ≡ true
label-node v p l h = and_from _ _ (lt-ltb p (count v.size) l) (ap not (ne_eqb (label_at v p) 0 h))

-- ---- steps up
pub data Up (size : Point) (p q : ℕ) : Type 0 where
  along_x : p % size.x + 1 < size.x → q ≡ p + 1 → Up size p q
  along_y : p / size.x / size.y ≡ q / size.x / size.y → q ≡ p + size.x → Up size p q
  along_z : q ≡ p + size.x * size.y → Up size p q

same-place : (size : Point) (x y z x' y' z' : ℕ) → x ≡ x' → y ≡ y' → z ≡ z' → place_of size x y z ≡ place_of size x' y' z'
same-place size x y z x' y' z' ex ey ez = λ i. place_of size (ex i) (ey i) (ez i)

module _ (size : Point) (some : 1 ≤ size.x) (p q : ℕ) where
  up-x : (point_at size p).x + 1 ≡ (point_at size q).x → (point_at size p).y ≡ (point_at size q).y → (point_at size p).z ≡ (point_at size q).z → Up size p q
  up-x ex ey ez =
      let a = point_at size p in
      let e : place_of size (a.x + 1) a.y a.z ≡ q = same-place size (a.x + 1) a.y a.z _ _ _ ex ey ez ∙ place_of-point_at size q in
      along_x (omega (arith, ex, mod-lt q some)) (omega (arith, e, place_of-point_at size p))

  up-y : (point_at size p).x ≡ (point_at size q).x → (point_at size p).y + 1 ≡ (point_at size q).y → (point_at size p).z ≡ (point_at size q).z → Up size p q
  up-y ex ey ez =
      let a = point_at size p in
      let e : place_of size a.x (a.y + 1) a.z ≡ q = same-place size a.x (a.y + 1) a.z _ _ _ ex ey ez ∙ place_of-point_at size q in
      along_y ez (omega (arith, e, place_of-point_at size p))

  up-z : (point_at size p).x ≡ (point_at size q).x → (point_at size p).y ≡ (point_at size q).y → (point_at size p).z + 1 ≡ (point_at size q).z → Up size p q
  up-z ex ey ez =
      let a = point_at size p in
      let e : place_of size a.x a.y (a.z + 1) ≡ q = same-place size a.x a.y (a.z + 1) _ _ _ ex ey ez ∙ place_of-point_at size q in
      along_z (omega (arith, e, place_of-point_at size p))

differs : (a b : ℕ) → differ_by_one a b ≡ true → (a + 1 ≡ b) ⊎ (b + 1 ≡ a)
differs a b h = by_case (or_cases (eqb (a + 1) b) (eqb (b + 1) a) h) where
  by_case : (eqb (a + 1) b ≡ true) ⊎ (eqb (b + 1) a ≡ true) → (a + 1 ≡ b) ⊎ (b + 1 ≡ a)
  by_case (inl e) = inl (eqb-true (a + 1) b e)
  by_case (inr e) = inr (eqb-true (b + 1) a e)

-- voxels beside each other are a step up, one way or the other
module _ (size : Point) (some : 1 ≤ size.x) (p q : ℕ) where
  x_way : ((point_at size p).x + 1 ≡ (point_at size q).x) ⊎ ((point_at size q).x + 1 ≡ (point_at size p).x) → (point_at size p).y ≡ (point_at size q).y → (point_at size p).z ≡ (point_at size q).z
      → Up size p q ⊎ Up size q p
  x_way (inl e) ey ez = inl (up-x size some p q e ey ez)
  x_way (inr e) ey ez = inr (up-x size some q p e (sym ey) (sym ez))

  y_way : (point_at size p).x ≡ (point_at size q).x → ((point_at size p).y + 1 ≡ (point_at size q).y) ⊎ ((point_at size q).y + 1 ≡ (point_at size p).y) → (point_at size p).z ≡ (point_at size q).z
      → Up size p q ⊎ Up size q p
  y_way ex (inl e) ez = inl (up-y size some p q ex e ez)
  y_way ex (inr e) ez = inr (up-y size some q p (sym ex) e (sym ez))

  z_way : (point_at size p).x ≡ (point_at size q).x → (point_at size p).y ≡ (point_at size q).y → ((point_at size p).z + 1 ≡ (point_at size q).z) ⊎ ((point_at size q).z + 1 ≡ (point_at size p).z)
      → Up size p q ⊎ Up size q p
  z_way ex ey (inl e) = inl (up-z size some p q ex ey e)
  z_way ex ey (inr e) = inr (up-z size some q p (sym ex) (sym ey) e)

  pub beside-up : are_beside (point_at size p) (point_at size q) ≡ true → Up size p q ⊎ Up size q p
  beside-up h = by_axis (or_cases _ _ h) where
    a : Point
    a = point_at size p

    b : Point
    b = point_at size q

    by_rest : ((eqb (p % size.x) (q % size.x) && (differ_by_one (p / size.x % size.y) (q / size.x % size.y) && eqb (p / size.x / size.y) (q / size.x / size.y))) ≡ true)
        ⊎ ((eqb (p % size.x) (q % size.x) && (eqb (p / size.x % size.y) (q / size.x % size.y) && differ_by_one (p / size.x / size.y) (q / size.x / size.y))) ≡ true) → Up size p q ⊎ Up size q p
    by_rest (inl h) =
        let s = and_parts _ _ h in
        let t = and_parts _ _ s.1 in
        y_way (eqb-true (p % size.x) (q % size.x) s.0) (differs (p / size.x % size.y) (q / size.x % size.y) t.0) (eqb-true (p / size.x / size.y) (q / size.x / size.y) t.1)
    by_rest (inr h) =
        let s = and_parts _ _ h in
        let t = and_parts _ _ s.1 in
        z_way (eqb-true (p % size.x) (q % size.x) s.0) (eqb-true (p / size.x % size.y) (q / size.x % size.y) t.0) (differs (p / size.x / size.y) (q / size.x / size.y) t.1)

    by_axis : ((differ_by_one (p % size.x) (q % size.x) && (eqb (p / size.x % size.y) (q / size.x % size.y) && eqb (p / size.x / size.y) (q / size.x / size.y))) ≡ true)
        ⊎ (((eqb (p % size.x) (q % size.x) && (differ_by_one (p / size.x % size.y) (q / size.x % size.y) && eqb (p / size.x / size.y) (q / size.x / size.y)))
        || (eqb (p % size.x) (q % size.x) && (eqb (p / size.x % size.y) (q / size.x % size.y) && differ_by_one (p / size.x / size.y) (q / size.x / size.y)))) ≡ true) → Up size p q ⊎ Up size q p
    by_axis (inl h) =
        let s = and_parts _ _ h in
        let t = and_parts _ _ s.1 in
        x_way (differs (p % size.x) (q % size.x) s.0) (eqb-true (p / size.x % size.y) (q / size.x % size.y) t.0) (eqb-true (p / size.x / size.y) (q / size.x / size.y) t.1)
    by_axis (inr h) = by_rest (or_cases _ _ h)

-- ---- a step up leads to a voxel beside
one-differs : (a b : ℕ) → a + 1 ≡ b → differ_by_one a b ≡ true
one-differs a b e = or_first (eqb (a + 1) b) (eqb (b + 1) a) (eq-eqb (a + 1) b e)

-- in a row
pub row-mod : (w p k : ℕ) → p % w + k < w → (p + k) % w ≡ p % w + k
row-mod w p k h =
    let whole : p + k ≡ p / w * w + (p % w + k) = omega (arith, div-add-mod' p w) in
    ap (λ n. n % w) whole ∙ mod-mul-add (p / w) w (p % w + k) h

pub row-div : (w p k : ℕ) → p % w + k < w → (p + k) / w ≡ p / w
row-div w p k h =
    let whole : p + k ≡ p / w * w + (p % w + k) = omega (arith, div-add-mod' p w) in
    ap (λ n. n / w) whole ∙ div-mul-add (p / w) w (p % w + k) h

-- by some widths
next-mod : (w p k : ℕ) → 1 ≤ w → (p + w * k) % w ≡ p % w
next-mod w p k some =
    let whole : p + w * k ≡ (p / w + k) * w + p % w = omega (arith, div-add-mod' p w) in
    ap (λ n. n % w) whole ∙ mod-mul-add (p / w + k) w (p % w) (mod-lt p some)

next-div : (w p k : ℕ) → 1 ≤ w → (p + w * k) / w ≡ p / w + k
next-div w p k some =
    let whole : p + w * k ≡ (p / w + k) * w + p % w = omega (arith, div-add-mod' p w) in
    ap (λ n. n / w) whole ∙ div-mul-add (p / w + k) w (p % w) (mod-lt p some)

pub up-beside : (size : Point) → 1 ≤ size.x → 1 ≤ size.y → (p q : ℕ) → Up size p q → are_beside (point_at size p) (point_at size q) ≡ true
up-beside size some_x some_y p q (along_x l e) =
    let rest : q % size.x ≡ p % size.x + 1 = ap (λ n. n % size.x) e ∙ row-mod size.x p 1 l in
    let whole : q / size.x ≡ p / size.x = ap (λ n. n / size.x) e ∙ row-div size.x p 1 l in
    or_first _ _ (and_from _ _ (one-differs (p % size.x) (q % size.x) (sym rest)) (and_from _ _
    (eq-eqb (p / size.x % size.y) (q / size.x % size.y) (ap (λ n. n % size.y) (sym whole))) (eq-eqb (p / size.x / size.y) (q / size.x / size.y) (ap (λ n. n / size.y) (sym whole)))))
up-beside size some_x some_y p q (along_y same e) =
    let e1 : q ≡ p + size.x * 1 = omega (arith, e) in
    let rest : q % size.x ≡ p % size.x = ap (λ n. n % size.x) e1 ∙ next-mod size.x p 1 some_x in
    let whole : q / size.x ≡ p / size.x + 1 = ap (λ n. n / size.x) e1 ∙ next-div size.x p 1 some_x in
    let here = div-add-mod' (p / size.x) size.y in
    let there = div-add-mod' (q / size.x) size.y in
    let rows : p / size.x / size.y * size.y ≡ q / size.x / size.y * size.y = ap (λ n. n * size.y) same in
    let next : p / size.x % size.y + 1 ≡ q / size.x % size.y = omega (arith, here, there, rows, whole) in
    or_second _ _ (or_first _ _ (and_from _ _ (eq-eqb (p % size.x) (q % size.x) (sym rest)) (and_from _ _
    (one-differs (p / size.x % size.y) (q / size.x % size.y) next) (eq-eqb (p / size.x / size.y) (q / size.x / size.y) same))))
up-beside size some_x some_y p q (along_z e) =
    let rest : q % size.x ≡ p % size.x = ap (λ n. n % size.x) e ∙ next-mod size.x p size.y some_x in
    let whole : q / size.x ≡ p / size.x + size.y * 1 = ap (λ n. n / size.x) e ∙ next-div size.x p size.y some_x ∙ omega arith in
    let row : q / size.x % size.y ≡ p / size.x % size.y = ap (λ n. n % size.y) whole ∙ next-mod size.y (p / size.x) 1 some_y in
    let face : q / size.x / size.y ≡ p / size.x / size.y + 1 = ap (λ n. n / size.y) whole ∙ next-div size.y (p / size.x) 1 some_y in
    or_second _ _ (or_second _ _ (and_from _ _ (eq-eqb (p % size.x) (q % size.x) (sym rest)) (and_from _ _
    (eq-eqb (p / size.x % size.y) (q / size.x % size.y) (sym row)) (one-differs (p / size.x / size.y) (q / size.x / size.y) (sym face)))))

-- ---- steps
pub up-step : (v : Voxels) → 1 ≤ v.size.x → 1 ≤ v.size.y → (p q : ℕ) → is_in (voxel_graph v) p ≡ true → is_in (voxel_graph v) q ≡ true → Up v.size p q → label_at v p ≡ label_at v q
    → steps (voxel_graph v) p q ≡ true
up-step v some_x some_y p q hp hq up e =
    steps-is (voxel_graph v) p q hp hq (and_from _ _ (up-beside v.size some_x some_y p q up) (eq-eqb (label_at v p) (label_at v q) e))

pub step-up : (v : Voxels) → 1 ≤ v.size.x → (p q : ℕ) → steps (voxel_graph v) p q ≡ true → Up v.size p q ⊎ Up v.size q p
step-up v some p q h = beside-up v.size some p q (and_parts _ _ (steps-adj (voxel_graph v) p q h)).0

pub step-label : (v : Voxels) (p q : ℕ) → steps (voxel_graph v) p q ≡ true → label_at v p ≡ label_at v q
step-label v p q h = eqb-true (label_at v p) (label_at v q) (and_parts _ _ (steps-adj (voxel_graph v) p q h)).1
