-- Where the voxels of a part of a box stand in the list of the box.
use Rattle.std.proofs.Common.{arith, ◌≡◌, ◌≤◌, ◌<◌, ◌+◌, ◌-◌, ◌*◌, ℕ, ap, sym, ◌∙◌}
use Rattle.std.proofs.Math.Nat.{mul-le-mul_left}
use Rattle.ig_space.specs.declared.point.Point.{Point}
use Rattle.ig_space.specs.declared.point.Box3.{Box3}
use Rattle.ig_space.specs.Geometry.{count}
use Rattle.ig_space.specs.Grid.{IsIn, IsWithin, Meets, point_at, size_of}
use Rattle.ig_space.specs.Cells.{point_at-is}
use Rattle.ig_space.specs.Points.{place_of-point_at, point_at-inside}
use Rattle.ig_space.specs.Volume.{IsInside, place_of}
use Rattle.ig_cutout.specs.Area.{HasRoom, IsInOrder, common, layout_of, place_in}
use Rattle.ig_cutout.specs.Pasted.{place_at}

-- ---- bare numbers: a box of w x v x u voxels
place-split : (w v a b c i j k : ℕ) → a + w * (b + v * c) + i + w * j + w * v * k ≡ a + i + w * (b + j + v * (c + k))
place-split w v a b c i j k = omega arith

row-within : (w v u a b c n y z : ℕ) → a + n ≤ w → b + y < v → c + z < u
    → a + w * (b + v * c) + w * y + w * v * z + n ≤ w * (v * u)
row-within w v u a b c n y z x_fits y_fits z_fits =
    let planes : v * (c + z) + v ≤ v * u = let h = mul-le-mul_left v z_fits in omega arith in
    let rows : w * (b + y + v * (c + z) + 1) ≤ w * (v * u) = mul-le-mul_left w (omega arith) in
    omega arith

-- ---- boxes
-- a part of a box has room in its list, with so many bytes for each label
pub layout-room : (each : ℕ) (whole part : Box3) → IsWithin part whole → HasRoom each (layout_of whole part) (size_of part) (each * count (size_of whole))
layout-room each whole part within = record {
  rows = λ y z y_below z_below.
      mul-le-mul_left each (row-within (whole.hi.x - whole.lo.x) (whole.hi.y - whole.lo.y) (whole.hi.z - whole.lo.z)
      (part.lo.x - whole.lo.x) (part.lo.y - whole.lo.y) (part.lo.z - whole.lo.z) (part.hi.x - part.lo.x) y z
      (omega (arith, within.x_from, within.x_some, within.x_to)) (omega (arith, within.y_from, within.y_some, within.y_to)) (omega (arith, within.z_from, within.z_some, within.z_to)));
}

pub layout-order : (whole part : Box3) → IsWithin part whole → IsInOrder (layout_of whole part) (size_of part)
layout-order whole part within = record {
  rows = omega (arith, within.x_from, within.x_some, within.x_to);
  planes = mul-le-mul_left (whole.hi.x - whole.lo.x) (omega (arith, within.y_from, within.y_some, within.y_to));
}

-- a voxel of the part stands where it stands in the whole
pub layout-place : (whole part : Box3) (x y z : ℕ) → IsWithin part whole → IsIn part x y z
    → place_in (layout_of whole part) (x - part.lo.x) (y - part.lo.y) (z - part.lo.z) ≡ place_at whole x y z
layout-place whole part x y z within inside =
    let ex : part.lo.x - whole.lo.x + (x - part.lo.x) ≡ x - whole.lo.x = omega (arith, within.x_from, inside.x_from) in
    let ey : part.lo.y - whole.lo.y + (y - part.lo.y) ≡ y - whole.lo.y = omega (arith, within.y_from, inside.y_from) in
    let ez : part.lo.z - whole.lo.z + (z - part.lo.z) ≡ z - whole.lo.z = omega (arith, within.z_from, inside.z_from) in
    place-split (whole.hi.x - whole.lo.x) (whole.hi.y - whole.lo.y) (part.lo.x - whole.lo.x) (part.lo.y - whole.lo.y) (part.lo.z - whole.lo.z) (x - part.lo.x) (y - part.lo.y) (z - part.lo.z)
    ∙ ap (λ a. a + (whole.hi.x - whole.lo.x) * (part.lo.y - whole.lo.y + (y - part.lo.y) + (whole.hi.y - whole.lo.y) * (part.lo.z - whole.lo.z + (z - part.lo.z)))) ex
    ∙ ap (λ b. x - whole.lo.x + (whole.hi.x - whole.lo.x) * (b + (whole.hi.y - whole.lo.y) * (part.lo.z - whole.lo.z + (z - part.lo.z)))) ey
    ∙ ap (λ c. x - whole.lo.x + (whole.hi.x - whole.lo.x) * (y - whole.lo.y + (whole.hi.y - whole.lo.y) * c)) ez

-- a voxel lies so far from the first of its box
pub in-inside : (b : Box3) (x y z : ℕ) → IsIn b x y z → IsInside (size_of b) (x - b.lo.x) (y - b.lo.y) (z - b.lo.z)
in-inside b x y z inside = record { x_below = omega (arith, inside.x_from, inside.x_to); y_below = omega (arith, inside.y_from, inside.y_to); z_below = omega (arith, inside.z_from, inside.z_to) }

pub inside-in : (b : Box3) (i j k : ℕ) → IsInside (size_of b) i j k → IsIn b (b.lo.x + i) (b.lo.y + j) (b.lo.z + k)
inside-in b i j k inside = record {
  x_from = omega arith;
  x_to = omega (arith, inside.x_below);
  y_from = omega arith;
  y_to = omega (arith, inside.y_below);
  z_from = omega arith;
  z_to = omega (arith, inside.z_below);
}

-- voxels of a box that stand at one place are one voxel
pub record IsSameVoxel (x y z x' y' z' : ℕ) : Type 0 where
  pub x_is : x ≡ x'
  pub y_is : y ≡ y'
  pub z_is : z ≡ z'

pub place_at-apart : (b : Box3) (x y z x' y' z' : ℕ) → IsIn b x y z → IsIn b x' y' z' → place_at b x y z ≡ place_at b x' y' z' → IsSameVoxel x y z x' y' z'
place_at-apart b x y z x' y' z' h h' same =
    let i = in-inside b x y z h in
    let i' = in-inside b x' y' z' h' in
    let e = sym (point_at-is (size_of b) (x - b.lo.x) (y - b.lo.y) (z - b.lo.z) i.x_below i.y_below)
    ∙ ap (point_at (size_of b)) same
    ∙ point_at-is (size_of b) (x' - b.lo.x) (y' - b.lo.y) (z' - b.lo.z) i'.x_below i'.y_below in
    let ex : x - b.lo.x ≡ x' - b.lo.x = ap (λ (p : Point). p.x) e in
    let ey : y - b.lo.y ≡ y' - b.lo.y = ap (λ (p : Point). p.y) e in
    let ez : z - b.lo.z ≡ z' - b.lo.z = ap (λ (p : Point). p.z) e in
    record {
      x_is = omega (arith, ex, h.x_from, h'.x_from);
      y_is = omega (arith, ey, h.y_from, h'.y_from);
      z_is = omega (arith, ez, h.z_from, h'.z_from);
    }

-- ---- the voxels that lie in two boxes
pub common-in : (a b : Box3) (x y z : ℕ) → IsIn a x y z → IsIn b x y z → IsIn (common a b) x y z
common-in a b x y z h k = record {
  x_from = omega (arith, h.x_from, k.x_from);
  x_to = omega (arith, h.x_to, k.x_to);
  y_from = omega (arith, h.y_from, k.y_from);
  y_to = omega (arith, h.y_to, k.y_to);
  z_from = omega (arith, h.z_from, k.z_from);
  z_to = omega (arith, h.z_to, k.z_to);
}

pub common-left : (a b : Box3) → Meets a b → IsWithin (common a b) a
common-left a b meets =
    let h = meets.in_left in
    let k = meets.in_right in
    record {
      x_from = omega arith;
      x_some = omega (arith, h.x_from, h.x_to, k.x_from, k.x_to);
      x_to = omega arith;
      y_from = omega arith;
      y_some = omega (arith, h.y_from, h.y_to, k.y_from, k.y_to);
      y_to = omega arith;
      z_from = omega arith;
      z_some = omega (arith, h.z_from, h.z_to, k.z_from, k.z_to);
      z_to = omega arith;
    }

pub common-right : (a b : Box3) → Meets a b → IsWithin (common a b) b
common-right a b meets =
    let h = meets.in_left in
    let k = meets.in_right in
    record {
      x_from = omega arith;
      x_some = omega (arith, h.x_from, h.x_to, k.x_from, k.x_to);
      x_to = omega arith;
      y_from = omega arith;
      y_some = omega (arith, h.y_from, h.y_to, k.y_from, k.y_to);
      y_to = omega arith;
      z_from = omega arith;
      z_some = omega (arith, h.z_from, h.z_to, k.z_from, k.z_to);
      z_to = omega arith;
    }

pub within-in : (a b : Box3) (x y z : ℕ) → IsWithin a b → IsIn a x y z → IsIn b x y z
within-in a b x y z within h = record {
  x_from = omega (arith, within.x_from, h.x_from);
  x_to = omega (arith, within.x_to, h.x_to);
  y_from = omega (arith, within.y_from, h.y_from);
  y_to = omega (arith, within.y_to, h.y_to);
  z_from = omega (arith, within.z_from, h.z_from);
  z_to = omega (arith, within.z_to, h.z_to);
}

-- ---- the voxel with a number
-- the voxel of the box with this number lies in it, and stands at that place
pub record IsNumbered (b : Box3) (k x y z : ℕ) : Type 0 where
  pub in_box : IsIn b x y z
  pub place : place_at b x y z ≡ k

pub numbered : (b : Box3) (k : ℕ) → b.lo.x < b.hi.x → b.lo.y < b.hi.y → k < count (size_of b)
    → IsNumbered b k (b.lo.x + (point_at (size_of b) k).x) (b.lo.y + (point_at (size_of b) k).y) (b.lo.z + (point_at (size_of b) k).z)
numbered b k x_some y_some below =
    let p = point_at (size_of b) k in
    let ex : b.lo.x + p.x - b.lo.x ≡ p.x = omega arith in
    let ey : b.lo.y + p.y - b.lo.y ≡ p.y = omega arith in
    let ez : b.lo.z + p.z - b.lo.z ≡ p.z = omega arith in
    record {
      in_box = inside-in b p.x p.y p.z (point_at-inside (size_of b) k (omega (arith, x_some)) (omega (arith, y_some)) below);
      place = ap (λ n. place_of (size_of b) n (b.lo.y + p.y - b.lo.y) (b.lo.z + p.z - b.lo.z)) ex
          ∙ ap (λ n. place_of (size_of b) p.x n (b.lo.z + p.z - b.lo.z)) ey ∙ ap (λ n. place_of (size_of b) p.x p.y n) ez
          ∙ place_of-point_at (size_of b) k;
    }
