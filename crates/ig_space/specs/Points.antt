-- Numbers of voxels in a box, and their coordinates, are each other's.
use Rattle.std.specs.Prelude.{◌≡◌, ℕ, ◌+◌, ◌*◌, ◌/◌, ◌%◌, ◌<◌}
use Rattle.std.proofs.Common.{ap, ◌∙◌, subst}
use Rattle.std.proofs.Math.Nat.{mod-add-div, mod-lt, mul_comm}
use Rattle.std.proofs.lemmas.Nat.{div_below}
use Rattle.ig_space.specs.declared.point.Point.{Point}
use Rattle.ig_space.specs.Geometry.{count}
use Rattle.ig_space.specs.Grid.{point_at}
use Rattle.ig_space.specs.Volume.{place_of, IsInside}

-- the place of the point with a number is that number
pub place_of-point_at : (size : Point) (k : ℕ) → place_of size (point_at size k).x (point_at size k).y (point_at size k).z ≡ k
place_of-point_at size k =
    ap (λ q. k % size.x + size.x * q) (mod-add-div (k / size.x) size.y) ∙ mod-add-div k size.x

-- the point with a number below the count is inside
pub point_at-inside : (size : Point) (k : ℕ) → 0 < size.x → 0 < size.y → k < count size → IsInside size (point_at size k).x (point_at size k).y (point_at size k).z
point_at-inside size k x y below =
    let in_rows : k < size.y * size.z * size.x = subst (λ n. k < n) (mul_comm size.x (size.y * size.z)) below in
    let row : k / size.x < size.y * size.z = div_below k size.x (size.y * size.z) x in_rows in
    let in_planes : k / size.x < size.z * size.y = subst (λ n. k / size.x < n) (mul_comm size.y size.z) row in
    record {
      x_below = mod-lt k x;
      y_below = mod-lt (k / size.x) y;
      z_below = div_below (k / size.x) size.y size.z y in_planes;
    }
