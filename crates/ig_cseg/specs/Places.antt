-- Points of a box, and their places.
use Rattle.std.proofs.Common.{arith, ◌≡◌, ◌<◌, ◌+◌, ◌*◌, ◌/◌, ◌%◌, ℕ, ap, ◌∙◌}
use Rattle.std.proofs.Math.Nat.{mul_comm}
use Rattle.std.proofs.lemmas.Nat.{div-mul-add, mod-mul-add, mul-add-lt}
use Rattle.ig_space.specs.declared.point.Point.{Point}
use Rattle.ig_space.specs.Geometry.{count}
use Rattle.ig_space.specs.Grid.{point_at}
use Rattle.ig_space.specs.Volume.{place_of}

pub row_of : (x w r : ℕ) → x < w → (x + w * r) / w ≡ r
row_of x w r l =
    let e : x + w * r ≡ r * w + x = omega (arith, mul_comm w r) in
    ap (λ n. n / w) e ∙ div-mul-add r w x l

pub column_of : (x w r : ℕ) → x < w → (x + w * r) % w ≡ x
column_of x w r l =
    let e : x + w * r ≡ r * w + x = omega (arith, mul_comm w r) in
    ap (λ n. n % w) e ∙ mod-mul-add r w x l

-- the point with the number of a point is that point
pub point_at-place_of : (size : Point) (x y z : ℕ) → x < size.x → y < size.y → point_at size (place_of size x y z) ≡ record { x = x; y = y; z = z }
point_at-place_of size x y z a b =
    let row : place_of size x y z / size.x ≡ y + size.y * z = row_of x size.x (y + size.y * z) a in
    let ey = ap (λ n. n % size.y) row ∙ column_of y size.y z b in
    let ez = ap (λ n. n / size.y) row ∙ row_of y size.y z b in
    λ i. record { x = column_of x size.x (y + size.y * z) a i; y = ey i; z = ez i }

-- a voxel of a box stands among its labels
pub place-below : (size : Point) (x y z : ℕ) → x < size.x → y < size.y → z < size.z → place_of size x y z < count size
place-below size x y z a b c =
    let rows : z * size.y + y < size.y * size.z = mul-add-lt z size.y y size.z c b in
    let all : (y + size.y * z) * size.x + x < size.x * (size.y * size.z) = mul-add-lt (y + size.y * z) size.x x (size.y * size.z) (omega (arith, mul_comm size.y z, rows)) a in
    omega (arith, mul_comm size.x (y + size.y * z), all)
