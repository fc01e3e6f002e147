-- The positions of the voxels of a clipped block.
use Rattle.std.proofs.Common.{arith, ◌≡◌, ◌≤◌, ◌<◌, ◌+◌, ◌-◌, ◌*◌, ℕ, ap}
use Rattle.std.proofs.lemmas.Nat.{mul-le}
use Rattle.ig_space.specs.declared.point.Point.{Point}
use Rattle.ig_space.specs.Geometry.{count}
use Rattle.ig_space.specs.Grid.{point_at}
use Rattle.ig_space.specs.Volume.{place_of}
use Rattle.ig_space.specs.Points.{point_at-inside}
use Rattle.ig_cseg.specs.Cseg.{position_in}
use Rattle.ig_cseg.specs.Blocks.{IsClip, last_position}
use Rattle.ig_cseg.specs.Places.{place-below}
pub use Rattle.ig_cseg.specs.Places.{column_of, point_at-place_of, row_of}

-- places rise with each coordinate
place-most : (size : Point) (x y z a b c : ℕ) → x ≤ a → y ≤ b → z ≤ c → place_of size x y z ≤ place_of size a b c
place-most size x y z a b c p q r =
    let planes = mul-le size.y z size.y c (omega arith) r in
    let rows = mul-le size.x (y + size.y * z) size.x (b + size.y * c) (omega arith) (omega (arith, planes)) in
    omega (arith, rows)

-- no position is above the last one
pub position-most : (size block lo clip : Point) (k : ℕ) → IsClip size block lo clip → k < count clip → position_in block clip k ≤ last_position block clip
position-most size block lo clip k h below =
    let i = point_at-inside clip k h.x_some h.y_some below in
    place-most block (point_at clip k).x (point_at clip k).y (point_at clip k).z (clip.x - 1) (clip.y - 1) (clip.z - 1) (omega (arith, i.x_below)) (omega (arith, i.y_below)) (omega (arith, i.z_below))

-- the number of the last voxel
abbrev pub last_number : Point → ℕ
last_number clip = place_of clip (clip.x - 1) (clip.y - 1) (clip.z - 1)

pub last_number-below : (size block lo clip : Point) → IsClip size block lo clip → last_number clip < count clip
last_number-below size block lo clip h = place-below clip (clip.x - 1) (clip.y - 1) (clip.z - 1) (omega (arith, h.x_some)) (omega (arith, h.y_some)) (omega (arith, h.z_some))

pub position-last : (size block lo clip : Point) → IsClip size block lo clip → position_in block clip (last_number clip) ≡ last_position block clip
position-last size block lo clip h =
    ap (λ (p : Point). place_of block p.x p.y p.z) (point_at-place_of clip (clip.x - 1) (clip.y - 1) (clip.z - 1) (omega (arith, h.x_some)) (omega (arith, h.y_some)))
