-- The rows of a clipped block lie in the volume, and their positions in the block.
use Rattle.std.proofs.Common.{arith, ◌≤◌, ◌<◌, ◌+◌, ◌-◌, ◌*◌, ◌/◌, ◌%◌, ℕ, subst}
use Rattle.std.proofs.Math.Nat.{mod-lt, mul_comm}
use Rattle.std.proofs.lemmas.Nat.{div_below}
use Rattle.ig_space.specs.declared.point.Point.{Point}
use Rattle.ig_space.specs.Geometry.{count}
use Rattle.ig_space.specs.Volume.{place_of}
pub use Rattle.ig_cseg.specs.Places.{place-below}
use Rattle.ig_cseg.specs.Blocks.{IsClip, last_position, row_count, row_place, row_position}

-- a row by its two numbers
pub record IsRow (clip : Point) (row : ℕ) : Type 0 where
  pub y : row % clip.y < clip.y
  pub z : row / clip.y < clip.z

pub row_in : (clip : Point) (row : ℕ) → 1 ≤ clip.y → row < row_count clip → IsRow clip row
row_in clip row some below =
    record {
      y = mod-lt row some;
      z = div_below row clip.y clip.z some (subst (λ n. row < n) (mul_comm clip.y clip.z) below);
    }

-- so do as many voxels along x as lie in the box
pub places-below : (size : Point) (x y z n : ℕ) → 1 ≤ n → x + n ≤ size.x → y < size.y → z < size.z → place_of size x y z + n ≤ count size
places-below size x y z n some a b c =
    let last = place-below size (x + (n - 1)) y z (omega arith) b c in
    omega (arith, last)

pub place_in : (size block lo clip : Point) (row : ℕ) → IsClip size block lo clip → row < row_count clip → row_place size lo clip row + clip.x ≤ count size
place_in size block lo clip row h below =
    let r = row_in clip row h.y_some below in
    places-below size lo.x (lo.y + row % clip.y) (lo.z + row / clip.y) clip.x h.x_some h.x_in (omega (arith, h.y_in, r.y)) (omega (arith, h.z_in, r.z))

pub position_in_block : (size block lo clip : Point) (row : ℕ) → IsClip size block lo clip → row < row_count clip → row_position block clip row + clip.x ≤ count block
position_in_block size block lo clip row h below =
    let r = row_in clip row h.y_some below in
    let all = places-below block 0 (row % clip.y) (row / clip.y) clip.x h.x_some (omega (arith, h.x_most)) (omega (arith, h.y_most, r.y)) (omega (arith, h.z_most, r.z)) in
    omega (arith, all)

-- a factor of a small product is small
pub factor_small : (x n m : ℕ) → 1 ≤ x → x * n ≤ m → n ≤ m
factor_small x n m some h = grind arith

pub last_in_block : (size block lo clip : Point) → IsClip size block lo clip → last_position block clip < count block
last_in_block size block lo clip h =
    place-below block (clip.x - 1) (clip.y - 1) (clip.z - 1) (omega (arith, h.x_some, h.x_most)) (omega (arith, h.y_some, h.y_most)) (omega (arith, h.z_some, h.z_most))
