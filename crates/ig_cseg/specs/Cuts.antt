-- The blocks of a volume lie in it.
use Rattle.std.proofs.Common.{arith, ◌≡◌, ◌≤◌, ◌<◌, ◌*◌, ◌^◌, ℕ, zero, suc, sym, subst}
use Rattle.std.proofs.Math.Nat.{le-mul_of_pos_right}
use Rattle.std.proofs.lemmas.Nat.{mul-le}
use Rattle.ig_space.specs.declared.point.Point.{Point}
use Rattle.ig_space.specs.Geometry.{count, padded}
use Rattle.ig_space.specs.Grid.{point_at}
use Rattle.ig_space.specs.Volume.{IsInside}
use Rattle.ig_space.specs.Points.{point_at-inside}
use Rattle.ig_cseg.specs.Cseg.{blocks_along, block_count, block_grid, clipped, clipped_along}
use Rattle.ig_cseg.specs.Blocks.{IsCut, IsClip, corner}
use Rattle.ig_cseg.specs.Axis.{blocks_along-some, block-begins, padded-most}

left_some : (n x y : ℕ) → n < x * y → 1 ≤ x
left_some n zero y h = absurd (omega arith)
left_some n (suc x) y h = omega arith

right_some : (n x y : ℕ) → n < x * y → 1 ≤ y
right_some n x zero h = absurd (omega arith)
right_some n x (suc y) h = omega arith

-- a box with a point has sides
pub record HasSides (size : Point) : Type 0 where
  pub x : 1 ≤ size.x
  pub y : 1 ≤ size.y
  pub z : 1 ≤ size.z

pub has_sides : (size : Point) (k : ℕ) → k < count size → HasSides size
has_sides size k below =
    let face : 1 ≤ size.y * size.z = right_some k size.x (size.y * size.z) below in
    record {
      x = left_some k size.x (size.y * size.z) below;
      y = left_some 0 size.y size.z (omega arith);
      z = right_some 0 size.y size.z (omega arith);
    }

-- the numbers of a block along the axes
pub grid-inside : (size block : Point) (b : ℕ) → b < block_count size block
    → IsInside (block_grid size block) (point_at (block_grid size block) b).x (point_at (block_grid size block) b).y (point_at (block_grid size block) b).z
grid-inside size block b below =
    let some = has_sides (block_grid size block) b below in
    point_at-inside (block_grid size block) b some.x some.y below

pub sides_some : (size block : Point) (b : ℕ) → IsCut size block → b < block_count size block → HasSides size
sides_some size block b cut below =
    let some = has_sides (block_grid size block) b below in
    record {
      x = blocks_along-some size.x block.x cut.x_step some.x;
      y = blocks_along-some size.y block.y cut.y_step some.y;
      z = blocks_along-some size.z block.z cut.z_step some.z;
    }

-- there are few blocks
pub blocks_few : (size block : Point) → IsCut size block → block_count size block ≤ 2 ^ 22
blocks_few size block cut =
    let x : blocks_along size.x block.x ≤ padded size.x block.x = le-mul_of_pos_right (blocks_along size.x block.x) cut.x_step in
    let y : blocks_along size.y block.y ≤ padded size.y block.y = le-mul_of_pos_right (blocks_along size.y block.y) cut.y_step in
    let z : blocks_along size.z block.z ≤ padded size.z block.z = le-mul_of_pos_right (blocks_along size.z block.z) cut.z_step in
    let face = mul-le _ _ _ _ y z in
    let all = mul-le _ _ _ _ x face in
    omega (arith, all, cut.padded)

-- a block has few positions
positions_few : (size block : Point) (b : ℕ) → IsCut size block → b < block_count size block → count block ≤ 2 ^ 22
positions_few size block b cut below =
    let some = has_sides (block_grid size block) b below in
    let face = mul-le _ _ _ _ (padded-most size.y block.y some.y) (padded-most size.z block.z some.z) in
    let all = mul-le _ _ _ _ (padded-most size.x block.x some.x) face in
    omega (arith, all, cut.padded)

pub clip_in : (size block : Point) (b : ℕ) → IsCut size block → b < block_count size block → IsClip size block (corner size block b) (clipped size block b)
clip_in size block b cut below =
    let i = grid-inside size block b below in
    let x = block-begins size.x block.x (point_at (block_grid size block) b).x cut.x_step i.x_below in
    let y = block-begins size.y block.y (point_at (block_grid size block) b).y cut.y_step i.y_below in
    let z = block-begins size.z block.z (point_at (block_grid size block) b).z cut.z_step i.z_below in
    record {
      x_some = omega (arith, x, cut.x_step);
      y_some = omega (arith, y, cut.y_step);
      z_some = omega (arith, z, cut.z_step);
      x_most = omega arith;
      y_most = omega arith;
      z_most = omega arith;
      x_in = omega (arith, x);
      y_in = omega (arith, y);
      z_in = omega (arith, z);
      few = cut.few;
      positions = positions_few size block b cut below;
    }

corner_by : Point → Point → ℕ → Point
corner_by g block b = record { x = (point_at g b).x * block.x; y = (point_at g b).y * block.y; z = (point_at g b).z * block.z }

clipped_by : Point → Point → Point → ℕ → Point
clipped_by g size block b = record {
  x = clipped_along size.x block.x (point_at g b).x;
  y = clipped_along size.y block.y (point_at g b).y;
  z = clipped_along size.z block.z (point_at g b).z;
}

-- the same, from the parts of the clipped block
pub clip_by : (size block g : Point) (b x y z : ℕ) → IsCut size block → b < block_count size block → g ≡ block_grid size block
    → x ≡ clipped_along size.x block.x (point_at g b).x → y ≡ clipped_along size.y block.y (point_at g b).y → z ≡ clipped_along size.z block.z (point_at g b).z
    → IsClip size block (record { x = (point_at g b).x * block.x; y = (point_at g b).y * block.y; z = (point_at g b).z * block.z }) (record { x = x; y = y; z = z })
unfolding corner_by clipped_by
clip_by size block g b x y z cut below e ex ey ez =
    let P : Point → Type 0 = λ (g : Point). IsClip size block (corner_by g block b) (clipped_by g size block b) in
    let whole : P g = subst P (sym e) (clip_in size block b cut below) in
    let Q : Point → Type 0 = λ (clip : Point). IsClip size block (corner_by g block b) clip in
    let same : clipped_by g size block b ≡ record { x = x; y = y; z = z } = λ i. record { x = sym ex i; y = sym ey i; z = sym ez i } in
    subst Q same whole
