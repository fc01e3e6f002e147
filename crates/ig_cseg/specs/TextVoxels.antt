-- The block of a voxel, and its position there.
use Rattle.std.proofs.Common.{arith, ◌≡◌, ◌≤◌, ◌<◌, ◌+◌, ◌*◌, ◌/◌, ◌%◌, ℕ, List, slice_index, ap, sym, subst, ◌∙◌}
use Rattle.std.proofs.Math.Nat.{div-mul-le_self, le-div_iff_mul-le, mod-add-div', mod-lt}
use Rattle.ig_space.specs.declared.point.Point.{Point}
use Rattle.ig_space.specs.Geometry.{count}
use Rattle.ig_space.specs.Grid.{point_at}
use Rattle.ig_space.specs.Points.{point_at-inside}
use Rattle.ig_space.specs.Volume.{IsInside, place_of}
use Rattle.ig_cseg.specs.Blocks.{IsCut, IsClip, corner}
use Rattle.ig_cseg.specs.Cseg.{block_count, block_grid, block_of, blocks_along, clipped, clipped_along, position, position_in}
use Rattle.ig_cseg.specs.CsegText.{label_in}
use Rattle.ig_cseg.specs.Cuts.{clip_in}
use Rattle.ig_cseg.specs.Places.{place-below, point_at-place_of}
use Rattle.ig_cseg.specs.TextEntries.{IsVoxel}

-- ---- one axis
block-below : (side block x : ℕ) → 1 ≤ block → x < side → x / block < blocks_along side block
block-below side block x some below =
    let begins : x / block * block ≤ x = div-mul-le_self x block in
    (le-div_iff_mul-le some).1 (omega (arith, begins, below))

offset-inside : (side block x : ℕ) → x < side → 1 ≤ block → x % block < clipped_along side block (x / block)
offset-inside side block x below some =
    let whole : x % block + x / block * block ≡ x = mod-add-div' x block in
    let short : x % block < block = mod-lt x some in
    omega (arith, whole, short, below)

-- ---- a voxel of the volume
-- its block is one of the volume, its position is that of a voxel there, and the label that is gathered there is its own
pub record HasVoxel (size block : Point) (labels : List ℕ) (x y z : ℕ) : Type 0 where
  pub block_below : block_of size block x y z < block_count size block
  pub voxel : IsVoxel size block (block_of size block x y z) (position block x y z)
  pub label : label_in size block labels (block_of size block x y z) (point_at block (position block x y z)) ≡ slice_index labels (place_of size x y z)

pub voxel_in : (size block : Point) (labels : List ℕ) (x y z : ℕ) → IsCut size block → IsInside size x y z → HasVoxel size block labels x y z
voxel_in size block labels x y z cut i =
    let grid = block_grid size block in
    let b = block_of size block x y z in
    let p = position block x y z in
    let bx : x / block.x < grid.x = block-below size.x block.x x cut.x_step i.x_below in
    let by : y / block.y < grid.y = block-below size.y block.y y cut.y_step i.y_below in
    let bz : z / block.z < grid.z = block-below size.z block.z z cut.z_step i.z_below in
    let g : Point = record { x = x / block.x; y = y / block.y; z = z / block.z } in
    let q : Point = record { x = x % block.x; y = y % block.y; z = z % block.z } in
    let at_block : point_at grid b ≡ g = point_at-place_of grid (x / block.x) (y / block.y) (z / block.z) bx by in
    let at : point_at block p ≡ q = point_at-place_of block (x % block.x) (y % block.y) (z % block.z) (mod-lt x cut.x_step) (mod-lt y cut.y_step) in
    let offsets : IsInside (record { x = clipped_along size.x block.x g.x; y = clipped_along size.y block.y g.y; z = clipped_along size.z block.z g.z }) q.x q.y q.z =
    record { x_below = offset-inside size.x block.x x i.x_below cut.x_step; y_below = offset-inside size.y block.y y i.y_below cut.y_step; z_below = offset-inside size.z block.z z i.z_below cut.z_step } in
    let in_clip : IsInside (clipped size block b) q.x q.y q.z =
    subst (λ (h : Point). IsInside (record { x = clipped_along size.x block.x h.x; y = clipped_along size.y block.y h.y; z = clipped_along size.z block.z h.z }) q.x q.y q.z) (sym at_block) offsets in
    let wx : x / block.x * block.x + x % block.x ≡ x = omega (arith, mod-add-div' x block.x) in
    let wy : y / block.y * block.y + y % block.y ≡ y = omega (arith, mod-add-div' y block.y) in
    let wz : z / block.z * block.z + z % block.z ≡ z = omega (arith, mod-add-div' z block.z) in
    record {
      block_below = place-below grid (x / block.x) (y / block.y) (z / block.z) bx by bz;
      voxel = record {
        below = place-below block (x % block.x) (y % block.y) (z % block.z) (mod-lt x cut.x_step) (mod-lt y cut.y_step) (mod-lt z cut.z_step);
        inside = subst (λ (r : Point). IsInside (clipped size block b) r.x r.y r.z) (sym at) in_clip;
      };
      label =
          ap (label_in size block labels b) at
          ∙ ap (λ (h : Point). slice_index labels (place_of size (h.x * block.x + q.x) (h.y * block.y + q.y) (h.z * block.z + q.z))) at_block
          ∙ ap (λ k. slice_index labels (place_of size k (g.y * block.y + q.y) (g.z * block.z + q.z))) wx
          ∙ ap (λ k. slice_index labels (place_of size x k (g.z * block.z + q.z))) wy
          ∙ ap (λ k. slice_index labels (place_of size x y k)) wz;
    }

-- ---- voxel k of a clipped block
clip-voxel : (size block lo : Point) (b k : ℕ) → IsClip size block lo (clipped size block b) → k < count (clipped size block b) → IsVoxel size block b (position_in block (clipped size block b) k)
clip-voxel size block lo b k h below =
    let clip = clipped size block b in
    let q = point_at clip k in
    let i = point_at-inside clip k h.x_some h.y_some below in
    let x : q.x < block.x = omega (arith, i.x_below, h.x_most) in
    let y : q.y < block.y = omega (arith, i.y_below, h.y_most) in
    let z : q.z < block.z = omega (arith, i.z_below, h.z_most) in
    let at : point_at block (position_in block clip k) ≡ q = point_at-place_of block q.x q.y q.z x y in
    record {
      below = place-below block q.x q.y q.z x y z;
      inside = subst (λ (r : Point). IsInside clip r.x r.y r.z) (sym at) i;
    }

pub voxel_at : (size block : Point) (b k : ℕ) → IsCut size block → b < block_count size block → k < count (clipped size block b) → IsVoxel size block b (position_in block (clipped size block b) k)
voxel_at size block b k cut below l = clip-voxel size block (corner size block b) b k (clip_in size block b cut below) l
