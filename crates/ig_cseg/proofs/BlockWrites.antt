-- The blocks that are written among the labels of the volume.
use Rattle.std.proofs.Common.{arith, ◌≡◌, ◌≤◌, ◌<◌, ◌+◌, ◌-◌, ◌*◌, ◌/◌, ◌%◌, ℕ, List, length, ap, sym, subst, ◌∙◌}
use Rattle.std.proofs.Math.Nat.{mod-lt, div-add-mod', mul_comm}
use Rattle.std.proofs.lemmas.Nat.{div_below, mul-add-lt}
use Rattle.ig_space.specs.declared.point.Point.{Point}
use Rattle.ig_space.specs.Geometry.{count}
use Rattle.ig_space.specs.Grid.{point_at}
use Rattle.ig_space.specs.Volume.{IsInside, place_of}
use Rattle.ig_space.specs.Points.{place_of-point_at, point_at-inside}
use Rattle.ig_cseg.specs.Cseg.{block_count, block_grid, block_of, blocks_along, clipped, clipped_along}
use Rattle.ig_cseg.specs.Blocks.{IsCut, corner, row_count, row_place}
use Rattle.ig_cseg.specs.Labels.{IsRight}
use Rattle.ig_cseg.proofs.Cuts.{has_sides}
use Rattle.ig_cseg.proofs.Positions.{column_of, point_at-place_of, row_of}
use Rattle.ig_cseg.proofs.Spans.{place-below}
use borrow.Author.Count.{below_more}

-- the labels of block b
abbrev pub BlockRight : ℕ → Point → Point → List ℕ → List ℕ → ℕ → Type 0
BlockRight n size block bytes xs b =
    (r : ℕ) → r < row_count (clipped size block b) → (x : ℕ) → x < (clipped size block b).x
    → IsRight n block size bytes xs (row_place size (corner size block b) (clipped size block b) r + x)

-- the labels of the first blocks
pub record BlocksRight (n : ℕ) (size block : Point) (bytes xs : List ℕ) (done : ℕ) : Type 0 where
  pub length : length xs ≡ count size
  pub blocks : (b : ℕ) → b < done → BlockRight n size block bytes xs b

pub blocks_right-more : (n : ℕ) (size block : Point) (bytes xs ws : List ℕ) (done : ℕ) → BlocksRight n size block bytes xs done → length ws ≡ length xs
    → ((k : ℕ) → IsRight n block size bytes xs k → IsRight n block size bytes ws k) → BlockRight n size block bytes ws done → BlocksRight n size block bytes ws (done + 1)
blocks_right-more n size block bytes xs ws done before same kept own = record {
  length = same ∙ before.length;
  blocks = below_more (BlockRight n size block bytes ws) done
      (λ b l r m x q. kept (row_place size (corner size block b) (clipped size block b) r + x) (before.blocks b l r m x q)) own;
}

-- along one axis: the block of a coordinate, and what lies in it
pub record IsAlong (side block x : ℕ) : Type 0 where
  pub block_below : x / block < blocks_along side block
  pub offset_below : x % block < clipped_along side block (x / block)
  pub place : x / block * block + x % block ≡ x

pub along : (side block x : ℕ) → 1 ≤ block → x < side → IsAlong side block x
along side block x some below =
    let split : x / block * block + x % block ≡ x = div-add-mod' x block in
    let small : x % block < block = mod-lt x some in
    let whole : blocks_along side block * block + (side + (block - 1)) % block ≡ side + (block - 1) = div-add-mod' (side + (block - 1)) block in
    let rest : (side + (block - 1)) % block < block = mod-lt (side + (block - 1)) some in
    record {
      block_below = div_below x block (blocks_along side block) some (omega arith);
      offset_below = omega arith;
      place = split;
    }

-- a voxel of a box is one of its rows
record IsVoxelOf (size lo clip : Point) (x y z r o : ℕ) : Type 0 where
  row_below : r < row_count clip
  column_below : o < clip.x
  place : row_place size lo clip r + o ≡ place_of size x y z

in_row : (size lo clip : Point) (x y z a b c : ℕ) → lo.x + a ≡ x → lo.y + b ≡ y → lo.z + c ≡ z → a < clip.x → b < clip.y → c < clip.z
    → IsVoxelOf size lo clip x y z (b + clip.y * c) a
in_row size lo clip x y z a b c ex ey ez la lb lc =
    let row : c * clip.y + b < clip.y * clip.z = mul-add-lt c clip.y b clip.z lc lb in
    let py : lo.y + (b + clip.y * c) % clip.y ≡ y = ap (λ n. lo.y + n) (column_of b clip.y c lb) ∙ ey in
    let pz : lo.z + (b + clip.y * c) / clip.y ≡ z = ap (λ n. lo.z + n) (row_of b clip.y c lb) ∙ ez in
    let rows : size.x * (lo.y + (b + clip.y * c) % clip.y + size.y * (lo.z + (b + clip.y * c) / clip.y)) ≡ size.x * (y + size.y * z) = cc (py, pz) in
    record {
      row_below = omega (arith, row, mul_comm clip.y c);
      column_below = la;
      place = omega (arith, rows, ex);
    }

-- once all blocks have their labels, each voxel has its own
pub voxel_right : (n : ℕ) (size block : Point) (bytes xs : List ℕ) (x y z : ℕ) → IsCut size block → BlocksRight n size block bytes xs (block_count size block)
    → IsInside size x y z → IsRight n block size bytes xs (place_of size x y z)
voxel_right n size block bytes xs x y z cut all inside =
    let ax = along size.x block.x x cut.x_step inside.x_below in
    let ay = along size.y block.y y cut.y_step inside.y_below in
    let az = along size.z block.z z cut.z_step inside.z_below in
    let b = block_of size block x y z in
    let below : b < block_count size block = place-below (block_grid size block) (x / block.x) (y / block.y) (z / block.z) ax.block_below ay.block_below az.block_below in
    let at : point_at (block_grid size block) b ≡ record { x = x / block.x; y = y / block.y; z = z / block.z } =
    point_at-place_of (block_grid size block) (x / block.x) (y / block.y) (z / block.z) ax.block_below ay.block_below in
    let ix = ap (λ (i : Point). i.x) at in
    let iy = ap (λ (i : Point). i.y) at in
    let iz = ap (λ (i : Point). i.z) at in
    let lo = corner size block b in
    let clip = clipped size block b in
    let v = in_row size lo clip x y z (x % block.x) (y % block.y) (z % block.z)
    (ap (λ n. n * block.x + x % block.x) ix ∙ ax.place) (ap (λ n. n * block.y + y % block.y) iy ∙ ay.place) (ap (λ n. n * block.z + z % block.z) iz ∙ az.place)
    (subst (λ n. x % block.x < clipped_along size.x block.x n) (sym ix) ax.offset_below) (subst (λ n. y % block.y < clipped_along size.y block.y n) (sym iy) ay.offset_below)
    (subst (λ n. z % block.z < clipped_along size.z block.z n) (sym iz) az.offset_below) in
    subst (IsRight n block size bytes xs) v.place (all.blocks b below (y % block.y + clip.y * (z % block.z)) v.row_below (x % block.x) v.column_below)

-- by numbers
pub all_right : (n : ℕ) (size block : Point) (bytes xs : List ℕ) → IsCut size block → BlocksRight n size block bytes xs (block_count size block)
    → (k : ℕ) → k < count size → IsRight n block size bytes xs k
all_right n size block bytes xs cut all k below =
    let sides = has_sides size k below in
    let inside = point_at-inside size k sides.x sides.y below in
    subst (IsRight n block size bytes xs) (place_of-point_at size k)
    (voxel_right n size block bytes xs (point_at size k).x (point_at size k).y (point_at size k).z cut all inside)

-- the same facts of a block, by the parts of its clip
abbrev Kept : ℕ → List ℕ → List ℕ → List ℕ → Point → Point → Type 0
Kept n bytes xs ws volume block = (k : ℕ) → IsRight n block volume bytes xs k → IsRight n block volume bytes ws k

abbrev RowsOf : ℕ → List ℕ → List ℕ → Point → Point → Point → Point → Type 0
RowsOf n bytes ws volume block lo clip =
    (r : ℕ) → r < row_count clip → (x : ℕ) → x < clip.x → IsRight n block volume bytes ws (row_place volume lo clip r + x)

kept_by : (n : ℕ) (bytes xs ws : List ℕ) (volume own size block : Point) → volume ≡ size → own ≡ block → Kept n bytes xs ws volume own → Kept n bytes xs ws size block
kept_by n bytes xs ws volume own size block v o kept =
    subst (λ (p : Point). Kept n bytes xs ws p block) v (subst (λ (p : Point). Kept n bytes xs ws volume p) o kept)

rows_by : (n : ℕ) (bytes ws : List ℕ) (b : ℕ) (volume own lo clip size block : Point) → volume ≡ size → own ≡ block → lo ≡ corner size block b → clip ≡ clipped size block b
    → RowsOf n bytes ws volume own lo clip → BlockRight n size block bytes ws b
rows_by n bytes ws b volume own lo clip size block v o l c rows =
    subst (λ (p : Point). RowsOf n bytes ws size block (corner size block b) p) c
    (subst (λ (p : Point). RowsOf n bytes ws size block p clip) l
    (subst (λ (p : Point). RowsOf n bytes ws p block lo clip) v
    (subst (λ (p : Point). RowsOf n bytes ws volume p lo clip) o rows)))

pub blocks_right-next : (n : ℕ) (bytes xs ws : List ℕ) (done : ℕ) (volume own lo clip size block : Point) → volume ≡ size → own ≡ block → lo ≡ corner size block done
    → clip ≡ clipped size block done → BlocksRight n size block bytes xs done → length ws ≡ length xs
    → ((k : ℕ) → IsRight n own volume bytes xs k → IsRight n own volume bytes ws k)
    → ((r : ℕ) → r < row_count clip → (x : ℕ) → x < clip.x → IsRight n own volume bytes ws (row_place volume lo clip r + x)) → BlocksRight n size block bytes ws (done + 1)
blocks_right-next n bytes xs ws done volume own lo clip size block v o l c before same kept rows =
    blocks_right-more n size block bytes xs ws done before same (kept_by n bytes xs ws volume own size block v o kept)
    (rows_by n bytes ws done volume own lo clip size block v o l c rows)
