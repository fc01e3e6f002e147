-- The voxels of a clipped block, row by row.
use Rattle.std.proofs.Common.{arith, ◌≡◌, ◌≤◌, ◌<◌, ◌+◌, ◌*◌, ◌/◌, ◌%◌, ℕ, Bool, true, false, ap, sym, subst, ◌∙◌, inl, inr, ◌⊎◌}
use Rattle.std.proofs.Math.Nat.{eq-or-lt_of_le, mod-lt, mul_comm}
use Rattle.std.proofs.lemmas.Nat.{div_below, mul-add-lt}
use Rattle.ig_space.specs.declared.point.Point.{Point}
use Rattle.ig_space.specs.Geometry.{count}
use Rattle.ig_cseg.specs.Cseg.{position_in, some_below}
use Rattle.ig_cseg.specs.Blocks.{row_count, row_position}
use Rattle.ig_cseg.proofs.Positions.{column_of, row_of}
use Rattle.ig_cseg.proofs.Searches.{Found, below-none, below-some, none-below, some-below}

-- the voxel x of a row is voxel `x + clip.x * r` of the block
pub record IsInRow (block clip : Point) (r x k : ℕ) : Type 0 where
  pub below : k < count clip
  pub position : position_in block clip k ≡ row_position block clip r + x

pub row_voxel : (block clip : Point) (r x : ℕ) → r < row_count clip → x < clip.x → IsInRow block clip r x (x + clip.x * r)
row_voxel block clip r x below l =
    let place : r * clip.x + x < clip.x * (clip.y * clip.z) = mul-add-lt r clip.x x (clip.y * clip.z) below l in
    let row = row_of x clip.x r l in
    let column = column_of x clip.x r l in
    let rest = ap (λ n. block.x * (n % clip.y + block.y * (n / clip.y))) row in
    record {
      below = omega (arith, place, mul_comm clip.x r);
      position = omega (arith, column, rest);
    }

pub record HasRow (block clip : Point) (k : ℕ) : Type 0 where
  pub row_below : k / clip.x < row_count clip
  pub column_below : k % clip.x < clip.x
  pub position : row_position block clip (k / clip.x) + k % clip.x ≡ position_in block clip k

pub voxel_row : (block clip : Point) (k : ℕ) → 1 ≤ clip.x → k < count clip → HasRow block clip k
voxel_row block clip k some below =
    record {
      row_below = div_below k clip.x (clip.y * clip.z) some (subst (λ n. k < n) (mul_comm clip.x (clip.y * clip.z)) below);
      column_below = mod-lt k some;
      position = omega arith;
    }

found_voxel : (t : ℕ → Bool) (block clip : Point) (r : ℕ) → r < row_count clip → Found (λ x. t (row_position block clip r + x)) clip.x
    → some_below (λ k. t (position_in block clip k)) (count clip) ≡ true
found_voxel t block clip r below f =
    let v = row_voxel block clip r f.0 below f.1 in
    some-below (λ k. t (position_in block clip k)) (count clip) (f.0 + clip.x * r) v.below (ap t v.position ∙ f.2)

-- a test of the positions that a voxel of a row passes
pub rows-some : (t : ℕ → Bool) (block clip : Point) (r : ℕ) → r < row_count clip → some_below (λ x. t (row_position block clip r + x)) clip.x ≡ true
    → some_below (λ k. t (position_in block clip k)) (count clip) ≡ true
rows-some t block clip r below e =
    found_voxel t block clip r below (below-some (λ x. t (row_position block clip r + x)) clip.x e)

-- a test that no voxel of any row passes
pub rows-none : (t : ℕ → Bool) (block clip : Point) → 1 ≤ clip.x → ((r : ℕ) → r < row_count clip → some_below (λ x. t (row_position block clip r + x)) clip.x ≡ false)
    → some_below (λ k. t (position_in block clip k)) (count clip) ≡ false
rows-none t block clip some none =
    none-below (λ k. t (position_in block clip k)) (count clip)
    (λ k l. let v = voxel_row block clip k some l in
    ap t (sym v.position) ∙ below-none (λ x. t (row_position block clip (k / clip.x) + x)) clip.x (none (k / clip.x) v.row_below) (k % clip.x) v.column_below)

last_or_before : (f : ℕ → Bool) (n r : ℕ) → ((r : ℕ) → r < n → f r ≡ false) → f n ≡ false → (r ≡ n) ⊎ (r < n) → f r ≡ false
last_or_before f n r before own (inl same) = ap f same ∙ own
last_or_before f n r before own (inr l) = before r l

-- the first rows and one more
pub rows-more : (f : ℕ → Bool) (n : ℕ) → ((r : ℕ) → r < n → f r ≡ false) → f n ≡ false → (r : ℕ) → r < n + 1 → f r ≡ false
rows-more f n before own r l = last_or_before f n r before own (eq-or-lt_of_le (omega (arith, l)))
