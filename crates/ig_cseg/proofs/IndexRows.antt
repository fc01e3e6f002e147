-- The indices of a block, row by row.
use Rattle.std.proofs.Common.{arith, ◌≡◌, ◌≤◌, ◌<◌, ◌+◌, ◌-◌, ◌*◌, ◌/◌, ◌%◌, ◌^◌, ℕ, true, false, ◌&&◌, nat_lt, if◌then◌else◌, List, length, slice_index, take, drop, refl, ap, sym, subst, ◌∙◌, inl, inr, ◌⊎◌}
use Rattle.std.proofs.Math.Nat.{mod-add-div, mul_comm}
use Rattle.std.proofs.lemmas.Bool.{cases_Bool, lt-ltb}
use Rattle.std.proofs.lemmas.List.{get_or-drop, get_or-take}
use Rattle.std.proofs.lemmas.Nat.{mul-add-lt, mul-le, row_fits}
use Rattle.std.specs.List.{Contains}
use Rattle.ig_space.specs.declared.point.Point.{Point}
use Rattle.ig_space.specs.Geometry.{count}
use Rattle.ig_space.specs.Grid.{point_at}
use Rattle.ig_space.specs.Volume.{place_of}
use Rattle.ig_space.specs.Points.{place_of-point_at}
use Rattle.ig_cseg.specs.Blocks.{IsClip, row_count, row_position}
use Rattle.ig_cseg.specs.BlockText.{index_at_position}
use Rattle.ig_cseg.specs.CsegText.{distinct, index_in, is_inside}
use Rattle.ig_cseg.specs.TextFits.{inside-from}
use Rattle.ig_cseg.specs.TextSizes.{distinct-most}
use Rattle.ig_cseg.proofs.Writes.{Filled, filled}
use Rattle.ig_cseg.proofs.Positions.{column_of, point_at-place_of, row_of}
use Rattle.ig_cseg.proofs.Rising.{distinct-contains}
use Rattle.ig_cseg.proofs.RowWrites.{part_length}
use Rattle.ig_cseg.proofs.Spans.{row_in}
use borrow.Author.Count.{below_more}
use borrow.Rule.Slice.PartMut.{put_mid}

-- ---- inside a box
pub inside-true : (size p : Point) → p.x < size.x → p.y < size.y → p.z < size.z → is_inside size p ≡ true
inside-true size p a b c =
    let x : nat_lt p.x size.x ≡ true = lt-ltb p.x size.x a in
    let y : nat_lt p.y size.y ≡ true = lt-ltb p.y size.y b in
    let z : nat_lt p.z size.z ≡ true = lt-ltb p.z size.z c in
    ap (λ t. t && nat_lt p.y size.y && nat_lt p.z size.z) x ∙ ap (λ t. true && t && nat_lt p.z size.z) y ∙ z

-- ---- the index of a voxel of a row
index_by : Point → List ℕ → List ℕ → Point → ℕ
index_by clip voxels table p = if is_inside clip p then index_in table (slice_index voxels (place_of clip p.x p.y p.z)) else 0

row_index : (size block lo clip : Point) (voxels table : List ℕ) (r k : ℕ) → IsClip size block lo clip → r < row_count clip → k < clip.x
    → index_at_position block clip voxels table (row_position block clip r + k) ≡ index_in table (slice_index voxels (r * clip.x + k))
unfolding index_by
row_index size block lo clip voxels table r k h below l =
    let row = row_in clip r h.y_some below in
    let y = r % clip.y in
    let z = r / clip.y in
    let own : Point = record { x = k; y = y; z = z } in
    let place : row_position block clip r + k ≡ place_of block k y z = omega arith in
    let at : point_at block (row_position block clip r + k) ≡ own = ap (point_at block) place ∙ point_at-place_of block k y z (omega (arith, l, h.x_most)) (omega (arith, row.y, h.y_most)) in
    let inside = inside-true clip own l row.y row.z in
    let rows : y + clip.y * z ≡ r = mod-add-div r clip.y in
    let turned : k + clip.x * (y + clip.y * z) ≡ r * clip.x + k = ap (λ n. k + clip.x * n) rows ∙ omega arith in
    ap (index_by clip voxels table) at ∙ ap (λ b. if b then index_in table (slice_index voxels (place_of clip k y z)) else 0) inside
    ∙ ap (λ n. index_in table (slice_index voxels n)) turned

-- ---- the rows so far
pub record RowsIndexed (block clip : Point) (voxels table first xs : List ℕ) (done : ℕ) : Type 0 where
  pub length : length xs ≡ length first
  pub kept : (p : ℕ) → slice_index first p ≡ index_at_position block clip voxels table p → slice_index xs p ≡ index_at_position block clip voxels table p
  pub rows : (r : ℕ) → r < done → (x : ℕ) → x < clip.x → slice_index xs (row_position block clip r + x) ≡ index_at_position block clip voxels table (row_position block clip r + x)

pub rows-none : (block clip : Point) (voxels table first : List ℕ) → RowsIndexed block clip voxels table first first 0
rows-none block clip voxels table first = record { length = refl; kept = λ p e. e; rows = λ r l x m. absurd (omega (arith, l)) }

rows_more : (block clip : Point) (voxels table first xs ws : List ℕ) (r : ℕ) → RowsIndexed block clip voxels table first xs r
    → Filled (index_at_position block clip voxels table) xs ws (row_position block clip r) clip.x → RowsIndexed block clip voxels table first ws (r + 1)
rows_more block clip voxels table first xs ws r before w = record {
  length = w.length ∙ before.length;
  kept = λ p e. w.kept p (before.kept p e);
  rows = below_more (λ r. (x : ℕ) → x < clip.x → slice_index ws (row_position block clip r + x) ≡ index_at_position block clip voxels table (row_position block clip r + x))
      r (λ r l x m. w.kept (row_position block clip r + x) (before.rows r l x m)) w.own;
}

pub row-indexed : (size block lo clip : Point) (voxels table first xs ys : List ℕ) (r a : ℕ) → IsClip size block lo clip → r < row_count clip → a ≡ row_position block clip r
    → RowsIndexed block clip voxels table first xs r → a + clip.x ≤ length xs → length ys ≡ clip.x
    → ((k : ℕ) → k < clip.x → slice_index ys k ≡ index_in table (slice_index voxels (r * clip.x + k)))
    → RowsIndexed block clip voxels table first (put_mid a (a + clip.x - a) xs ys) (r + 1)
row-indexed size block lo clip voxels table first xs ys r a h below at before room long each =
    let f = index_at_position block clip voxels table in
    let right : (i : ℕ) → i < clip.x → slice_index ys i ≡ f (a + i) = λ i l. each i l ∙ sym (row_index size block lo clip voxels table r i h below l) ∙ ap (λ p. f (p + i)) (sym at) in
    rows_more block clip voxels table first xs (put_mid a (a + clip.x - a) xs ys) r before
    (subst (λ p. Filled f xs (put_mid a (a + clip.x - a) xs ys) p clip.x) at (filled f a (a + clip.x - a) clip.x xs ys (omega arith) long room right))

-- ---- all positions
placed : (block clip : Point) (voxels table first xs : List ℕ) (done p : ℕ) → RowsIndexed block clip voxels table first xs done → done ≡ row_count clip
    → slice_index first p ≡ 0 → (is_inside clip (point_at block p) ≡ true) ⊎ (is_inside clip (point_at block p) ≡ false)
    → slice_index xs p ≡ index_at_position block clip voxels table p
placed block clip voxels table first xs done p all end zero (inr out) =
    all.kept p (zero ∙ sym (ap (λ b. if b then index_in table (slice_index voxels (place_of clip (point_at block p).x (point_at block p).y (point_at block p).z)) else 0) out))
placed block clip voxels table first xs done p all end zero (inl inn) =
    let q = point_at block p in
    let i = inside-from clip q inn in
    let r = q.y + clip.y * q.z in
    let below : q.z * clip.y + q.y < clip.y * clip.z = mul-add-lt q.z clip.y q.y clip.z i.z_below i.y_below in
    let column : r % clip.y ≡ q.y = column_of q.y clip.y q.z i.y_below in
    let row : r / clip.y ≡ q.z = row_of q.y clip.y q.z i.y_below in
    let lines : r % clip.y + block.y * (r / clip.y) ≡ q.y + block.y * q.z = ap (λ n. n + block.y * (r / clip.y)) column ∙ ap (λ n. q.y + block.y * n) row in
    let own : row_position block clip r + q.x ≡ p = ap (λ n. block.x * n + q.x) lines ∙ omega arith ∙ place_of-point_at block p in
    subst (λ n. slice_index xs n ≡ index_at_position block clip voxels table n) own (all.rows r (omega (arith, below, end, mul_comm clip.y q.z)) q.x i.x_below)

pub all-indexed : (block clip : Point) (voxels table first xs : List ℕ) (done : ℕ) → RowsIndexed block clip voxels table first xs done → done ≡ row_count clip
    → ((p : ℕ) → slice_index first p ≡ 0) → (p : ℕ) → slice_index xs p ≡ index_at_position block clip voxels table p
all-indexed block clip voxels table first xs done all end zero p = placed block clip voxels table first xs done p all end (zero p) (cases_Bool (is_inside clip (point_at block p)))

-- ---- the labels of a row among those of the box
pub row_room : (clip : Point) (r n : ℕ) → r < row_count clip → n ≡ count clip → r * clip.x + clip.x ≤ n
row_room clip r n below whole =
    let fits : r * clip.x + clip.x ≤ clip.y * clip.z * clip.x = row_fits r clip.x (clip.y * clip.z) clip.x below (omega arith) in
    omega (arith, fits, whole, mul_comm clip.x (clip.y * clip.z))

pub part-contained : (a m k : ℕ) (table labels : List ℕ) → table ≡ distinct labels → a + m ≤ length labels → k < length (take (a + m - a) (drop a labels))
    → Contains table (slice_index (take (a + m - a) (drop a labels)) k)
part-contained a m k table labels is room l =
    let long = part_length a m labels room in
    let own : slice_index (take (a + m - a) (drop a labels)) k ≡ slice_index labels (a + k) = get_or-take (a + m - a) (drop a labels) k 0 (omega (arith, l, long)) ∙ get_or-drop a labels k 0 in
    subst (Contains table) (sym own) (subst (λ t. Contains t (slice_index labels (a + k))) (sym is) (distinct-contains labels (a + k) (omega (arith, l, long, room))))

pub part-label : (a m k : ℕ) (labels : List ℕ) → k < m → slice_index (take (a + m - a) (drop a labels)) k ≡ slice_index labels (a + k)
part-label a m k labels l = get_or-take (a + m - a) (drop a labels) k 0 (omega arith) ∙ get_or-drop a labels k 0

pub table-few : (size block lo clip : Point) (labels : List ℕ) → IsClip size block lo clip → length labels ≡ count clip → length (distinct labels) ≤ 2 ^ 22
table-few size block lo clip labels h whole =
    let most : count clip ≤ count block = mul-le clip.x (clip.y * clip.z) block.x (block.y * block.z) h.x_most (mul-le clip.y clip.z block.y block.z h.y_most h.z_most) in
    omega (arith, most, h.positions, distinct-most labels, whole)
