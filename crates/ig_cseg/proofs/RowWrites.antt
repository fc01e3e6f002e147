-- A row of a block that is written among the labels of the volume.
use Rattle.std.proofs.Common.{arith, ◌≡◌, ◌≤◌, ◌<◌, ◌+◌, ◌-◌, ℕ, List, length, slice_index, take, drop, ap, sym, subst, ◌∙◌}
use Rattle.std.proofs.lemmas.List.{length-take-le, length-drop}
use Rattle.ig_space.specs.declared.point.Point.{Point}
use Rattle.ig_cseg.specs.Blocks.{IsClip, corner, row_count, row_place, row_position}
use Rattle.ig_cseg.specs.Cseg.{entry}
use Rattle.ig_cseg.specs.Labels.{IsRight, label_of}
use Rattle.ig_cseg.proofs.RowLabels.{row_label}
use Rattle.ig_cseg.proofs.Writes.{Filled, filled}
use borrow.Author.Count.{below_more}
use borrow.Rule.Slice.PartMut.{put_mid}

-- a part of m labels from a on
pub part_length : (a m : ℕ) (xs : List ℕ) → a + m ≤ length xs → length (take (a + m - a) (drop a xs)) ≡ m
part_length a m xs h =
    let same : a + m - a ≡ m = omega arith in
    let rest = length-drop a xs in
    ap (λ n. length (take n (drop a xs))) same ∙ length-take-le m (drop a xs) (omega (arith, rest))

pub row_written : (n : ℕ) (size block lo clip : Point) (bytes : List ℕ) (b row a q : ℕ) (xs ys : List ℕ) → IsClip size block lo clip → lo ≡ corner size block b → row < row_count clip
    → a ≡ row_place size lo clip row → q ≡ row_position block clip row → a + clip.x ≤ length xs → length ys ≡ length (take (a + clip.x - a) (drop a xs))
    → ((k : ℕ) → k < length (take (a + clip.x - a) (drop a xs)) → slice_index ys k ≡ entry n bytes b (q + k))
    → Filled (label_of n block size bytes) xs (put_mid a (a + clip.x - a) xs ys) (row_place size lo clip row) clip.x
row_written n size block lo clip bytes b row a q xs ys h e below at from room long each =
    let part = part_length a clip.x xs room in
    let right : (i : ℕ) → i < clip.x → slice_index ys i ≡ label_of n block size bytes (a + i) = λ i l.
    each i (omega (arith, part, l)) ∙ ap (λ q. entry n bytes b (q + i)) from ∙ sym (ap (λ k. label_of n block size bytes (k + i)) at ∙ row_label n size block lo clip bytes b row i h e below l) in
    subst (λ p. Filled (label_of n block size bytes) xs (put_mid a (a + clip.x - a) xs ys) p clip.x) at
    (filled (label_of n block size bytes) a (a + clip.x - a) clip.x xs ys (omega arith) (long ∙ part) room right)

-- the rows of a block before this one and no right label lost
pub record RowsRight (n : ℕ) (size block lo clip : Point) (bytes first xs : List ℕ) (done : ℕ) : Type 0 where
  pub length : length xs ≡ length first
  pub kept : (k : ℕ) → IsRight n block size bytes first k → IsRight n block size bytes xs k
  pub rows : (r : ℕ) → r < done → (x : ℕ) → x < clip.x → IsRight n block size bytes xs (row_place size lo clip r + x)

pub rows_right-more : (n : ℕ) (size block lo clip : Point) (bytes first xs ws : List ℕ) (rows : ℕ) → RowsRight n size block lo clip bytes first xs rows
    → Filled (label_of n block size bytes) xs ws (row_place size lo clip rows) clip.x → RowsRight n size block lo clip bytes first ws (rows + 1)
rows_right-more n size block lo clip bytes first xs ws rows before w = record {
  length = w.length ∙ before.length;
  kept = λ k right. w.kept k (before.kept k right);
  rows = below_more (λ r. (x : ℕ) → x < clip.x → IsRight n block size bytes ws (row_place size lo clip r + x))
      rows (λ r l x m. w.kept (row_place size lo clip r + x) (before.rows r l x m)) w.own;
}
