-- The labels of a box, gathered row by row.
use Rattle.std.proofs.Common.{arith, ◌≡◌, ◌≤◌, ◌<◌, ◌+◌, ◌-◌, ◌*◌, ◌/◌, ◌%◌, ℕ, List, [], ◌++◌, length, slice_index, take, drop, ap, sym, ◌∙◌}
use Rattle.ig_space.specs.declared.point.Point.{Point}
use Rattle.ig_space.specs.Chunks.{listed}
use Rattle.ig_space.specs.Geometry.{count}
use Rattle.ig_space.specs.Grid.{point_at}
use Rattle.ig_space.specs.Volume.{place_of}
use Rattle.ig_cseg.specs.Blocks.{row_count, row_place}
use Rattle.ig_cseg.specs.BlockText.{box_label, box_labels}
use Rattle.ig_cseg.specs.TextSizes.{length-listed}
use Rattle.ig_cseg.proofs.Listing.{listed-append, listed-same, part-listed}
use Rattle.ig_cseg.proofs.Positions.{column_of, row_of}

-- the labels of the first voxels of a box
abbrev pub first_labels : Point → Point → Point → List ℕ → ℕ → List ℕ
first_labels size lo clip labels n = listed (λ k. box_label size lo labels (point_at clip k)) n

-- a voxel of a row
row_label : (size lo clip : Point) (labels : List ℕ) (r k : ℕ) → k < clip.x → slice_index labels (row_place size lo clip r + k) ≡ box_label size lo labels (point_at clip (clip.x * r + k))
row_label size lo clip labels r k l =
    let turned : clip.x * r + k ≡ k + clip.x * r = omega arith in
    let column : (clip.x * r + k) % clip.x ≡ k = ap (λ n. n % clip.x) turned ∙ column_of k clip.x r l in
    let row : (clip.x * r + k) / clip.x ≡ r = ap (λ n. n / clip.x) turned ∙ row_of k clip.x r l in
    let same : row_place size lo clip r + k ≡ place_of size (lo.x + k) (lo.y + r % clip.y) (lo.z + r / clip.y) = omega arith in
    ap (slice_index labels) same
    ∙ sym (ap (λ n. slice_index labels (place_of size (lo.x + n) (lo.y + (clip.x * r + k) / clip.x % clip.y) (lo.z + (clip.x * r + k) / clip.x / clip.y))) column
    ∙ ap (λ n. slice_index labels (place_of size (lo.x + k) (lo.y + n % clip.y) (lo.z + n / clip.y))) row)

pub gathered-more : (size lo clip : Point) (labels items : List ℕ) (r a : ℕ) → items ≡ first_labels size lo clip labels (clip.x * r) → a ≡ row_place size lo clip r
    → a + clip.x ≤ length labels → items ++ take (a + clip.x - a) (drop a labels) ≡ first_labels size lo clip labels (clip.x * (r + 1))
gathered-more size lo clip labels items r a before at room =
    let f : ℕ → ℕ = λ k. box_label size lo labels (point_at clip k) in
    let long : a + clip.x - a ≡ clip.x = omega arith in
    let part = ap (λ n. take n (drop a labels)) long ∙ part-listed a clip.x labels room
    ∙ listed-same (λ k. slice_index labels (a + k)) (λ k. f (clip.x * r + k)) clip.x (λ k l. ap (λ p. slice_index labels (p + k)) at ∙ row_label size lo clip labels r k l) in
    let next : clip.x * r + clip.x ≡ clip.x * (r + 1) = omega arith in
    ap (λ xs. xs ++ take (a + clip.x - a) (drop a labels)) before ∙ ap (λ xs. listed f (clip.x * r) ++ xs) part ∙ sym (listed-append f (clip.x * r) clip.x) ∙ ap (listed f) next

pub gathered-none : (size lo clip : Point) (labels : List ℕ) → [] ≡ first_labels size lo clip labels (clip.x * 0)
gathered-none size lo clip labels =
    let none : 0 ≡ clip.x * 0 = omega arith in
    ap (first_labels size lo clip labels) none

pub gathered-all : (size lo clip : Point) (labels items : List ℕ) (r : ℕ) → items ≡ first_labels size lo clip labels (clip.x * r) → r ≡ row_count clip → items ≡ box_labels size lo clip labels
gathered-all size lo clip labels items r before all = before ∙ ap (λ n. first_labels size lo clip labels (clip.x * n)) all

pub length-box_labels : (size lo clip : Point) (labels : List ℕ) → length (box_labels size lo clip labels) ≡ count clip
length-box_labels size lo clip labels = length-listed (λ k. box_label size lo labels (point_at clip k)) (count clip)
