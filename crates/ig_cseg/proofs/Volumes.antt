-- The labels of the volume.
use Rattle.std.proofs.Common.{arith, ◌≡◌, ◌<◌, ◌+◌, ◌*◌, ◌^◌, ℕ, List, length, slice_index, drop, true, ap, sym, subst, ◌∙◌}
use Rattle.std.proofs.lemmas.List.{get_or-drop, take_at}
use Rattle.ig_space.specs.declared.point.Point.{Point}
use Rattle.ig_space.specs.declared.geometry.Width.{Width}
use Rattle.ig_space.specs.declared.geometry.Width.TheVariants.{W8, W16, W32, W64}
use Rattle.ig_space.specs.Geometry.{count, is_wide, label_len}
use Rattle.ig_space.specs.Raw.{AllFit}
use Rattle.ig_space.specs.Volume.{IsInside, Voxels, place_of, voxel, with_labels}
use Rattle.ig_cseg.specs.Cseg.{block_of, channel, entry, entry_len, entry_place, label_at, number, position, word}
use Rattle.ig_cseg.specs.Labels.{IsRight, label_of}
use Rattle.ig_space.specs.Grid.{point_at}
use Rattle.ig_cseg.proofs.Positions.{point_at-place_of}
use Rattle.ig_cseg.proofs.Spans.{place-below}

-- the label of the voxel with a number is that of its coordinates
label_of-place : (block : Point) (width : Width) (size : Point) (bytes : List ℕ) (x y z : ℕ) → x < size.x → y < size.y
    → label_of (entry_len width) block size bytes (place_of size x y z) ≡ label_at block width size bytes x y z
unfolding label_of label_at
label_of-place block width size bytes x y z a b =
    ap (λ (p : Point). entry (entry_len width) bytes (block_of size block p.x p.y p.z) (position block p.x p.y p.z)) (point_at-place_of size x y z a b)

all_written : (v : Voxels) (ws : List ℕ) → length ws ≡ length v.labels → (with_labels v ws).labels ≡ ws
all_written v ws e = take_at ws (drop (length ws) v.labels) (length v.labels) e

-- each label of the volume is right
abbrev AllRight : Point → Width → Point → List ℕ → List ℕ → Type 0
AllRight block width size bytes ws = (k : ℕ) → k < count size → IsRight (entry_len width) block size bytes ws k

pub labels_right : (block : Point) (width : Width) (size : Point) (bytes : List ℕ) (v : Voxels) (ws : List ℕ) → size ≡ v.size → length ws ≡ length v.labels
    → ((k : ℕ) → k < count size → IsRight (entry_len width) block size bytes ws k) → (x y z : ℕ) → IsInside v.size x y z
    → voxel (with_labels v ws) x y z ≡ label_at block width v.size bytes x y z
labels_right block width size bytes v ws same e right x y z inside =
    let own = subst (λ (s : Point). AllRight block width s bytes ws) same right in
    let below = place-below v.size x y z inside.x_below inside.y_below inside.z_below in
    ap (λ ls. slice_index ls (place_of v.size x y z)) (all_written v ws e) ∙ own (place_of v.size x y z) below
    ∙ label_of-place block width v.size bytes x y z inside.x_below inside.y_below

-- a word has 32 bits
word-fits : (bytes : List ℕ) (i : ℕ) → ((k : ℕ) → slice_index bytes k < 256) → word bytes i < 2 ^ 32
unfolding word
word-fits bytes i small =
    let a : slice_index (drop (4 * i) bytes) 0 < 256 = rw (get_or-drop (4 * i) bytes 0 0) (small (4 * i + 0)) in
    let b : slice_index (drop (4 * i) bytes) 1 < 256 = rw (get_or-drop (4 * i) bytes 1 0) (small (4 * i + 1)) in
    let c : slice_index (drop (4 * i) bytes) 2 < 256 = rw (get_or-drop (4 * i) bytes 2 0) (small (4 * i + 2)) in
    let d : slice_index (drop (4 * i) bytes) 3 < 256 = rw (get_or-drop (4 * i) bytes 3 0) (small (4 * i + 3)) in
    omega arith

number-fits : (width : Width) (bytes : List ℕ) (i : ℕ) → is_wide width ≡ true → ((k : ℕ) → slice_index bytes k < 256) → number (entry_len width) bytes i < 256 ^ label_len width
number-fits W8 bytes i wide small = absurd (cc)
number-fits W16 bytes i wide small = absurd (cc)
number-fits W32 bytes i wide small = omega (arith, word-fits bytes i small)
number-fits W64 bytes i wide small = omega (arith, word-fits bytes i small, word-fits bytes (i + 1) small)

label_of-fits : (width : Width) (block size : Point) (bytes : List ℕ) (k : ℕ) → is_wide width ≡ true → ((k : ℕ) → slice_index bytes k < 256)
    → label_of (entry_len width) block size bytes k < 256 ^ label_len width
unfolding label_of
label_of-fits width block size bytes k wide small =
    number-fits width bytes (channel bytes + entry_place (entry_len width) bytes (block_of size block (point_at size k).x (point_at size k).y (point_at size k).z) (position block (point_at size k).x (point_at size k).y (point_at size k).z)) wide small

pub labels_fit : (block : Point) (width : Width) (size : Point) (bytes : List ℕ) (v : Voxels) (ws : List ℕ) → is_wide width ≡ true → ((k : ℕ) → slice_index bytes k < 256)
    → length ws ≡ length v.labels → length ws ≡ count size → ((k : ℕ) → k < count size → IsRight (entry_len width) block size bytes ws k) → AllFit width (with_labels v ws).labels
labels_fit block width size bytes v ws wide small e long right =
    subst (AllFit width) (sym (all_written v ws e))
    (λ k l. subst (λ n. n < 256 ^ label_len width) (sym (right k (omega (arith, l, long)))) (label_of-fits width block size bytes k wide small))
