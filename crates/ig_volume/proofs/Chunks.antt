-- A chunk's text of a volume reads as the volume's labels of the chunk.
use Rattle.std.proofs.Common.{arith, ◌≡◌, ◌≤◌, ◌<◌, ◌+◌, ◌-◌, ◌*◌, ◌/◌, ◌^◌, ◌&&◌, ◌⊎◌, inl, inr, min, nat_le, ℕ, zero, suc, Bool, true, false, if◌then◌else◌, List, [], ◌∷◌, ◌++◌, length, length-append, slice_index, Option, None, Some, refl, ap, sym, ◌∙◌, subst}
use Rattle.std.proofs.Math.Nat.{div-mul-le_self, eq-or-lt_of_le, le_trans, mul-le-mul, mul-le-mul_right}
use Rattle.std.proofs.lemmas.Bool.{and_from, and_parts, leb-true, le-leb}
use Rattle.std.proofs.lemmas.List.{get_or-append_right, get_or_append_left}
use Rattle.std.proofs.lemmas.Nat.{le-div}
use Rattle.std.proofs.lemmas.Option.{none-some, same_Some}
use Rattle.ig_space.specs.declared.point.Point.{Point}
use Rattle.ig_space.specs.declared.point.Box3.{Box3}
use Rattle.ig_space.specs.declared.geometry.Width.{Width}
use Rattle.ig_space.specs.declared.geometry.Encoding.{Encoding}
use Rattle.ig_space.specs.declared.geometry.Encoding.TheVariants.{Raw, Cseg}
use Rattle.ig_space.specs.declared.geometry.Geometry.{Geometry}
use Rattle.ig_space.specs.Geometry.{Fits-from, blocks_fit, count, encoding_fits, geometry_fits, is_wide, largest_padded, padded, padded_to}
use Rattle.ig_space.specs.Grid.{IsIn, cell, chunks_of, counts, point_at, size_of}
use Rattle.ig_space.specs.Volume.{IsInside}
use Rattle.ig_layer.specs.Layer.{Labels, label_in, label_of, is_text}
use Rattle.ig_layer.specs.AllListed.{label_by_number-is, number_in, number_in-below}
use Rattle.ig_layer.specs.Texts.{all_fit, all_listed, chunk_text, label_by_number, labels_in, text_in, text_of, with_last}
use Rattle.ig_volume.proofs.TextReads.{Reads, text-reads}

-- ---- how large a chunk is
-- a box is no longer than another on any axis
record IsShorter (size chunk : Point) : Type 0 where
  x : size.x ≤ chunk.x
  y : size.y ≤ chunk.y
  z : size.z ≤ chunk.z

side-few : (lo hi step i : ℕ) → min (lo + (i + 1) * step) hi - (lo + i * step) ≤ step
side-few lo hi step i = let e : (i + 1) * step ≡ i * step + step = omega arith in omega arith

chunk-shorter : (g : Geometry) (k : ℕ) → IsShorter (size_of (cell (chunks_of g) k)) g.chunk
chunk-shorter g k =
    let i = point_at (counts (chunks_of g)) k in
    record {
      x = side-few g.offset.x (g.offset.x + g.size.x) g.chunk.x i.x;
      y = side-few g.offset.y (g.offset.y + g.size.y) g.chunk.y i.y;
      z = side-few g.offset.z (g.offset.z + g.size.z) g.chunk.z i.z;
    }

padded-less : (a b block : ℕ) → 1 ≤ block → a ≤ b → padded a block ≤ padded b block
padded-less a b block some less =
    mul-le-mul_right block (le-div ((a + (block - 1)) / block) (b + (block - 1)) block some (le_trans (div-mul-le_self (a + (block - 1)) block) (omega (arith, less))))

blocks-fewer : (size chunk block : Point) → IsShorter size chunk → 1 ≤ block.x → 1 ≤ block.y → 1 ≤ block.z → count (padded_to size block) ≤ count (padded_to chunk block)
blocks-fewer size chunk block less x y z =
    mul-le-mul (padded-less size.x chunk.x block.x x less.x) (mul-le-mul (padded-less size.y chunk.y block.y y less.y) (padded-less size.z chunk.z block.z z less.z))

-- a shorter chunk can be written so too
encoding-shorter : (size chunk : Point) (width : Width) (encoding : Encoding) → IsShorter size chunk → encoding_fits chunk width encoding ≡ true → encoding_fits size width encoding ≡ true
encoding-shorter size chunk width Raw less fits = refl
encoding-shorter size chunk width (Cseg block) less fits =
    let p = and_parts (is_wide width) (blocks_fit chunk block) fits in
    let q = and_parts (nat_le 1 block.x && nat_le 1 block.y && nat_le 1 block.z) (nat_le (count (padded_to chunk block)) largest_padded) p.1 in
    let r = and_parts (nat_le 1 block.x && nat_le 1 block.y) (nat_le 1 block.z) q.0 in
    let s = and_parts (nat_le 1 block.x) (nat_le 1 block.y) r.0 in
    let fewer = blocks-fewer size chunk block less (leb-true 1 block.x s.0) (leb-true 1 block.y s.1) (leb-true 1 block.z r.1) in
    and_from _ _ p.0 (and_from _ _ q.0 (le-leb (count (padded_to size block)) largest_padded (le_trans fewer (leb-true (count (padded_to chunk block)) largest_padded q.1))))

-- a chunk can be written as its geometry says, and has few voxels
pub record IsWritable (g : Geometry) (size : Point) : Type 0 where
  pub encoding : encoding_fits size g.width g.encoding ≡ true
  pub few : count size ≤ 2 ^ 21

pub chunk-writable : (g : Geometry) (k : ℕ) → geometry_fits g ≡ true → IsWritable g (size_of (cell (chunks_of g) k))
chunk-writable g k fits =
    let f = Fits-from g fits in
    let less = chunk-shorter g k in
    record {
      encoding = encoding-shorter (size_of (cell (chunks_of g) k)) g.chunk g.width g.encoding less f.encoding;
      few = le_trans (mul-le-mul less.x (mul-le-mul less.y less.z)) f.few;
    }

-- ---- values that are listed, by their places
-- the list has each of the first values, in order
pub record HasValues (f : ℕ → Option ℕ) (n : ℕ) (xs : List ℕ) : Type 0 where
  pub long : length xs ≡ n
  pub each : (k : ℕ) → k < n → f k ≡ Some (slice_index xs k)

last-value : (f : ℕ → Option ℕ) (n k x : ℕ) (xs : List ℕ) → HasValues f n xs → f n ≡ Some x → (k ≡ n) ⊎ (k < n) → f k ≡ Some (slice_index (xs ++ x ∷ []) k)
last-value f n k x xs h is (inl last) =
    let first : k - n ≡ 0 = omega (arith, last) in
    ap f last ∙ is ∙ ap Some (sym (get_or-append_right xs (x ∷ []) n k 0 h.long (omega (arith, last)) ∙ ap (slice_index (x ∷ [])) first))
last-value f n k x xs h is (inr less) = h.each k less ∙ ap Some (sym (get_or_append_left xs (x ∷ []) 0 k (omega (arith, less, h.long))))

values-more : (f : ℕ → Option ℕ) (n : ℕ) (front : Option (List ℕ)) (back : Option ℕ) (xs : List ℕ) → with_last front back ≡ Some xs → f n ≡ back
    → ((ys : List ℕ) → front ≡ Some ys → HasValues f n ys) → HasValues f (suc n) xs
values-more f n None back xs e is before = absurd (none-some xs e)
values-more f n (Some ys) None xs e is before = absurd (none-some xs e)
values-more f n (Some ys) (Some y) xs e is before =
    let h = before ys refl in
    let same : ys ++ y ∷ [] ≡ xs = same_Some (ys ++ y ∷ []) xs e in
    record {
      long = ap length (sym same) ∙ length-append ys (y ∷ []) ∙ omega (arith, h.long);
      each = λ k below. last-value f n k y ys h is (eq-or-lt_of_le (omega (arith, below))) ∙ ap (λ zs. Some (slice_index zs k)) same;
    }

pub all_listed-values : (f : ℕ → Option ℕ) (n : ℕ) (xs : List ℕ) → all_listed f n ≡ Some xs → HasValues f n xs
all_listed-values f zero xs is = record { long = ap length (sym (same_Some [] xs is)); each = λ k below. absurd (omega (arith, below)) }
all_listed-values f (suc n) xs is = values-more f n (all_listed f n) (f n) xs is refl (λ ys e. all_listed-values f n ys e)

-- ---- the text of a chunk
-- the labels whose text this is
record IsTextOf (encoding : Encoding) (width : Width) (size : Point) (listed : Option (List ℕ)) (text : List ℕ) : Type 0 where
  labels : List ℕ
  listed_is : listed ≡ Some labels
  fit : all_fit width labels ≡ true
  text_is : text_in encoding width size labels ≡ text

text-if : (test : Bool) (written text : List ℕ) → (if test then Some written else None) ≡ Some text → (test ≡ true) × (written ≡ text)
text-if true written text e = (refl, same_Some written text e)
text-if false written text e = absurd (none-some text e)

text_of-from : (encoding : Encoding) (width : Width) (size : Point) (listed : Option (List ℕ)) (text : List ℕ) → text_of encoding width size listed ≡ Some text → IsTextOf encoding width size listed text
text_of-from encoding width size None text e = absurd (none-some text e)
text_of-from encoding width size (Some labels) text e =
    let t = text-if (all_fit width labels) (text_in encoding width size labels) text e in
    record { labels = labels; listed_is = refl; fit = t.0; text_is = t.1 }

if_true : (test : Bool) (x : Option ℕ) → test ≡ true → (if test then x else None) ≡ x
if_true test x e = rw e refl

inside_of : (b : Box3) (x y z : ℕ) → IsIn b x y z → IsInside (size_of b) (x - b.lo.x) (y - b.lo.y) (z - b.lo.z)
inside_of b x y z h = record { x_below = omega (arith, h.x_from, h.x_to); y_below = omega (arith, h.y_from, h.y_to); z_below = omega (arith, h.z_from, h.z_to) }

-- a chunk's text of the volume gives the volume's label of each of its voxels
pub chunk_text-label : (g : Geometry) (volume : Labels) (box : Box3) (text : List ℕ) → IsWritable g (size_of box) → chunk_text g volume box ≡ Some text
    → (x y z : ℕ) → IsIn box x y z → label_in g box (Some text) x y z ≡ volume x y z
chunk_text-label g volume box text writable is x y z inside =
    let w = text_of-from g.encoding g.width (size_of box) (labels_in volume box) text is in
    let values = all_listed-values (label_by_number volume box) (count (size_of box)) w.labels w.listed_is in
    let reads = subst (Reads g.encoding g.width (size_of box) w.labels) w.text_is
    (text-reads g.encoding g.width (size_of box) w.labels writable.encoding writable.few values.long w.fit) in
    let k = number_in box x y z in
    if_true (is_text g.encoding g.width (size_of box) text) (Some (label_of g.encoding g.width (size_of box) text (x - box.lo.x) (y - box.lo.y) (z - box.lo.z))) reads.is
    ∙ ap Some (reads.each (x - box.lo.x) (y - box.lo.y) (z - box.lo.z) (inside_of box x y z inside))
    ∙ sym (values.each k (number_in-below box x y z inside))
    ∙ label_by_number-is volume box x y z inside
