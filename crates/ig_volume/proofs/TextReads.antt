-- The text of labels reads as these labels, in either encoding.
use Rattle.std.proofs.Common.{arith, ◌≡◌, ◌≤◌, ◌<◌, ◌+◌, ◌*◌, ◌^◌, ◌&&◌, nat_le, ℕ, zero, suc, true, List, [], ◌∷◌, length, length-append, drop, slice_index, ap, ◌∙◌}
use Rattle.std.specs.Prelude.{is_none}
use Rattle.std.proofs.Math.Nat.{mul-zero}
use Rattle.std.proofs.Math.Seq.{drop-append-add}
use Rattle.std.proofs.lemmas.Bool.{and_parts, eq-eqb, leb-true, ltb-true}
use Rattle.std.specs.Int.{bytes_low_first}
use Rattle.std.specs.List.{flat_map}
use Rattle.byteorder.specs.Endian.{little_number}
use Rattle.byteorder.specs.Numbers.{length-bytes_low_first, little_number-reads_back}
use Rattle.ig_space.specs.declared.point.Point.{Point}
use Rattle.ig_space.specs.declared.geometry.Width.{Width}
use Rattle.ig_space.specs.declared.geometry.Encoding.{Encoding}
use Rattle.ig_space.specs.declared.geometry.Encoding.TheVariants.{Raw, Cseg}
use Rattle.ig_space.specs.Geometry.{blocks_fit, count, encoding_fits, is_wide, label_len, largest_padded, padded_to}
use Rattle.ig_space.specs.Raw.{AllFit, raw_text}
use Rattle.ig_space.specs.Volume.{IsInside, place_of}
use Rattle.ig_cseg.specs.Blocks.{IsCut}
use Rattle.ig_cseg.specs.Places.{place-below}
use Rattle.ig_cseg.specs.ReadsBack.{cseg_text-clean, cseg_text-reads_back}
use Rattle.ig_layer.specs.Layer.{is_text, label_of, raw_len}
use Rattle.ig_layer.specs.Texts.{all_fit, text_in}

-- ---- raw texts
length-raw : (n : ℕ) (labels : List ℕ) → length (flat_map (bytes_low_first 0 n) labels) ≡ n * length labels
length-raw n [] = omega arith
length-raw n (x ∷ xs) =
    let rest = length-raw n xs in
    let own = length-bytes_low_first 0 n x in
    rw (length-append, own, rest) (omega arith)

raw-number : (n : ℕ) (labels : List ℕ) (k : ℕ) → k < length labels → slice_index labels k < 256 ^ n
    → little_number n (drop (n * k) (flat_map (bytes_low_first 0 n) labels)) ≡ slice_index labels k
raw-number n [] k h fits = absurd (omega (arith, h))
raw-number n (x ∷ xs) zero h fits = rw mul-zero (little_number-reads_back n x (flat_map (bytes_low_first 0 n) xs) fits)
raw-number n (x ∷ xs) (suc k) h fits =
    let same : n * suc k ≡ length (bytes_low_first 0 n x) + n * k = omega (arith, length-bytes_low_first 0 n x) in
    rw (same, drop-append-add) (raw-number n xs k (omega arith) fits)

-- ---- both encodings
-- the text is that of a chunk of this size, and has these labels
pub record Reads (encoding : Encoding) (width : Width) (size : Point) (labels text : List ℕ) : Type 0 where
  pub is : is_text encoding width size text ≡ true
  pub each : (x y z : ℕ) → IsInside size x y z → label_of encoding width size text x y z ≡ slice_index labels (place_of size x y z)

raw-reads : (width : Width) (size : Point) (labels : List ℕ) → length labels ≡ count size → AllFit width labels → Reads Raw width size labels (raw_text width labels)
raw-reads width size labels whole fit = record {
  is = eq-eqb (length (raw_text width labels)) (raw_len width size) (length-raw (label_len width) labels ∙ ap (λ n. label_len width * n) whole);
  each = λ x y z inside.
      let k = place_of size x y z in
      let below : k < length labels = omega (arith, place-below size x y z inside.x_below inside.y_below inside.z_below, whole) in
      raw-number (label_len width) labels k below (fit k below);
}

-- blocks that fit cut the chunk
cut_of : (size block : Point) → blocks_fit size block ≡ true → count size ≤ 2 ^ 21 → IsCut size block
cut_of size block fits few =
    let p = and_parts (nat_le 1 block.x && nat_le 1 block.y && nat_le 1 block.z) (nat_le (count (padded_to size block)) largest_padded) fits in
    let q = and_parts (nat_le 1 block.x && nat_le 1 block.y) (nat_le 1 block.z) p.0 in
    let r = and_parts (nat_le 1 block.x) (nat_le 1 block.y) q.0 in
    record {
      x_step = leb-true 1 block.x r.0;
      y_step = leb-true 1 block.y r.1;
      z_step = leb-true 1 block.z q.1;
      few = few;
      padded = leb-true (count (padded_to size block)) largest_padded p.1;
    }

cseg-reads : (block : Point) (width : Width) (size : Point) (labels : List ℕ) → is_wide width ≡ true → IsCut size block → length labels ≡ count size → AllFit width labels
    → Reads (Cseg block) width size labels (text_in (Cseg block) width size labels)
cseg-reads block width size labels wide cut whole fit = record {
  is = ap is_none (cseg_text-clean block width size labels wide cut whole fit);
  each = λ x y z inside. cseg_text-reads_back block width size labels wide cut whole fit x y z inside;
}

-- labels that pass the test fit
fit-from : (width : Width) (labels : List ℕ) → all_fit width labels ≡ true → (k : ℕ) → k < length labels → slice_index labels k < 256 ^ label_len width
fit-from width [] h k below = absurd (omega (arith, below))
fit-from width (label ∷ labels) h zero below = ltb-true label (256 ^ label_len width) (and_parts _ _ h).0
fit-from width (label ∷ labels) h (suc k) below = fit-from width labels (and_parts _ _ h).1 k (omega (arith, below))

reads-by : (encoding : Encoding) (width : Width) (size : Point) (labels : List ℕ) → encoding_fits size width encoding ≡ true → count size ≤ 2 ^ 21
    → length labels ≡ count size → AllFit width labels → Reads encoding width size labels (text_in encoding width size labels)
reads-by Raw width size labels fits few whole fit = raw-reads width size labels whole fit
reads-by (Cseg block) width size labels fits few whole fit =
    let p = and_parts (is_wide width) (blocks_fit size block) fits in
    cseg-reads block width size labels p.0 (cut_of size block p.1 few) whole fit

-- the text of labels that fit reads as them
pub text-reads : (encoding : Encoding) (width : Width) (size : Point) (labels : List ℕ) → encoding_fits size width encoding ≡ true → count size ≤ 2 ^ 21
    → length labels ≡ count size → all_fit width labels ≡ true → Reads encoding width size labels (text_in encoding width size labels)
text-reads encoding width size labels fits few whole fit = reads-by encoding width size labels fits few whole (fit-from width labels fit)
