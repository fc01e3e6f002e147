-- The indices and the labels that are read of a text.
use Rattle.std.proofs.Common.{arith, ◌≡◌, ◌≤◌, ◌<◌, ◌+◌, ◌*◌, ◌/◌, ◌%◌, ◌^◌, ℕ, zero, suc, List, length, slice_index, Bool, true, false, ◌&&◌, nat_lt, if◌then◌else◌, refl, ap, ◌∙◌, inl, inr, ◌⊎◌}
use Rattle.std.proofs.Math.Nat.{mod-add-div'}
use Rattle.std.proofs.lemmas.Bool.{and_from, lt-ltb}
use Rattle.std.proofs.lemmas.Nat.{shr_below}
use Rattle.ig_space.specs.declared.point.Point.{Point}
use Rattle.ig_space.specs.Geometry.{count}
use Rattle.ig_space.specs.Grid.{point_at}
use Rattle.ig_space.specs.Volume.{IsInside}
use Rattle.ig_cseg.specs.Cseg.{block_count, channel, clipped, entry, entry_place, index_at, number, values_place, word}
use Rattle.ig_cseg.specs.CsegText.{bits_of, index_in, index_of, is_inside, label_in, label_words, packed, table_begin, table_of, value_len, value_words, values_begin}
use Rattle.ig_cseg.specs.Packing.{fewest_bits-fill, some_bits, split, unpacked, value-within}
use Rattle.ig_cseg.specs.Pieces.{listed-at}
use Rattle.ig_cseg.specs.TextFits.{IsWritten, index-small, label-found}
use Rattle.ig_cseg.specs.TextPlaces.{channel-one, entry-lies, header-placed, piece-word, text_of, values-lie}
use Rattle.ig_cseg.specs.TextSizes.{length-label_words, length-value_words}

-- ---- indices
-- index p, in the word that has it
unpacked_at : (bits per p w : ℕ) (index : ℕ → ℕ) → per * bits ≡ 32 → ((j : ℕ) → index j < 2 ^ bits) → w ≡ packed bits (λ j. index (p * bits / 32 * per + j)) per
    → w / 2 ^ (p * bits % 32) % 2 ^ bits ≡ index p
unpacked_at bits per p w index fill small e =
    let s = split bits per p fill in
    let at : p * bits / 32 * per + p % per ≡ p = ap (λ m. m * per + p % per) s.word ∙ omega (arith, mod-add-div' p per) in
    ap (λ m. m / 2 ^ (p * bits % 32) % 2 ^ bits) e
    ∙ ap (λ m. packed bits (λ j. index (p * bits / 32 * per + j)) per / 2 ^ m % 2 ^ bits) s.below
    ∙ unpacked bits (λ j. index (p * bits / 32 * per + j)) per (p % per) (λ j l. small (p * bits / 32 * per + j)) s.within
    ∙ ap index at

no_bits : (bits x index : ℕ) → bits ≡ 0 → index < 2 ^ bits → x % 2 ^ bits ≡ index
no_bits bits x index none small =
    let one : 2 ^ bits ≡ 1 = ap (λ m. 2 ^ m) none in
    let lowest : x % 2 ^ bits ≡ x % 1 = ap (λ m. x % m) one in
    omega (arith, lowest, one, small)

read_by : (size block : Point) (n : ℕ) (labels : List ℕ) (b p : ℕ) → IsWritten size block n labels → b < block_count size block → p < count block
    → (bits_of size block labels b ≡ 0) ⊎ (32 / bits_of size block labels b * bits_of size block labels b ≡ 32) → (w : ℕ)
    → (1 ≤ bits_of size block labels b → w ≡ slice_index (value_words size block labels b) (p * bits_of size block labels b / 32))
    → w / 2 ^ (p * bits_of size block labels b % 32) % 2 ^ bits_of size block labels b ≡ index_of size block labels b p
read_by size block n labels b p w below l (inl none) x e =
    no_bits (bits_of size block labels b) (x / 2 ^ (p * bits_of size block labels b % 32)) (index_of size block labels b p) none (index-small size block labels b p w.cut below)
read_by size block n labels b p w below l (inr fill) x e =
    let bits = bits_of size block labels b in
    let some = some_bits bits (32 / bits) fill in
    unpacked_at bits (32 / bits) p x (index_of size block labels b) fill (λ j. index-small size block labels b j w.cut below)
    (e some ∙ listed-at (λ v. packed bits (λ j. index_of size block labels b (v * (32 / bits) + j)) (32 / bits)) (value_len bits (count block)) (p * bits / 32) (value-within bits (count block) p some l))

-- the index of position p is read as it was written
pub index-read : (size block : Point) (n : ℕ) (labels : List ℕ) (b p : ℕ) → IsWritten size block n labels → b < block_count size block → p < count block
    → index_at (text_of size block n labels) b p ≡ index_of size block labels b p
index-read size block n labels b p w below l =
    let bytes = text_of size block n labels in
    let bits = bits_of size block labels b in
    let h = header-placed size block n labels b w below in
    let begins = channel-one size block n labels w in
    let place = channel bytes + (values_place bytes b + p * bits / 32) in
    let at : place ≡ 1 + values_begin size block n labels b + p * bits / 32 = omega (arith, h.values, begins) in
    ap (λ m. word bytes (channel bytes + (values_place bytes b + p * m / 32)) / 2 ^ (p * m % 32) % 2 ^ m) h.bits
    ∙ read_by size block n labels b p w below l (fewest_bits-fill (length (table_of size block labels b))) (word bytes place)
    (λ some. piece-word size block n labels (value_words size block labels b) (1 + values_begin size block n labels b) place (p * bits / 32) w (values-lie size block n labels b below)
    (omega (arith, length-value_words size block labels b, value-within bits (count block) p some l)) at)

-- ---- labels
-- the label that was written in n words
number-written : (n : ℕ) (bytes : List ℕ) (place label : ℕ) → label < 2 ^ (32 * n) → ((j : ℕ) → j < n → word bytes (place + j) ≡ slice_index (label_words n label) j) → number n bytes place ≡ label
number-written zero bytes place label small each = omega (arith, small)
number-written (suc n) bytes place label small each =
    let longer : 2 ^ (32 * suc n) ≡ 2 ^ (32 * n + 32) = ap (λ m. 2 ^ m) (omega arith) in
    let rest = number-written n bytes (place + 1) (label / 2 ^ 32) (shr_below label (32 * n) 32 (omega (arith, small, longer)))
    (λ j l. ap (word bytes) (omega arith) ∙ each (suc j) (omega (arith, l))) in
    let low : word bytes place ≡ label % 2 ^ 32 = ap (word bytes) (omega arith) ∙ each 0 (omega arith) in
    omega (arith, rest, low)

-- the position is that of a voxel of block b
pub record IsVoxel (size block : Point) (b p : ℕ) : Type 0 where
  pub below : p < count block
  pub inside : IsInside (clipped size block b) (point_at block p).x (point_at block p).y (point_at block p).z

chosen : (inside : Bool) (index : ℕ) → inside ≡ true → (if inside then index else 0) ≡ index
chosen true index e = refl
chosen false index e = absurd (cc)

voxel-index : (size block : Point) (labels : List ℕ) (b p : ℕ) → IsVoxel size block b p → index_of size block labels b p ≡ index_in (table_of size block labels b) (label_in size block labels b (point_at block p))
voxel-index size block labels b p v =
    let q = point_at block p in
    let clip = clipped size block b in
    let inside : is_inside clip q ≡ true = and_from (nat_lt q.x clip.x && nat_lt q.y clip.y) (nat_lt q.z clip.z)
    (and_from (nat_lt q.x clip.x) (nat_lt q.y clip.y) (lt-ltb q.x clip.x v.inside.x_below) (lt-ltb q.y clip.y v.inside.y_below)) (lt-ltb q.z clip.z v.inside.z_below) in
    chosen (is_inside clip q) (index_in (table_of size block labels b) (label_in size block labels b q)) inside

-- the entry of a voxel: where it is, and what it says
pub record IsEntry (size block : Point) (n : ℕ) (labels : List ℕ) (b p index : ℕ) : Type 0 where
  pub below : index < length (table_of size block labels b)
  pub place : entry_place n (text_of size block n labels) b p ≡ table_begin size block n labels b + n * index
  pub label : label_in size block labels b (point_at block p) < 2 ^ (32 * n) → entry n (text_of size block n labels) b p ≡ label_in size block labels b (point_at block p)

pub voxel-entry : (size block : Point) (n : ℕ) (labels : List ℕ) (b p : ℕ) → IsWritten size block n labels → b < block_count size block → IsVoxel size block b p
    → IsEntry size block n labels b p (index_in (table_of size block labels b) (label_in size block labels b (point_at block p)))
voxel-entry size block n labels b p w below v =
    let bytes = text_of size block n labels in
    let table = table_of size block labels b in
    let own = label_in size block labels b (point_at block p) in
    let index = index_in table own in
    let found = label-found size block labels b (point_at block p) v.inside in
    let h = header-placed size block n labels b w below in
    let read : index_at bytes b p ≡ index = index-read size block n labels b p w below v.below ∙ voxel-index size block labels b p v in
    let product : n * index_at bytes b p ≡ n * index = ap (λ m. n * m) read in
    let place : entry_place n bytes b p ≡ table_begin size block n labels b + n * index = omega (arith, h.table, product) in
    let begins = channel-one size block n labels w in
    record {
      below = found.below;
      place = place;
      label = λ small. number-written n bytes (channel bytes + entry_place n bytes b p) own small
          (λ j l. piece-word size block n labels (label_words n (slice_index table index)) (1 + (table_begin size block n labels b + n * index)) (channel bytes + entry_place n bytes b p + j) j w
          (entry-lies size block n labels b index below found.below) (omega (arith, l, length-label_words n (slice_index table index))) (omega (arith, begins, place))
          ∙ ap (λ m. slice_index (label_words n m) j) found.same);
    }
