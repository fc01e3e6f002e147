-- What is written in compressed_segmentation has no fault, and gives each label back.
use Rattle.std.proofs.Common.{arith, ◌≡◌, ◌≤◌, ◌<◌, ◌+◌, ◌*◌, ◌%◌, ◌^◌, ℕ, zero, suc, List, length, slice_index, Bool, true, false, not, ◌==◌, nat_lt, if◌then◌else◌, Option, Some, None, refl, ap, ◌∙◌, inl, inr, ◌⊎◌}
use Rattle.std.proofs.lemmas.Bool.{and_left, and_right, cases_eq, eq-eqb, le-ltb, ne_eqb, not_from_true}
use Rattle.std.specs.Option.{option_or}
use Rattle.ig_space.specs.declared.point.Point.{Point}
use Rattle.ig_space.specs.declared.geometry.Width.{Width}
use Rattle.ig_space.specs.declared.geometry.Width.TheVariants.{W8, W16, W32, W64}
use Rattle.ig_space.specs.Geometry.{count, is_wide}
use Rattle.ig_space.specs.Grid.{point_at}
use Rattle.ig_space.specs.Raw.{AllFit}
use Rattle.ig_space.specs.Volume.{IsInside, place_of}
use Rattle.ig_cseg.specs.declared.fault.CsegFault.{CsegFault}
use Rattle.ig_cseg.specs.declared.fault.CsegFault.TheVariants.{NotWords, NoChannel, HeaderShort, BadBits, ValuesOutside, TableOutside}
use Rattle.ig_cseg.specs.Blocks.{IsCut}
use Rattle.ig_cseg.specs.Cseg.{block_count, block_fault, block_of, channel, clipped, entry_len, entry_place, fault_of, first_fault, index_bits, is_lawful, is_outside, label_at, position, position_in, some_below, table_outside, value_place, values_outside, word_count}
use Rattle.ig_cseg.specs.CsegText.{bits_of, cseg_text, cseg_words, index_in, label_in, table_of}
use Rattle.ig_cseg.specs.Packing.{fewest_bits-lawful, value-within}
use Rattle.ig_cseg.specs.Places.{place-below}
use Rattle.ig_cseg.specs.Searches.{none-below}
use Rattle.ig_cseg.specs.TextEntries.{IsVoxel, voxel-entry}
use Rattle.ig_cseg.specs.TextFits.{IsWritten}
use Rattle.ig_cseg.specs.TextPlaces.{channel-one, count-is, entry-lies, header-placed, text_of, values-lie}
use Rattle.ig_cseg.specs.TextSizes.{length-label_words, length-value_words}
use Rattle.ig_cseg.specs.TextVoxels.{voxel_at, voxel_in}
use Rattle.ig_cseg.specs.TextWords.{text-count, text-whole}

-- ---- of the width
entry_some : (width : Width) → (1 ≤ entry_len width) × (entry_len width ≤ 2)
entry_some W8 = (omega arith, omega arith)
entry_some W16 = (omega arith, omega arith)
entry_some W32 = (omega arith, omega arith)
entry_some W64 = (omega arith, omega arith)

label_fits : (width : Width) (labels : List ℕ) (k : ℕ) → is_wide width ≡ true → AllFit width labels → k < length labels → slice_index labels k < 2 ^ (32 * entry_len width)
label_fits W8 labels k wide fit l = absurd (cc)
label_fits W16 labels k wide fit l = absurd (cc)
label_fits W32 labels k wide fit l = fit k l
label_fits W64 labels k wide fit l = fit k l

written : (block : Point) (width : Width) (size : Point) (labels : List ℕ) → IsCut size block → length labels ≡ count size → IsWritten size block (entry_len width) labels
written block width size labels cut whole = record { some = (entry_some width).0; few = (entry_some width).1; cut = cut; whole = whole }

-- each label is read as it was written
pub cseg_text-reads_back : (block : Point) (width : Width) (size : Point) (labels : List ℕ) → is_wide width ≡ true → IsCut size block → length labels ≡ count size → AllFit width labels
    → (x y z : ℕ) → IsInside size x y z → label_at block width size (cseg_text block width size labels) x y z ≡ slice_index labels (place_of size x y z)
unfolding label_at
cseg_text-reads_back block width size labels wide cut whole fit x y z i =
    let v = voxel_in size block labels x y z cut i in
    let own = voxel-entry size block (entry_len width) labels (block_of size block x y z) (position block x y z) (written block width size labels cut whole) v.block_below v.voxel in
    let k = place_of size x y z in
    let below = place-below size x y z i.x_below i.y_below i.z_below in
    let small = label_fits width labels k wide fit (omega (arith, below, whole)) in
    own.label (omega (arith, small, v.label)) ∙ v.label

-- ---- faults
block_clean : (a b c : Bool) (n : ℕ) → a ≡ true → b ≡ false → c ≡ false → (if not a then Some (BadBits n) else if b then Some (ValuesOutside n) else if c then Some (TableOutside n) else None) ≡ None
block_clean true false false n p q r = refl
block_clean true false true n p q r = absurd (cc)
block_clean true true c n p q r = absurd (cc)
block_clean false b c n p q r = absurd (cc)

file_clean : (a b c : Bool) (d : Option CsegFault) → a ≡ true → b ≡ false → c ≡ false → d ≡ None → (if not a then Some NotWords else if b then Some NoChannel else if c then Some HeaderShort else d) ≡ None
file_clean true false false d p q r s = s
file_clean true false true d p q r s = absurd (cc)
file_clean true true c d p q r s = absurd (cc)
file_clean false b c d p q r s = absurd (cc)

none_first : (f : ℕ → Option CsegFault) (n : ℕ) → ((k : ℕ) → k < n → f k ≡ None) → first_fault f n ≡ None
none_first f zero none = refl
none_first f (suc n) none = ap (λ o. option_or o (f n)) (none_first f n (λ k l. none k (omega (arith, l)))) ∙ none n (omega arith)

-- the word of the index of a voxel lies in the file
value_in : (size block : Point) (n : ℕ) (labels : List ℕ) (b p : ℕ) → IsWritten size block n labels → b < block_count size block → IsVoxel size block b p
    → (index_bits (text_of size block n labels) b ≡ 0 → ⊥) → channel (text_of size block n labels) + value_place (text_of size block n labels) b p + 1 ≤ word_count (text_of size block n labels)
value_in size block n labels b p w below v some =
    let bytes = text_of size block n labels in
    let bits = bits_of size block labels b in
    let h = header-placed size block n labels b w below in
    let more : bits ≡ 0 → ⊥ = λ none. some (h.bits ∙ none) in
    let within = value-within bits (count block) p (omega (arith, more)) v.below in
    let same : p * index_bits bytes b ≡ p * bits = ap (λ m. p * m) h.bits in
    let fits = (values-lie size block n labels b below).fits in
    omega (arith, within, same, fits, h.values, channel-one size block n labels w, text-count (cseg_words size block n labels), length-value_words size block labels b)

-- so do the words of its entry
entry_in : (size block : Point) (n : ℕ) (labels : List ℕ) (b p : ℕ) → IsWritten size block n labels → b < block_count size block → IsVoxel size block b p
    → channel (text_of size block n labels) + entry_place n (text_of size block n labels) b p + n ≤ word_count (text_of size block n labels)
entry_in size block n labels b p w below v =
    let own = voxel-entry size block n labels b p w below v in
    let table = table_of size block labels b in
    let index = index_in table (label_in size block labels b (point_at block p)) in
    let fits = (entry-lies size block n labels b index below own.below).fits in
    omega (arith, own.place, fits, channel-one size block n labels w, text-count (cseg_words size block n labels), length-label_words n (slice_index table index))

values_by : (size block : Point) (n : ℕ) (labels : List ℕ) (b : ℕ) → IsWritten size block n labels → b < block_count size block
    → (index_bits (text_of size block n labels) b ≡ 0) ⊎ (index_bits (text_of size block n labels) b ≡ 0 → ⊥) → values_outside block (clipped size block b) (text_of size block n labels) b ≡ false
values_by size block n labels b w below (inl none) =
    let bytes = text_of size block n labels in
    and_left (not (index_bits bytes b == 0)) (some_below (λ k. is_outside bytes 1 (value_place bytes b (position_in block (clipped size block b) k))) (count (clipped size block b)))
    (not_from_true (index_bits bytes b == 0) (eq-eqb (index_bits bytes b) 0 none))
values_by size block n labels b w below (inr some) =
    let bytes = text_of size block n labels in
    and_right (not (index_bits bytes b == 0)) (some_below (λ k. is_outside bytes 1 (value_place bytes b (position_in block (clipped size block b) k))) (count (clipped size block b)))
    (none-below (λ k. is_outside bytes 1 (value_place bytes b (position_in block (clipped size block b) k))) (count (clipped size block b))
    (λ k l. le-ltb _ _ (value_in size block n labels b (position_in block (clipped size block b) k) w below (voxel_at size block b k w.cut below l) some)))

table_by : (size block : Point) (n : ℕ) (labels : List ℕ) (b : ℕ) → IsWritten size block n labels → b < block_count size block → table_outside block (clipped size block b) n (text_of size block n labels) b ≡ false
table_by size block n labels b w below =
    let bytes = text_of size block n labels in
    none-below (λ k. is_outside bytes n (entry_place n bytes b (position_in block (clipped size block b) k))) (count (clipped size block b))
    (λ k l. le-ltb _ _ (entry_in size block n labels b (position_in block (clipped size block b) k) w below (voxel_at size block b k w.cut below l)))

no_block : (size block : Point) (n : ℕ) (labels : List ℕ) (b : ℕ) → IsWritten size block n labels → b < block_count size block → block_fault block (clipped size block b) n (text_of size block n labels) b ≡ None
no_block size block n labels b w below =
    let bytes = text_of size block n labels in
    let h = header-placed size block n labels b w below in
    block_clean (is_lawful (index_bits bytes b)) (values_outside block (clipped size block b) bytes b) (table_outside block (clipped size block b) n bytes b) b
    (ap is_lawful h.bits ∙ fewest_bits-lawful (length (table_of size block labels b)))
    (values_by size block n labels b w below (cases_eq (index_bits bytes b) 0)) (table_by size block n labels b w below)

-- the text has no fault
pub cseg_text-clean : (block : Point) (width : Width) (size : Point) (labels : List ℕ) → is_wide width ≡ true → IsCut size block → length labels ≡ count size → AllFit width labels
    → fault_of block width size (cseg_text block width size labels) ≡ None
unfolding fault_of
cseg_text-clean block width size labels wide cut whole fit =
    let n = entry_len width in
    let bytes = text_of size block n labels in
    let w = written block width size labels cut whole in
    let words = count-is size block n labels in
    let begins = channel-one size block n labels w in
    file_clean (length bytes % 4 == 0) (word_count bytes == 0) (nat_lt (word_count bytes) (channel bytes + 2 * block_count size block))
    (first_fault (λ b. block_fault block (clipped size block b) n bytes b) (block_count size block))
    (eq-eqb (length bytes % 4) 0 (text-whole (cseg_words size block n labels)))
    (ne_eqb (word_count bytes) 0 (λ none. omega (arith, words, none)))
    (le-ltb (word_count bytes) (channel bytes + 2 * block_count size block) (omega (arith, words, begins)))
    (none_first (λ b. block_fault block (clipped size block b) n bytes b) (block_count size block) (λ b l. no_block size block n labels b w l))
