-- Where the headers, the indices and the tables stand in a text, and how they are read there.
use Rattle.std.proofs.Common.{arith, ◌≡◌, ◌<◌, ◌+◌, ◌*◌, ◌/◌, ◌%◌, ◌^◌, ℕ, List, ◌∷◌, ◌++◌, length, length-append, slice_index, refl, ap, ◌∙◌}
use Rattle.std.specs.List.{flat_map}
use Rattle.ig_space.specs.declared.point.Point.{Point}
use Rattle.ig_space.specs.declared.geometry.Width.TheVariants.{W32}
use Rattle.ig_space.specs.Raw.{raw_text}
use Rattle.ig_cseg.specs.Cseg.{block_count, channel, index_bits, table_place, values_place, word, word_count}
use Rattle.ig_cseg.specs.CsegText.{bits_of, block_words, blocks_words, cseg_words, header_words, headers_words, label_words, table_begin, table_of, value_words, values_begin}
use Rattle.ig_cseg.specs.Pieces.{Lies, lies-after, lies-flat_map, lies-joined, lies-left, lies-right, lies-within}
use Rattle.ig_cseg.specs.TextFits.{IsWritten, text-words}
use Rattle.ig_cseg.specs.TextSizes.{length-headers_words, length-label_words, length-value_words, places-small}
use Rattle.ig_cseg.specs.TextWords.{text-count, text-word}

-- ---- in the words of the file
-- the words after the headers, and before them the headers and word 0
headers-lie : (size block : Point) (n : ℕ) (labels : List ℕ) → Lies (headers_words size block n labels (block_count size block)) 1 (cseg_words size block n labels)
unfolding cseg_words
headers-lie size block n labels =
    let H = headers_words size block n labels (block_count size block) in
    let B = blocks_words size block n labels (block_count size block) in
    lies-within H (H ++ B) (1 ∷ (H ++ B)) 0 1 1 (lies-left H B) (lies-after 1 (H ++ B)) (omega arith)

blocks-lie : (size block : Point) (n : ℕ) (labels : List ℕ) → Lies (blocks_words size block n labels (block_count size block)) (1 + 2 * block_count size block) (cseg_words size block n labels)
unfolding cseg_words
blocks-lie size block n labels =
    let H = headers_words size block n labels (block_count size block) in
    let B = blocks_words size block n labels (block_count size block) in
    lies-within B (H ++ B) (1 ∷ (H ++ B)) (length H) 1 (1 + 2 * block_count size block) (lies-right H B) (lies-after 1 (H ++ B))
    (omega (arith, length-headers_words size block n labels (block_count size block)))

first-word : (size block : Point) (n : ℕ) (labels : List ℕ) → slice_index (cseg_words size block n labels) 0 ≡ 1
unfolding cseg_words
first-word size block n labels = refl

pub words-count : (size block : Point) (n : ℕ) (labels : List ℕ)
    → length (cseg_words size block n labels) ≡ 1 + (2 * block_count size block + length (blocks_words size block n labels (block_count size block)))
unfolding cseg_words
words-count size block n labels =
    let H = headers_words size block n labels (block_count size block) in
    let B = blocks_words size block n labels (block_count size block) in
    omega (arith, length-append H B, length-headers_words size block n labels (block_count size block))

header-lies : (size block : Point) (n : ℕ) (labels : List ℕ) (b : ℕ) → b < block_count size block → Lies (header_words size block n labels b) (1 + 2 * b) (cseg_words size block n labels)
header-lies size block n labels b below =
    lies-within (header_words size block n labels b) (headers_words size block n labels (block_count size block)) (cseg_words size block n labels)
    (length (headers_words size block n labels b)) 1 (1 + 2 * b)
    (lies-joined (header_words size block n labels) (headers_words size block n labels) (block_count size block) b (λ m. refl) below) (headers-lie size block n labels)
    (omega (arith, length-headers_words size block n labels b))

block-lies : (size block : Point) (n : ℕ) (labels : List ℕ) (b : ℕ) → b < block_count size block → Lies (block_words size block n labels b) (1 + values_begin size block n labels b) (cseg_words size block n labels)
block-lies size block n labels b below =
    lies-within (block_words size block n labels b) (blocks_words size block n labels (block_count size block)) (cseg_words size block n labels)
    (length (blocks_words size block n labels b)) (1 + 2 * block_count size block) (1 + values_begin size block n labels b)
    (lies-joined (block_words size block n labels) (blocks_words size block n labels) (block_count size block) b (λ m. refl) below) (blocks-lie size block n labels)
    (omega arith)

pub values-lie : (size block : Point) (n : ℕ) (labels : List ℕ) (b : ℕ) → b < block_count size block → Lies (value_words size block labels b) (1 + values_begin size block n labels b) (cseg_words size block n labels)
values-lie size block n labels b below =
    let V = value_words size block labels b in
    let T = flat_map (label_words n) (table_of size block labels b) in
    lies-within V (V ++ T) (cseg_words size block n labels) 0 (1 + values_begin size block n labels b) (1 + values_begin size block n labels b) (lies-left V T) (block-lies size block n labels b below)
    (omega arith)

table-lies : (size block : Point) (n : ℕ) (labels : List ℕ) (b : ℕ) → b < block_count size block
    → Lies (flat_map (label_words n) (table_of size block labels b)) (1 + table_begin size block n labels b) (cseg_words size block n labels)
table-lies size block n labels b below =
    let V = value_words size block labels b in
    let T = flat_map (label_words n) (table_of size block labels b) in
    lies-within T (V ++ T) (cseg_words size block n labels) (length V) (1 + values_begin size block n labels b) (1 + table_begin size block n labels b) (lies-right V T) (block-lies size block n labels b below)
    (omega (arith, length-value_words size block labels b))

-- entry i of the table of block b
pub entry-lies : (size block : Point) (n : ℕ) (labels : List ℕ) (b i : ℕ) → b < block_count size block → i < length (table_of size block labels b)
    → Lies (label_words n (slice_index (table_of size block labels b) i)) (1 + (table_begin size block n labels b + n * i)) (cseg_words size block n labels)
entry-lies size block n labels b i below l =
    lies-within (label_words n (slice_index (table_of size block labels b) i)) (flat_map (label_words n) (table_of size block labels b)) (cseg_words size block n labels)
    (n * i) (1 + table_begin size block n labels b) (1 + (table_begin size block n labels b + n * i))
    (lies-flat_map (label_words n) n (table_of size block labels b) i (length-label_words n) l) (table-lies size block n labels b below) (omega arith)

-- ---- in its bytes
abbrev pub text_of : Point → Point → ℕ → List ℕ → List ℕ
text_of size block n labels = raw_text W32 (cseg_words size block n labels)

-- word j of a piece
pub piece-word : (size block : Point) (n : ℕ) (labels : List ℕ) (piece : List ℕ) (at place j : ℕ) → IsWritten size block n labels → Lies piece at (cseg_words size block n labels) → j < length piece
    → place ≡ at + j → word (text_of size block n labels) place ≡ slice_index piece j
piece-word size block n labels piece at place j w lies l e =
    ap (word (text_of size block n labels)) e ∙ text-word (cseg_words size block n labels) (at + j) (text-words size block n labels w) (omega (arith, lies.fits, l)) ∙ lies.same j l

pub channel-one : (size block : Point) (n : ℕ) (labels : List ℕ) → IsWritten size block n labels → channel (text_of size block n labels) ≡ 1
channel-one size block n labels w =
    text-word (cseg_words size block n labels) 0 (text-words size block n labels w) (omega (arith, words-count size block n labels)) ∙ first-word size block n labels

pub count-is : (size block : Point) (n : ℕ) (labels : List ℕ)
    → word_count (text_of size block n labels) ≡ 1 + (2 * block_count size block + length (blocks_words size block n labels (block_count size block)))
count-is size block n labels = text-count (cseg_words size block n labels) ∙ words-count size block n labels

-- the header of block b
pub record IsPlaced (size block : Point) (n : ℕ) (labels : List ℕ) (b : ℕ) : Type 0 where
  pub table : table_place (text_of size block n labels) b ≡ table_begin size block n labels b
  pub bits : index_bits (text_of size block n labels) b ≡ bits_of size block labels b
  pub values : values_place (text_of size block n labels) b ≡ values_begin size block n labels b

low_part : (table bits word : ℕ) → table < 2 ^ 24 → word ≡ table + 2 ^ 24 * bits → word % 2 ^ 24 ≡ table
low_part table bits word small e = omega arith

high_part : (table bits word : ℕ) → table < 2 ^ 24 → word ≡ table + 2 ^ 24 * bits → word / 2 ^ 24 ≡ bits
high_part table bits word small e = omega arith

pub header-placed : (size block : Point) (n : ℕ) (labels : List ℕ) (b : ℕ) → IsWritten size block n labels → b < block_count size block → IsPlaced size block n labels b
header-placed size block n labels b w below =
    let bytes = text_of size block n labels in
    let small = places-small size block n labels w.some w.few w.cut w.whole b below in
    let lies = header-lies size block n labels b below in
    let begins = channel-one size block n labels w in
    let first = piece-word size block n labels (header_words size block n labels b) (1 + 2 * b) (channel bytes + 2 * b) 0 w lies (omega arith) (omega (arith, begins)) in
    let second = piece-word size block n labels (header_words size block n labels b) (1 + 2 * b) (channel bytes + (2 * b + 1)) 1 w lies (omega arith) (omega (arith, begins)) in
    record {
      table = low_part (table_begin size block n labels b) (bits_of size block labels b) (word bytes (channel bytes + 2 * b)) small first;
      bits = high_part (table_begin size block n labels b) (bits_of size block labels b) (word bytes (channel bytes + 2 * b)) small first;
      values = second;
    }
