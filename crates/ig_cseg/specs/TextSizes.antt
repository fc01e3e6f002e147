-- How many words each part of a compressed text has, and that all places fit 24 bits.
use Rattle.std.proofs.Common.{arith, ◌≡◌, ◌≤◌, ◌<◌, ◌+◌, ◌-◌, ◌*◌, ◌^◌, ◌/◌, ℕ, zero, suc, List, [], ◌∷◌, length, length-append, Bool, true, false, if◌then◌else◌, nat_lt, ◌==◌, refl, ap, ◌∙◌, inl, inr, ◌⊎◌}
use Rattle.std.proofs.Math.Nat.{mul-le-mul_left, mul-mul-mul_comm}
use Rattle.std.proofs.lemmas.Bool.{cases_lt}
use Rattle.std.proofs.lemmas.Bool.Decides.{nat_tests}
use Rattle.std.proofs.lemmas.Nat.{mul-le}
use Rattle.std.specs.List.{flat_map}
use Rattle.ig_space.specs.declared.point.Point.{Point}
use Rattle.ig_space.specs.Chunks.{listed}
use Rattle.ig_space.specs.Geometry.{count, padded_to}
use Rattle.ig_space.specs.Grid.{point_at}
use Rattle.ig_cseg.specs.Blocks.{IsCut, IsClip, corner}
use Rattle.ig_cseg.specs.Cseg.{block_count, block_grid, clipped}
use Rattle.ig_cseg.specs.CsegText.{bits_of, block_labels, block_words, blocks_words, distinct, fewest_bits, header_words, headers_words, label_in, label_words, table_begin, table_of, value_len, value_words, values_begin, with_label}
use Rattle.ig_cseg.specs.Cuts.{clip_in}

-- ---- lists
pub length-listed : {A : Type 0} (f : ℕ → A) (n : ℕ) → length (listed f n) ≡ n
length-listed f zero = refl
length-listed f (suc n) = let e = length-listed f n in omega (arith, length-append (listed f n) (f n ∷ []), e)

-- among labels that ascend there is one more at most
record IsOneMore (ls ws : List ℕ) : Type 0 where
  some : 1 ≤ length ws
  most : length ws ≤ suc (length ls)

placed : (label l : ℕ) (ls ws : List ℕ) (below same : Bool) → IsOneMore ls ws → IsOneMore (l ∷ ls) (if below then label ∷ l ∷ ls else if same then l ∷ ls else l ∷ ws)
placed label l ls ws true same p = record { some = omega arith; most = omega arith }
placed label l ls ws false true p = record { some = omega arith; most = omega arith }
placed label l ls ws false false p = record { some = omega arith; most = omega (arith, p.most) }

with_label-placed : (label : ℕ) (ls : List ℕ) → IsOneMore ls (with_label label ls)
with_label-placed label [] = record { some = omega arith; most = omega arith }
with_label-placed label (l ∷ ls) = placed label l ls (with_label label ls) (nat_lt label l) (label == l) (with_label-placed label ls)

pub distinct-most : (ls : List ℕ) → length (distinct ls) ≤ length ls
distinct-most [] = omega arith
distinct-most (l ∷ ls) = omega (arith, distinct-most ls, (with_label-placed l (distinct ls)).most)

pub distinct-some : (ls : List ℕ) → 1 ≤ length ls → 1 ≤ length (distinct ls)
distinct-some [] some = some
distinct-some (l ∷ ls) some = (with_label-placed l (distinct ls)).some

-- ---- words
pub length-label_words : (n label : ℕ) → length (label_words n label) ≡ n
length-label_words zero label = refl
length-label_words (suc n) label = let e = length-label_words n (label / 2 ^ 32) in omega (arith, e)

pub length-table_words : (n : ℕ) (ls : List ℕ) → length (flat_map (label_words n) ls) ≡ n * length ls
length-table_words n [] = omega arith
length-table_words n (l ∷ ls) = omega (arith, length-append (label_words n l) (flat_map (label_words n) ls), length-label_words n l, length-table_words n ls)

pub fewest_bits-most : (n : ℕ) → fewest_bits n ≤ 32
fewest_bits-most n = grind (arith, nat_tests)

pub fewest_bits-none : (n : ℕ) → n ≤ 1 → fewest_bits n ≡ 0
fewest_bits-none n h = grind (arith, nat_tests)

-- a word has room for an index
value_len-most : (bits positions : ℕ) → bits ≤ 32 → value_len bits positions ≤ positions
value_len-most bits positions h =
    let most : positions * bits ≤ positions * 32 = mul-le-mul_left positions h in
    omega arith

pub length-value_words : (size block : Point) (labels : List ℕ) (b : ℕ) → length (value_words size block labels b) ≡ value_len (bits_of size block labels b) (count block)
length-value_words size block labels b = length-listed _ _

pub length-block_words : (size block : Point) (n : ℕ) (labels : List ℕ) (b : ℕ)
    → length (block_words size block n labels b) ≡ value_len (bits_of size block labels b) (count block) + n * length (table_of size block labels b)
length-block_words size block n labels b =
    let values = length-value_words size block labels b in
    let table = length-table_words n (table_of size block labels b) in
    omega (arith, length-append (value_words size block labels b) (flat_map (label_words n) (table_of size block labels b)), values, table)

pub length-headers_words : (size block : Point) (n : ℕ) (labels : List ℕ) (b : ℕ) → length (headers_words size block n labels b) ≡ 2 * b
length-headers_words size block n labels zero = refl
length-headers_words size block n labels (suc b) =
    let before = length-headers_words size block n labels b in
    let more = length-append (headers_words size block n labels b) (header_words size block n labels b) in
    omega (arith, before, more)

pub length-blocks_more : (size block : Point) (n : ℕ) (labels : List ℕ) (b : ℕ)
    → length (blocks_words size block n labels (suc b))
    ≡ length (blocks_words size block n labels b) + (value_len (bits_of size block labels b) (count block) + n * length (table_of size block labels b))
length-blocks_more size block n labels b =
    length-append (blocks_words size block n labels b) (block_words size block n labels b)
    ∙ ap (λ m. length (blocks_words size block n labels b) + m) (length-block_words size block n labels b)

-- ---- one block
-- its header and its words take at most four words for each of its positions
words_few : (n bits table positions : ℕ) → n ≤ 2 → bits ≤ 32 → (table ≤ 1 → bits ≡ 0) → table ≤ positions → 1 ≤ positions → (table < 2) ⊎ (2 ≤ table)
    → 2 + (value_len bits positions + n * table) ≤ 4 * positions
words_few n bits table positions few most none within some (inl one) =
    let bare : positions * bits ≡ positions * 0 = ap (λ m. positions * m) (none (omega arith)) in
    let entries : n * table ≤ 2 * 1 = mul-le n table 2 1 few (omega arith) in
    omega (arith, bare, entries)
words_few n bits table positions few most none within some (inr several) =
    let values = value_len-most bits positions most in
    let entries : n * table ≤ 2 * positions = mul-le n table 2 positions few within in
    omega (arith, values, entries)

-- the table of a block has a label, and no more labels than the block has positions
pub record IsTable (size block : Point) (labels : List ℕ) (b : ℕ) : Type 0 where
  pub some : 1 ≤ length (table_of size block labels b)
  pub within : length (table_of size block labels b) ≤ count (clipped size block b)
  pub most : length (table_of size block labels b) ≤ count block
  pub positions : 1 ≤ count block

clip_some : (size block lo clip : Point) → IsClip size block lo clip → 1 ≤ count clip
clip_some size block lo clip h =
    let face : 1 * 1 ≤ clip.y * clip.z = mul-le 1 1 clip.y clip.z h.y_some h.z_some in
    let all : 1 * 1 ≤ clip.x * (clip.y * clip.z) = mul-le 1 1 clip.x (clip.y * clip.z) h.x_some face in
    omega (arith, all)

clip_most : (size block lo clip : Point) → IsClip size block lo clip → count clip ≤ count block
clip_most size block lo clip h =
    mul-le clip.x (clip.y * clip.z) block.x (block.y * block.z) h.x_most (mul-le clip.y clip.z block.y block.z h.y_most h.z_most)

pub table-sizes : (size block : Point) (labels : List ℕ) (b : ℕ) → IsCut size block → b < block_count size block → IsTable size block labels b
table-sizes size block labels b cut below =
    let clip = clip_in size block b cut below in
    let some = clip_some size block (corner size block b) (clipped size block b) clip in
    let most = clip_most size block (corner size block b) (clipped size block b) clip in
    let own = length-listed (λ k. label_in size block labels b (point_at (clipped size block b) k)) (count (clipped size block b)) in
    let few = distinct-most (block_labels size block labels b) in
    record {
      some = distinct-some (block_labels size block labels b) (omega (arith, own, some));
      within = omega (arith, few, own);
      most = omega (arith, few, own, most);
      positions = omega (arith, some, most);
    }

block_few : (size block : Point) (n : ℕ) (labels : List ℕ) (b : ℕ) → n ≤ 2 → IsCut size block → b < block_count size block
    → 2 + (value_len (bits_of size block labels b) (count block) + n * length (table_of size block labels b)) ≤ 4 * count block
block_few size block n labels b few cut below =
    let t = table-sizes size block labels b cut below in
    words_few n (bits_of size block labels b) (length (table_of size block labels b)) (count block) few (fewest_bits-most (length (table_of size block labels b)))
    (λ one. fewest_bits-none (length (table_of size block labels b)) one) t.most t.positions (cases_lt (length (table_of size block labels b)) 2)

-- ---- all blocks
words_of_blocks-few : (size block : Point) (n : ℕ) (labels : List ℕ) (b : ℕ) → n ≤ 2 → IsCut size block → b ≤ block_count size block
    → 2 * b + length (blocks_words size block n labels b) ≤ b * (4 * count block)
words_of_blocks-few size block n labels zero few cut within = omega arith
words_of_blocks-few size block n labels (suc b) few cut within =
    let before = words_of_blocks-few size block n labels b few cut (omega (arith, within)) in
    let own = block_few size block n labels b few cut (omega (arith, within)) in
    let more = length-blocks_more size block n labels b in
    omega (arith, before, own, more)

-- all blocks, padded, have the positions of the padded volume
blocks-padded : (size block : Point) → block_count size block * count block ≡ count (padded_to size block)
blocks-padded size block =
    let g = block_grid size block in
    let faces : g.y * g.z * (block.y * block.z) ≡ g.y * block.y * (g.z * block.z) = mul-mul-mul_comm g.y g.z block.y block.z in
    mul-mul-mul_comm g.x (g.y * g.z) block.x (block.y * block.z) ∙ ap (λ n. g.x * block.x * n) faces

-- the headers and the words of all blocks are few
pub places_and_tables-few : (size block : Point) (n : ℕ) (labels : List ℕ) (b : ℕ) → n ≤ 2 → IsCut size block → b < block_count size block
    → table_begin size block n labels b + n * length (table_of size block labels b) ≤ 2 ^ 24
places_and_tables-few size block n labels b few cut below =
    let through = words_of_blocks-few size block n labels (suc b) few cut below in
    let more = length-blocks_more size block n labels b in
    let t = table-sizes size block labels b cut below in
    let rest : (block_count size block - suc b) * 2 ≤ (block_count size block - suc b) * (4 * count block) = mul-le-mul_left (block_count size block - suc b) (omega (arith, t.positions)) in
    let whole : block_count size block ≡ suc b + (block_count size block - suc b) = omega (arith, below) in
    let all : block_count size block * (4 * count block) ≡ suc b * (4 * count block) + (block_count size block - suc b) * (4 * count block) = ap (λ m. m * (4 * count block)) whole ∙ omega arith in
    let padded = blocks-padded size block in
    omega (arith, through, more, rest, whole, all, padded, cut.padded)

-- the places of each block fit 24 bits
pub places-small : (size block : Point) (n : ℕ) (labels : List ℕ) → 1 ≤ n → n ≤ 2 → IsCut size block → length labels ≡ count size
    → (b : ℕ) → b < block_count size block → table_begin size block n labels b < 2 ^ 24
places-small size block n labels some few cut whole b below =
    let t = table-sizes size block labels b cut below in
    let entries : 1 * 1 ≤ n * length (table_of size block labels b) = mul-le 1 1 n (length (table_of size block labels b)) some t.some in
    omega (arith, places_and_tables-few size block n labels b few cut below, entries)

pub values-before_table : (size block : Point) (n : ℕ) (labels : List ℕ) (b : ℕ) → values_begin size block n labels b ≤ table_begin size block n labels b
values-before_table size block n labels b = omega arith
