-- Indices fit their bits, and all words of a text fit 32 bits.
use Rattle.std.proofs.Common.{arith, ◌≡◌, ◌≤◌, ◌<◌, ◌+◌, ◌*◌, ◌/◌, ◌%◌, ◌^◌, ℕ, zero, suc, List, ◌∷◌, ◌++◌, [], length, Bool, true, false, ◌&&◌, nat_lt, if◌then◌else◌, refl, ap, sym, subst, ◌∙◌, inl, inr, ◌⊎◌}
use Rattle.std.proofs.Math.Nat.{mod-lt, mul_comm}
use Rattle.std.proofs.lemmas.Bool.{and_parts, ltb-true}
use Rattle.std.proofs.lemmas.Nat.{pow_pos}
use Rattle.std.specs.List.{flat_map}
use Rattle.ig_space.specs.declared.point.Point.{Point}
use Rattle.ig_space.specs.Geometry.{count}
use Rattle.ig_space.specs.Grid.{point_at}
use Rattle.ig_space.specs.Volume.{IsInside, place_of}
use Rattle.ig_cseg.specs.Blocks.{IsCut}
use Rattle.ig_cseg.specs.Cseg.{block_count, clipped}
use Rattle.ig_cseg.specs.CsegText.{bits_of, block_labels, block_words, blocks_words, cseg_words, header_words, headers_words, index_in, index_of, is_inside, label_in, label_words, packed, table_begin, table_of, value_len, value_words, values_begin}
use Rattle.ig_cseg.specs.Cuts.{clip_in}
use Rattle.ig_cseg.specs.Distincts.{IsFound, distinct-has, has, index_in-found, listed-has}
use Rattle.ig_cseg.specs.Packing.{AllBelow, fewest_bits-fill, fewest_bits-room, packed-below}
use Rattle.ig_cseg.specs.Places.{place-below, point_at-place_of}
use Rattle.ig_cseg.specs.TextSizes.{fewest_bits-most, places-small, table-sizes, values-before_table}
use Rattle.ig_cseg.specs.TextWords.{AreWords, words-both, words-flat_map, words-listed, words-none, words-one}

-- ---- indices
-- the table has the label of each voxel of the block
pub label-found : (size block : Point) (labels : List ℕ) (b : ℕ) (p : Point) → IsInside (clipped size block b) p.x p.y p.z
    → IsFound (table_of size block labels b) (label_in size block labels b p) (index_in (table_of size block labels b) (label_in size block labels b p))
label-found size block labels b p i =
    let clip = clipped size block b in
    let k = place_of clip p.x p.y p.z in
    let own = listed-has (λ k. label_in size block labels b (point_at clip k)) (count clip) k (place-below clip p.x p.y p.z i.x_below i.y_below i.z_below) in
    let at : point_at clip k ≡ p = point_at-place_of clip p.x p.y p.z i.x_below i.y_below in
    let named = ap (λ (q : Point). has (label_in size block labels b q) (block_labels size block labels b)) at in
    index_in-found (label_in size block labels b p) (table_of size block labels b) (distinct-has (label_in size block labels b p) (block_labels size block labels b) (sym named ∙ own))

-- an index for each label of the table
pub table-room : (size block : Point) (labels : List ℕ) (b : ℕ) → IsCut size block → b < block_count size block → length (table_of size block labels b) ≤ 2 ^ bits_of size block labels b
table-room size block labels b cut below =
    let t = table-sizes size block labels b cut below in
    let clip = clip_in size block b cut below in
    fewest_bits-room (length (table_of size block labels b)) (omega (arith, t.most, clip.positions))

pub inside-from : (size p : Point) → is_inside size p ≡ true → IsInside size p.x p.y p.z
inside-from size p e =
    let f = and_parts (nat_lt p.x size.x && nat_lt p.y size.y) (nat_lt p.z size.z) e in
    let g = and_parts (nat_lt p.x size.x) (nat_lt p.y size.y) f.0 in
    record { x_below = ltb-true p.x size.x g.0; y_below = ltb-true p.y size.y g.1; z_below = ltb-true p.z size.z f.1 }

chosen_small : (inside : Bool) (index power : ℕ) → 0 < power → (inside ≡ true → index < power) → (if inside then index else 0) < power
chosen_small true index power some small = small refl
chosen_small false index power some small = some

pub index-small : (size block : Point) (labels : List ℕ) (b p : ℕ) → IsCut size block → b < block_count size block → index_of size block labels b p < 2 ^ bits_of size block labels b
index-small size block labels b p cut below =
    let q = point_at block p in
    let room = table-room size block labels b cut below in
    chosen_small (is_inside (clipped size block b) q) (index_in (table_of size block labels b) (label_in size block labels b q)) (2 ^ bits_of size block labels b) (pow_pos (bits_of size block labels b))
    (λ e. let found = label-found size block labels b q (inside-from (clipped size block b) q e) in omega (arith, found.below, room))

-- ---- words
word_small : (bits positions w : ℕ) (index : ℕ → ℕ) → w < value_len bits positions → AllBelow bits index (32 / bits) → (bits ≡ 0) ⊎ (32 / bits * bits ≡ 32) → packed bits index (32 / bits) < 2 ^ 32
word_small bits positions w index l small (inl none) =
    let bare : positions * bits ≡ positions * 0 = ap (λ m. positions * m) none in
    absurd (omega (arith, l, bare))
word_small bits positions w index l small (inr fill) =
    let whole : bits * (32 / bits) ≡ 32 = mul_comm bits (32 / bits) ∙ fill in
    subst (λ m. packed bits index (32 / bits) < 2 ^ m) whole (packed-below bits index (32 / bits) small)

pub values-words : (size block : Point) (labels : List ℕ) (b : ℕ) → IsCut size block → b < block_count size block → AreWords (value_words size block labels b)
values-words size block labels b cut below =
    let bits = bits_of size block labels b in
    words-listed (λ w. packed bits (λ j. index_of size block labels b (w * (32 / bits) + j)) (32 / bits)) (value_len bits (count block))
    (λ w l. word_small bits (count block) w (λ j. index_of size block labels b (w * (32 / bits) + j)) l
    (λ j k. index-small size block labels b (w * (32 / bits) + j) cut below) (fewest_bits-fill (length (table_of size block labels b))))

label-words : (n label : ℕ) → AreWords (label_words n label)
label-words zero label = words-none
label-words (suc n) label = words-one (label % 2 ^ 32) (label_words n (label / 2 ^ 32)) (mod-lt label (omega arith)) (label-words n (label / 2 ^ 32))

block-words : (size block : Point) (n : ℕ) (labels : List ℕ) (b : ℕ) → IsCut size block → b < block_count size block → AreWords (block_words size block n labels b)
block-words size block n labels b cut below =
    words-both (value_words size block labels b) (flat_map (label_words n) (table_of size block labels b)) (values-words size block labels b cut below)
    (words-flat_map (label_words n) (table_of size block labels b) (label-words n))

blocks-words : (size block : Point) (n : ℕ) (labels : List ℕ) (b : ℕ) → IsCut size block → b ≤ block_count size block → AreWords (blocks_words size block n labels b)
blocks-words size block n labels zero cut within = words-none
blocks-words size block n labels (suc b) cut within =
    words-both (blocks_words size block n labels b) (block_words size block n labels b) (blocks-words size block n labels b cut (omega (arith, within))) (block-words size block n labels b cut within)

-- what is known of the arguments
pub record IsWritten (size block : Point) (n : ℕ) (labels : List ℕ) : Type 0 where
  pub some : 1 ≤ n
  pub few : n ≤ 2
  pub cut : IsCut size block
  pub whole : length labels ≡ count size

header-words : (size block : Point) (n : ℕ) (labels : List ℕ) (b : ℕ) → IsWritten size block n labels → b < block_count size block → AreWords (header_words size block n labels b)
header-words size block n labels b w below =
    let place = places-small size block n labels w.some w.few w.cut w.whole b below in
    let before = values-before_table size block n labels b in
    let bits = fewest_bits-most (length (table_of size block labels b)) in
    words-one (table_begin size block n labels b + 2 ^ 24 * bits_of size block labels b) (values_begin size block n labels b ∷ []) (omega (arith, place, bits))
    (words-one (values_begin size block n labels b) [] (omega (arith, place, before)) words-none)

headers-words : (size block : Point) (n : ℕ) (labels : List ℕ) (b : ℕ) → IsWritten size block n labels → b ≤ block_count size block → AreWords (headers_words size block n labels b)
headers-words size block n labels zero w within = words-none
headers-words size block n labels (suc b) w within =
    words-both (headers_words size block n labels b) (header_words size block n labels b) (headers-words size block n labels b w (omega (arith, within))) (header-words size block n labels b w within)

-- all words of the text
pub text-words : (size block : Point) (n : ℕ) (labels : List ℕ) → IsWritten size block n labels → AreWords (cseg_words size block n labels)
unfolding cseg_words
text-words size block n labels w =
    words-one 1 (headers_words size block n labels (block_count size block) ++ blocks_words size block n labels (block_count size block)) (omega arith)
    (words-both (headers_words size block n labels (block_count size block)) (blocks_words size block n labels (block_count size block))
    (headers-words size block n labels (block_count size block) w (omega arith)) (blocks-words size block n labels (block_count size block) w.cut (omega arith)))
