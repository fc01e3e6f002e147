-- The words of a block, from its gathered labels, are those of the text.
use Rattle.std.proofs.Common.{arith, ◌≡◌, ◌≤◌, ◌<◌, ◌+◌, ◌-◌, ◌*◌, ◌/◌, ◌^◌, ℕ, suc, add-one, Bool, true, false, if◌then◌else◌, List, [], ◌∷◌, ◌++◌, length, slice_index, take, drop, replicate, flat_map, refl, ap, sym, ◌∙◌, append_assoc, length-append}
use Rattle.std.proofs.lemmas.List.{drop_at, length-replicate, take_at}
use Rattle.ig_space.specs.declared.geometry.Width.TheVariants.{W32}
use Rattle.ig_space.specs.declared.point.Point.{Point}
use Rattle.ig_space.specs.Geometry.{count}
use Rattle.ig_space.specs.Grid.{point_at}
use Rattle.ig_space.specs.Raw.{raw_text}
use Rattle.ig_space.specs.Volume.{place_of}
use Rattle.ig_cseg.specs.Blocks.{corner}
use Rattle.ig_cseg.specs.BlockText.{box_labels, box_words, index_at_position, packed_words, words_so_far}
use Rattle.ig_cseg.specs.Cseg.{block_count, clipped}
use Rattle.ig_cseg.specs.CsegText.{bits_of, block_labels, block_words, blocks_words, cseg_words, distinct, fewest_bits, header_words, headers_words, index_in, index_of, is_inside, label_in, label_words, table_begin, table_of, value_len, values_begin}
use Rattle.ig_cseg.specs.Pieces.{listed-at}
use Rattle.ig_cseg.specs.TextFits.{inside-from}
use Rattle.ig_cseg.specs.TextSizes.{length-headers_words}
use Rattle.ig_cseg.proofs.Positions.{point_at-place_of}
use Rattle.ig_cseg.proofs.Spans.{place-below}
use Rattle.ig_cseg.proofs.Texts.{length-text, text-append}

-- ---- the index of a position
chosen_same : (b : Bool) (i j : ℕ) → (b ≡ true → i ≡ j) → (if b then i else 0) ≡ (if b then j else 0)
chosen_same true i j h = h refl
chosen_same false i j h = refl

-- a gathered label
label-gathered : (size block : Point) (labels : List ℕ) (b : ℕ) (q : Point) → is_inside (clipped size block b) q ≡ true
    → slice_index (block_labels size block labels b) (place_of (clipped size block b) q.x q.y q.z) ≡ label_in size block labels b q
label-gathered size block labels b q e =
    let clip = clipped size block b in
    let i = inside-from clip q e in
    let f : ℕ → ℕ = λ k. label_in size block labels b (point_at clip k) in
    listed-at f (count clip) (place_of clip q.x q.y q.z) (place-below clip q.x q.y q.z i.x_below i.y_below i.z_below)
    ∙ ap (label_in size block labels b) (point_at-place_of clip q.x q.y q.z i.x_below i.y_below)

index_of-is : (size block : Point) (labels : List ℕ) (b p : ℕ)
    → index_at_position block (clipped size block b) (block_labels size block labels b) (table_of size block labels b) p ≡ index_of size block labels b p
index_of-is size block labels b p =
    let q = point_at block p in
    let clip = clipped size block b in
    chosen_same (is_inside clip q) (index_in (table_of size block labels b) (slice_index (block_labels size block labels b) (place_of clip q.x q.y q.z)))
    (index_in (table_of size block labels b) (label_in size block labels b q))
    (λ e. ap (index_in (table_of size block labels b)) (label-gathered size block labels b q e))

box_words-is : (size block : Point) (n : ℕ) (labels : List ℕ) (b : ℕ) → box_words n block (clipped size block b) (block_labels size block labels b) ≡ block_words size block n labels b
box_words-is size block n labels b =
    let bits = bits_of size block labels b in
    let same : index_at_position block (clipped size block b) (block_labels size block labels b) (table_of size block labels b) ≡ index_of size block labels b = λ i p. index_of-is size block labels b p i in
    ap (λ f. packed_words bits (32 / bits) f (value_len bits (count block)) ++ flat_map (label_words n) (table_of size block labels b)) same

-- ---- a block by the parts of its clip
pub labels-of_block : (size block lo clip : Point) (labels : List ℕ) (b : ℕ) → lo ≡ corner size block b → clip ≡ clipped size block b → box_labels size lo clip labels ≡ block_labels size block labels b
labels-of_block size block lo clip labels b l c = ap (λ (p : Point). box_labels size p clip labels) l ∙ ap (λ (p : Point). box_labels size (corner size block b) p labels) c

pub bits-of_block : (size block lo clip : Point) (labels : List ℕ) (b bits : ℕ) → lo ≡ corner size block b → clip ≡ clipped size block b
    → bits ≡ fewest_bits (length (distinct (box_labels size lo clip labels))) → bits ≡ bits_of size block labels b
bits-of_block size block lo clip labels b bits l c e = e ∙ ap (λ ls. fewest_bits (length (distinct ls))) (labels-of_block size block lo clip labels b l c)

pub words-of_block : (size block lo clip : Point) (n : ℕ) (labels : List ℕ) (b : ℕ) → lo ≡ corner size block b → clip ≡ clipped size block b
    → box_words n block clip (box_labels size lo clip labels) ≡ block_words size block n labels b
words-of_block size block lo clip n labels b l c =
    ap (box_words n block clip) (labels-of_block size block lo clip labels b l c) ∙ ap (λ (p : Point). box_words n block p (block_labels size block labels b)) c ∙ box_words-is size block n labels b

-- ---- words that stand for others
pub replaced : (before old new after text made : List ℕ) (a e : ℕ) → text ≡ raw_text W32 (before ++ (old ++ after)) → a ≡ 4 * length before → e ≡ 4 * (length before + length old)
    → made ≡ take a text ++ (raw_text W32 new ++ drop e text) → made ≡ raw_text W32 (before ++ (new ++ after))
replaced before old new after text made a e is at end write =
    let parts : text ≡ raw_text W32 before ++ (raw_text W32 old ++ raw_text W32 after) = is ∙ text-append before (old ++ after) ∙ ap (λ t. raw_text W32 before ++ t) (text-append old after) in
    let turned = parts ∙ sym (append_assoc (raw_text W32 before) (raw_text W32 old) (raw_text W32 after)) in
    let first : take a text ≡ raw_text W32 before = ap (take a) parts ∙ take_at (raw_text W32 before) (raw_text W32 old ++ raw_text W32 after) a (omega (arith, length-text before, at)) in
    let rest : drop e text ≡ raw_text W32 after = ap (drop e) turned ∙ drop_at (raw_text W32 before ++ raw_text W32 old) (raw_text W32 after) e
    (omega (arith, length-append (raw_text W32 before) (raw_text W32 old), length-text before, length-text old, end)) in
    write ∙ ap (λ t. t ++ (raw_text W32 new ++ drop e text)) first ∙ ap (λ t. raw_text W32 before ++ (raw_text W32 new ++ t)) rest
    ∙ sym (text-append before (new ++ after) ∙ ap (λ t. raw_text W32 before ++ t) (text-append new after))

-- ---- one block more
pub length-so_far : (size block : Point) (n : ℕ) (labels : List ℕ) (b : ℕ) → b ≤ block_count size block → length (words_so_far size block n labels b) ≡ values_begin size block n labels b + 1
length-so_far size block n labels b within =
    let zeros : List ℕ = replicate (2 * (block_count size block - b)) 0 in
    let outer = length-append (headers_words size block n labels b) (zeros ++ blocks_words size block n labels b) in
    let inner = length-append zeros (blocks_words size block n labels b) in
    omega (arith, outer, inner, length-headers_words size block n labels b, length-replicate {A = ℕ} (2 * (block_count size block - b)) 0, within)

-- the words so far and those of the next block, where its header still is 0
so_far-next : (size block : Point) (n : ℕ) (labels : List ℕ) (b : ℕ) → b < block_count size block
    → words_so_far size block n labels b ++ block_words size block n labels b
    ≡ (1 ∷ headers_words size block n labels b) ++ ((0 ∷ 0 ∷ []) ++ (replicate (2 * (block_count size block - (b + 1))) 0 ++ (blocks_words size block n labels b ++ block_words size block n labels b)))
so_far-next size block n labels b below =
    let zeros : List ℕ = replicate (2 * (block_count size block - (b + 1))) 0 in
    let H = headers_words size block n labels b in
    let B = blocks_words size block n labels b in
    let W = block_words size block n labels b in
    let next : 2 * (block_count size block - b) ≡ suc (suc (2 * (block_count size block - (b + 1)))) = omega (arith, below) in
    ap (λ m. (1 ∷ (H ++ (replicate m 0 ++ B))) ++ W) next
    ∙ ap (λ t. 1 ∷ t) (append_assoc H (0 ∷ 0 ∷ (zeros ++ B)) W ∙ ap (λ t. H ++ (0 ∷ 0 ∷ t)) (append_assoc zeros B W))

so_far-more : (size block : Point) (n : ℕ) (labels : List ℕ) (b : ℕ)
    → (1 ∷ headers_words size block n labels b) ++ (header_words size block n labels b ++ (replicate (2 * (block_count size block - (b + 1))) 0 ++ (blocks_words size block n labels b ++ block_words size block n labels b)))
    ≡ words_so_far size block n labels (b + 1)
so_far-more size block n labels b =
    let zeros : List ℕ = replicate (2 * (block_count size block - (b + 1))) 0 in
    let H = headers_words size block n labels b in
    let rest = zeros ++ (blocks_words size block n labels b ++ block_words size block n labels b) in
    ap (λ t. 1 ∷ t) (sym (append_assoc H (header_words size block n labels b) rest))
    ∙ sym (ap (λ m. 1 ∷ (headers_words size block n labels m ++ (zeros ++ blocks_words size block n labels m))) (add-one b))

pub block-added : (size block : Point) (n : ℕ) (labels text more made : List ℕ) (b table bits values : ℕ) → b < block_count size block
    → text ≡ raw_text W32 (words_so_far size block n labels b) → more ≡ text ++ raw_text W32 (block_words size block n labels b)
    → table ≡ table_begin size block n labels b → bits ≡ bits_of size block labels b → values ≡ values_begin size block n labels b
    → made ≡ take (4 * (2 * b + 1)) more ++ (raw_text W32 ((table + 2 ^ 24 * bits) ∷ values ∷ []) ++ drop (4 * (2 * b + 3)) more)
    → made ≡ raw_text W32 (words_so_far size block n labels (b + 1))
block-added size block n labels text more made b table bits values below is add t s v write =
    let H = headers_words size block n labels b in
    let W = block_words size block n labels b in
    let rest = replicate (2 * (block_count size block - (b + 1))) 0 ++ (blocks_words size block n labels b ++ W) in
    let first : table + 2 ^ 24 * bits ≡ table_begin size block n labels b + 2 ^ 24 * bits_of size block labels b = omega (arith, t, s) in
    let header : (table + 2 ^ 24 * bits) ∷ values ∷ [] ≡ header_words size block n labels b = ap (λ m. m ∷ values ∷ []) first ∙ ap (λ m. (table_begin size block n labels b + 2 ^ 24 * bits_of size block labels b) ∷ m ∷ []) v in
    let whole = add ∙ ap (λ t. t ++ raw_text W32 W) is ∙ sym (text-append (words_so_far size block n labels b) W) ∙ ap (raw_text W32) (so_far-next size block n labels b below) in
    let long = length-headers_words size block n labels b in
    replaced (1 ∷ H) (0 ∷ 0 ∷ []) (header_words size block n labels b) rest more made (4 * (2 * b + 1)) (4 * (2 * b + 3)) whole (omega (arith, long)) (omega (arith, long))
    (write ∙ ap (λ ws. take (4 * (2 * b + 1)) more ++ (raw_text W32 ws ++ drop (4 * (2 * b + 3)) more)) header)
    ∙ ap (raw_text W32) (so_far-more size block n labels b)

-- where the words of the next block begin
pub values-of_text : (size block : Point) (n : ℕ) (labels text : List ℕ) (b m : ℕ) → b ≤ block_count size block → text ≡ raw_text W32 (words_so_far size block n labels b)
    → m ≡ length text → m / 4 - 1 ≡ values_begin size block n labels b
values-of_text size block n labels text b m within is long =
    let words : m ≡ 4 * length (words_so_far size block n labels b) = long ∙ ap length is ∙ length-text (words_so_far size block n labels b) in
    omega (arith, words, length-so_far size block n labels b within)

-- a text has room for the headers of all blocks
pub header-room : (size block : Point) (n : ℕ) (labels text more words : List ℕ) (b : ℕ) → b < block_count size block → text ≡ raw_text W32 (words_so_far size block n labels b)
    → more ≡ text ++ raw_text W32 words → 4 * (2 * b + 3) ≤ length more
header-room size block n labels text more words b below is add =
    let long : length more ≡ length text + length (raw_text W32 words) = ap length add ∙ length-append text (raw_text W32 words) in
    let own : length text ≡ 4 * length (words_so_far size block n labels b) = ap length is ∙ length-text (words_so_far size block n labels b) in
    omega (arith, long, own, length-so_far size block n labels b (omega (arith, below)), below)

-- all blocks
pub so_far-all : (size block : Point) (n : ℕ) (labels text : List ℕ) (done : ℕ) → done ≡ block_count size block → text ≡ raw_text W32 (words_so_far size block n labels done)
    → text ≡ raw_text W32 (cseg_words size block n labels)
unfolding cseg_words
so_far-all size block n labels text done all is =
    let none : 2 * (block_count size block - block_count size block) ≡ 0 = omega arith in
    is ∙ ap (λ b. raw_text W32 (words_so_far size block n labels b)) all
    ∙ ap (λ m. raw_text W32 (1 ∷ (headers_words size block n labels (block_count size block) ++ (replicate m 0 ++ blocks_words size block n labels (block_count size block))))) none
