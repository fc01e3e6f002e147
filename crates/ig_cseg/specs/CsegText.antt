-- The one text that is written of labels: the layout is this project's own, and what it means is `Cseg`'s.
use Rattle.std.specs.Prelude.{ℕ, zero, suc, ◌+◌, ◌*◌, ◌/◌, ◌%◌, ◌^◌, Bool, ◌&&◌, ◌==◌, nat_le, nat_lt, if◌then◌else◌, List, [], ◌∷◌, ◌++◌, length, flat_map, slice_index}
use Rattle.ig_space.specs.declared.point.Point.{Point}
use Rattle.ig_space.specs.declared.geometry.Width.{Width}
use Rattle.ig_space.specs.declared.geometry.Width.TheVariants.{W32}
use Rattle.ig_space.specs.Chunks.{listed}
use Rattle.ig_space.specs.Geometry.{count}
use Rattle.ig_space.specs.Grid.{point_at}
use Rattle.ig_space.specs.Raw.{raw_text}
use Rattle.ig_space.specs.Volume.{place_of}
use Rattle.ig_cseg.specs.Blocks.{corner}
use Rattle.ig_cseg.specs.Cseg.{block_count, clipped, entry_len}

-- ---- the table of a block
-- the label of the voxel at a point of block b
abbrev pub label_in : Point → Point → List ℕ → ℕ → Point → ℕ
label_in size block labels b p = slice_index labels (place_of size ((corner size block b).x + p.x) ((corner size block b).y + p.y) ((corner size block b).z + p.z))

-- the labels of the voxels of block b, x fastest; padding has none
abbrev pub block_labels : Point → Point → List ℕ → ℕ → List ℕ
block_labels size block labels b = listed (λ k. label_in size block labels b (point_at (clipped size block b) k)) (count (clipped size block b))

-- the label among others that ascend
abbrev pub with_label : ℕ → List ℕ → List ℕ
with_label label [] = label ∷ []
with_label label (l ∷ ls) = if nat_lt label l then label ∷ l ∷ ls else if label == l then l ∷ ls else l ∷ with_label label ls

-- the distinct labels, ascending
abbrev pub distinct : List ℕ → List ℕ
distinct [] = []
distinct (l ∷ ls) = with_label l (distinct ls)

-- the table of block b
abbrev pub table_of : Point → Point → List ℕ → ℕ → List ℕ
table_of size block labels b = distinct (block_labels size block labels b)

-- where a label stands in a table
abbrev pub index_in : List ℕ → ℕ → ℕ
index_in [] label = 0
index_in (l ∷ ls) label = if label == l then 0 else suc (index_in ls label)

-- ---- its indices
-- the fewest lawful bits for the indices of a table of this length
abbrev pub fewest_bits : ℕ → ℕ
fewest_bits n =
    if nat_le n 1 then 0
    else if nat_le n 2 then 1
    else if nat_le n 4 then 2
    else if nat_le n 16 then 4
    else if nat_le n 256 then 8
    else if nat_le n 65536 then 16
    else 32

abbrev pub bits_of : Point → Point → List ℕ → ℕ → ℕ
bits_of size block labels b = fewest_bits (length (table_of size block labels b))

-- the point is one of a box of this size
abbrev pub is_inside : Point → Point → Bool
is_inside size p = nat_lt p.x size.x && nat_lt p.y size.y && nat_lt p.z size.z

-- the index of position p of block b, with the full size of a block: that of its voxel's label, and 0 in the padding
abbrev pub index_of : Point → Point → List ℕ → ℕ → ℕ → ℕ
index_of size block labels b p =
    if is_inside (clipped size block b) (point_at block p) then index_in (table_of size block labels b) (label_in size block labels b (point_at block p)) else 0

-- n indices in one number, so many bits each, the first one lowest
abbrev pub packed : ℕ → (ℕ → ℕ) → ℕ → ℕ
packed bits index zero = 0
packed bits index (suc n) = packed bits index n + 2 ^ (bits * n) * index n

-- how many words the indices of so many positions take
abbrev pub value_len : ℕ → ℕ → ℕ
value_len bits positions = (positions * bits + 31) / 32

-- the words of the indices of block b; with 0 bits there are none
abbrev pub value_words : Point → Point → List ℕ → ℕ → List ℕ
value_words size block labels b =
    listed (λ w. packed (bits_of size block labels b) (λ j. index_of size block labels b (w * (32 / bits_of size block labels b) + j)) (32 / bits_of size block labels b))
    (value_len (bits_of size block labels b) (count block))

-- ---- words
-- a label in n words, the low one first
abbrev pub label_words : ℕ → ℕ → List ℕ
label_words zero label = []
label_words (suc n) label = (label % 2 ^ 32) ∷ label_words n (label / 2 ^ 32)

-- the words of block b: its indices, and then its table
abbrev pub block_words : Point → Point → ℕ → List ℕ → ℕ → List ℕ
block_words size block n labels b = value_words size block labels b ++ flat_map (label_words n) (table_of size block labels b)

-- the words of the first blocks
abbrev pub blocks_words : Point → Point → ℕ → List ℕ → ℕ → List ℕ
blocks_words size block n labels zero = []
blocks_words size block n labels (suc b) = blocks_words size block n labels b ++ block_words size block n labels b

-- where the indices of block b begin, in words from the channel's begin: after the headers and the blocks before it
abbrev pub values_begin : Point → Point → ℕ → List ℕ → ℕ → ℕ
values_begin size block n labels b = 2 * block_count size block + length (blocks_words size block n labels b)

-- and its table, after its indices
abbrev pub table_begin : Point → Point → ℕ → List ℕ → ℕ → ℕ
table_begin size block n labels b = values_begin size block n labels b + value_len (bits_of size block labels b) (count block)

-- the header of block b
abbrev pub header_words : Point → Point → ℕ → List ℕ → ℕ → List ℕ
header_words size block n labels b = (table_begin size block n labels b + 2 ^ 24 * bits_of size block labels b) ∷ values_begin size block n labels b ∷ []

-- the headers of the first blocks
abbrev pub headers_words : Point → Point → ℕ → List ℕ → ℕ → List ℕ
headers_words size block n labels zero = []
headers_words size block n labels (suc b) = headers_words size block n labels b ++ header_words size block n labels b

-- the words of the file, where a label has n words: the channel begins at word 1 with the headers, and the blocks follow
unfoldable pub cseg_words : Point → Point → ℕ → List ℕ → List ℕ
cseg_words size block n labels = 1 ∷ (headers_words size block n labels (block_count size block) ++ blocks_words size block n labels (block_count size block))

-- the file: its words, each in four bytes, the lowest first
abbrev pub cseg_text : Point → Width → Point → List ℕ → List ℕ
cseg_text block width size labels = raw_text W32 (cseg_words size block (entry_len width) labels)
