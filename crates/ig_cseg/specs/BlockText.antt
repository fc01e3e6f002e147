-- The words of a block from the labels of its voxels, row by row: this project's own.
use Rattle.std.specs.Prelude.{ℕ, ◌+◌, ◌*◌, ◌-◌, ◌/◌, if◌then◌else◌, List, ◌∷◌, ◌++◌, flat_map, length, replicate, slice_index}
use Rattle.ig_space.specs.declared.point.Point.{Point}
use Rattle.ig_space.specs.Chunks.{listed}
use Rattle.ig_space.specs.Geometry.{count}
use Rattle.ig_space.specs.Grid.{point_at}
use Rattle.ig_space.specs.Volume.{place_of}
use Rattle.ig_cseg.specs.Cseg.{block_count}
use Rattle.ig_cseg.specs.CsegText.{blocks_words, distinct, fewest_bits, headers_words, index_in, is_inside, label_words, packed, value_len}

-- the label of the voxel at a point of a box that begins at `lo`
abbrev pub box_label : Point → Point → List ℕ → Point → ℕ
box_label size lo labels p = slice_index labels (place_of size (lo.x + p.x) (lo.y + p.y) (lo.z + p.z))

-- the labels of the voxels of a box, x fastest
abbrev pub box_labels : Point → Point → Point → List ℕ → List ℕ
box_labels size lo clip labels = listed (λ k. box_label size lo labels (point_at clip k)) (count clip)

-- the index of position p of a block, of which a box of size `clip` has these labels
abbrev pub index_at_position : Point → Point → List ℕ → List ℕ → ℕ → ℕ
index_at_position block clip voxels table p =
    if is_inside clip (point_at block p) then index_in table (slice_index voxels (place_of clip (point_at block p).x (point_at block p).y (point_at block p).z)) else 0

-- words of so many indices each
abbrev pub packed_words : ℕ → ℕ → (ℕ → ℕ) → ℕ → List ℕ
packed_words bits each index words = listed (λ w. packed bits (λ j. index (w * each + j)) each) words

-- the words of the indices
abbrev pub index_words : Point → Point → List ℕ → List ℕ → ℕ → List ℕ
index_words block clip voxels table bits = packed_words bits (32 / bits) (index_at_position block clip voxels table) (value_len bits (count block))

-- the words of a block with these labels, where a label has n words
abbrev pub box_words : ℕ → Point → Point → List ℕ → List ℕ
box_words n block clip voxels =
    index_words block clip voxels (distinct voxels) (fewest_bits (length (distinct voxels))) ++ flat_map (label_words n) (distinct voxels)

-- the words of the file once the first blocks are written: the other headers are 0
abbrev pub words_so_far : Point → Point → ℕ → List ℕ → ℕ → List ℕ
words_so_far size block n labels done =
    1 ∷ (headers_words size block n labels done ++ (replicate (2 * (block_count size block - done)) 0 ++ blocks_words size block n labels done))
