-- Blocks in a volume, and the rows of a block: this project's own.
use Rattle.std.specs.Prelude.{◌≡◌, ◌<◌, List, ℕ, ◌+◌, ◌-◌, ◌*◌, ◌/◌, ◌%◌, ◌^◌, ◌≤◌}
use Rattle.ig_space.specs.declared.point.Point.{Point}
use Rattle.ig_space.specs.Geometry.{count, padded_to}
use Rattle.ig_space.specs.Grid.{point_at}
use Rattle.ig_space.specs.Volume.{place_of}
use Rattle.ig_cseg.specs.Cseg.{block_grid, channel, entry_place, index_bits, table_place, value_place, values_place, word_count}

-- blocks have sides, and the volume has few voxels, also once its sides are padded to whole blocks
pub record IsCut (size block : Point) : Type 0 where
  pub x_step : 1 ≤ block.x
  pub y_step : 1 ≤ block.y
  pub z_step : 1 ≤ block.z
  pub few : count size ≤ 2 ^ 21
  pub padded : count (padded_to size block) ≤ 2 ^ 22

-- where block b begins in the volume
abbrev pub corner : Point → Point → ℕ → Point
corner size block b = record {
  x = (point_at (block_grid size block) b).x * block.x;
  y = (point_at (block_grid size block) b).y * block.y;
  z = (point_at (block_grid size block) b).z * block.z;
}

-- a box at `lo` of size `clip` is not empty, not larger than a block, and lies in the volume; a block has few positions
pub record IsClip (size block lo clip : Point) : Type 0 where
  pub x_some : 1 ≤ clip.x
  pub y_some : 1 ≤ clip.y
  pub z_some : 1 ≤ clip.z
  pub x_most : clip.x ≤ block.x
  pub y_most : clip.y ≤ block.y
  pub z_most : clip.z ≤ block.z
  pub x_in : lo.x + clip.x ≤ size.x
  pub y_in : lo.y + clip.y ≤ size.y
  pub z_in : lo.z + clip.z ≤ size.z
  pub few : count size ≤ 2 ^ 21
  pub positions : count block ≤ 2 ^ 22

-- how many rows along x a box has
abbrev pub row_count : Point → ℕ
row_count clip = clip.y * clip.z

-- the position of the first voxel of a row of a clipped block
abbrev pub row_position : Point → Point → ℕ → ℕ
row_position block clip row = block.x * (row % clip.y + block.y * (row / clip.y))

-- the position of the last voxel of a clipped block
abbrev pub last_position : Point → Point → ℕ
last_position block clip = place_of block (clip.x - 1) (clip.y - 1) (clip.z - 1)

-- where the first voxel of a row stands in the labels of the volume
abbrev pub row_place : Point → Point → Point → ℕ → ℕ
row_place size lo clip row = place_of size lo.x (lo.y + row % clip.y) (lo.z + row / clip.y)

-- the header of block b, with places in words from the begin of the file
pub record IsHeader (bytes : List ℕ) (b table bits values : ℕ) : Type 0 where
  pub table_is : table ≡ channel bytes + table_place bytes b
  pub bits_is : bits ≡ index_bits bytes b
  pub values_is : values ≡ channel bytes + values_place bytes b
  pub table_fits : table < 2 ^ 33
  pub bits_fits : bits < 2 ^ 8
  pub values_fits : values < 2 ^ 33

-- the words of the indices of n positions from p on lie in the file
abbrev pub HasValues : List ℕ → ℕ → ℕ → ℕ → Type 0
HasValues bytes b p n = (k : ℕ) → k < n → channel bytes + value_place bytes b (p + k) + 1 ≤ word_count bytes

-- the words of the table entries, of n words each, of as many positions from p on lie in the file
abbrev pub HasEntries : ℕ → List ℕ → ℕ → ℕ → ℕ → Type 0
HasEntries n bytes b p length = (k : ℕ) → k < length → channel bytes + entry_place n bytes b (p + k) + n ≤ word_count bytes

-- the bits of block b are lawful, and its rows have their values and entries in the file
pub record IsReadable (n : ℕ) (block clip : Point) (bytes : List ℕ) (b : ℕ) : Type 0 where
  pub few : index_bits bytes b ≤ 32
  pub values : (index_bits bytes b ≡ 0 → ⊥) → (row : ℕ) → row < row_count clip → HasValues bytes b (row_position block clip row) clip.x
  pub entries : (row : ℕ) → row < row_count clip → HasEntries n bytes b (row_position block clip row) clip.x
