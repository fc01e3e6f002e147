-- Compressed labels (Neuroglancer compressed_segmentation), of one channel.
use Rattle.std.specs.Prelude.{ℕ, zero, suc, ◌+◌, ◌-◌, ◌*◌, ◌/◌, ◌%◌, ◌^◌, min, Bool, false, not, ◌&&◌, ◌||◌, ◌==◌, nat_lt, if◌then◌else◌, Option, Some, None, List, length, drop}
use Rattle.std.specs.Option.{option_or}
use Rattle.byteorder.specs.Endian.{little_number}
use Rattle.ig_space.specs.declared.point.Point.{Point}
use Rattle.ig_space.specs.declared.geometry.Width.{Width}
use Rattle.ig_space.specs.declared.geometry.Width.TheVariants.{W64}
use Rattle.ig_space.specs.Geometry.{count}
use Rattle.ig_space.specs.Grid.{point_at}
use Rattle.ig_space.specs.Volume.{place_of}
use Rattle.ig_cseg.specs.declared.fault.CsegFault.{CsegFault}
use Rattle.ig_cseg.specs.declared.fault.CsegFault.TheVariants.{NotWords, NoChannel, HeaderShort, BadBits, ValuesOutside, TableOutside}

-- ---- the 32-bit words of the file
-- how many words the file has
abbrev pub word_count : List ℕ → ℕ
word_count bytes = length bytes / 4

-- the word at a place of the file: four bytes, the lowest first
unfoldable pub word : List ℕ → ℕ → ℕ
word bytes i = little_number 4 (drop (4 * i) bytes)

-- the number in n words from a place of the file on, the low one first
abbrev pub number : ℕ → List ℕ → ℕ → ℕ
number zero bytes i = 0
number (suc n) bytes i = word bytes i + 2 ^ 32 * number n bytes (i + 1)

-- where the own words of the one channel begin: word 0 says it, and all other places count from there
abbrev pub channel : List ℕ → ℕ
channel bytes = word bytes 0

-- one of n words from a place of the channel on lies outside the file
abbrev pub is_outside : List ℕ → ℕ → ℕ → Bool
is_outside bytes n place = nat_lt (word_count bytes) (channel bytes + place + n)

-- ---- blocks
-- how many blocks a side is cut into, the last one clipped
abbrev pub blocks_along : ℕ → ℕ → ℕ
blocks_along side block = (side + (block - 1)) / block

-- how many blocks there are along each axis
abbrev pub block_grid : Point → Point → Point
block_grid size block = record { x = blocks_along size.x block.x; y = blocks_along size.y block.y; z = blocks_along size.z block.z }

-- how many blocks there are
abbrev pub block_count : Point → Point → ℕ
block_count size block = count (block_grid size block)

-- the number of the block of a voxel: x fastest, then y, then z
abbrev pub block_of : Point → Point → ℕ → ℕ → ℕ → ℕ
block_of size block x y z = place_of (block_grid size block) (x / block.x) (y / block.y) (z / block.z)

-- the position of a voxel in its block, with the full size of a block
abbrev pub position : Point → ℕ → ℕ → ℕ → ℕ
position block x y z = place_of block (x % block.x) (y % block.y) (z % block.z)

-- how much of a side lies in the block with number i along it
abbrev pub clipped_along : ℕ → ℕ → ℕ → ℕ
clipped_along side block i = min block (side - i * block)

-- the size of block b, clipped at the end of the volume
abbrev pub clipped : Point → Point → ℕ → Point
clipped size block b = record {
  x = clipped_along size.x block.x (point_at (block_grid size block) b).x;
  y = clipped_along size.y block.y (point_at (block_grid size block) b).y;
  z = clipped_along size.z block.z (point_at (block_grid size block) b).z;
}

-- the position, with the full size of a block, of voxel k of a clipped block
abbrev pub position_in : Point → Point → ℕ → ℕ
position_in block clip k = place_of block (point_at clip k).x (point_at clip k).y (point_at clip k).z

-- ---- the header of block b: two words
-- the low 24 bits of the first say where its table is
abbrev pub table_place : List ℕ → ℕ → ℕ
table_place bytes b = word bytes (channel bytes + 2 * b) % 2 ^ 24

-- the high 8 bits say how many bits an index has
abbrev pub index_bits : List ℕ → ℕ → ℕ
index_bits bytes b = word bytes (channel bytes + 2 * b) / 2 ^ 24

-- the second says where its values are
abbrev pub values_place : List ℕ → ℕ → ℕ
values_place bytes b = word bytes (channel bytes + (2 * b + 1))

-- ---- the label of a position
-- where the word is that holds the index of position p
abbrev pub value_place : List ℕ → ℕ → ℕ → ℕ
value_place bytes b p = values_place bytes b + p * index_bits bytes b / 32

-- the index of position p: so many bits of that word, from bit `p * bits mod 32` up; 0 where there are 0 bits
abbrev pub index_at : List ℕ → ℕ → ℕ → ℕ
index_at bytes b p = word bytes (channel bytes + value_place bytes b p) / 2 ^ (p * index_bits bytes b % 32) % 2 ^ index_bits bytes b

-- how many words an entry of a table has
abbrev pub entry_len : Width → ℕ
entry_len W64 = 2
entry_len _ = 1

-- where the table entry of position p is
abbrev pub entry_place : ℕ → List ℕ → ℕ → ℕ → ℕ
entry_place n bytes b p = table_place bytes b + n * index_at bytes b p

-- the label at position p of block b
abbrev pub entry : ℕ → List ℕ → ℕ → ℕ → ℕ
entry n bytes b p = number n bytes (channel bytes + entry_place n bytes b p)

-- the label of a voxel
unfoldable pub label_at : Point → Width → Point → List ℕ → ℕ → ℕ → ℕ → ℕ
label_at block width size bytes x y z = entry (entry_len width) bytes (block_of size block x y z) (position block x y z)

-- ---- faults
-- some number below n passes the test
abbrev pub some_below : (ℕ → Bool) → ℕ → Bool
some_below test zero = false
some_below test (suc n) = test n || some_below test n

-- an index may have so many bits
abbrev pub is_lawful : ℕ → Bool
is_lawful bits = bits == 0 || bits == 1 || bits == 2 || bits == 4 || bits == 8 || bits == 16 || bits == 32

-- some voxel of the volume in block b has the word of its index outside the file; with 0 bits none is read
abbrev pub values_outside : Point → Point → List ℕ → ℕ → Bool
values_outside block clip bytes b = not (index_bits bytes b == 0) && some_below (λ k. is_outside bytes 1 (value_place bytes b (position_in block clip k))) (count clip)

-- some voxel of the volume in block b has a word of its table entry outside the file
abbrev pub table_outside : Point → Point → ℕ → List ℕ → ℕ → Bool
table_outside block clip n bytes b = some_below (λ k. is_outside bytes n (entry_place n bytes b (position_in block clip k))) (count clip)

-- the fault of block b
abbrev pub block_fault : Point → Point → ℕ → List ℕ → ℕ → Option CsegFault
block_fault block clip n bytes b =
    if not (is_lawful (index_bits bytes b)) then Some (BadBits b)
    else if values_outside block clip bytes b then Some (ValuesOutside b)
    else if table_outside block clip n bytes b then Some (TableOutside b)
    else None

-- the first fault of the first n blocks
abbrev pub first_fault : (ℕ → Option CsegFault) → ℕ → Option CsegFault
first_fault fault zero = None
first_fault fault (suc n) = option_or (first_fault fault n) (fault n)

-- the fault of the file
unfoldable pub fault_of : Point → Width → Point → List ℕ → Option CsegFault
fault_of block width size bytes =
    if not (length bytes % 4 == 0) then Some NotWords
    else if word_count bytes == 0 then Some NoChannel
    else if nat_lt (word_count bytes) (channel bytes + 2 * block_count size block) then Some HeaderShort
    else first_fault (λ b. block_fault block (clipped size block b) (entry_len width) bytes b) (block_count size block)
