-- The limits of a scale's geometry: this project's own.
use Rattle.std.specs.Prelude.{ℕ, ◌+◌, ◌-◌, ◌*◌, ◌/◌, ◌^◌, ◌≤◌, ◌≡◌, ◌&&◌, Bool, true, false, nat_le}
use Rattle.ig_space.specs.declared.point.Point.{Point}
use Rattle.ig_space.specs.declared.geometry.Width.{Width}
use Rattle.ig_space.specs.declared.geometry.Width.TheVariants.{W8, W16, W32, W64}
use Rattle.ig_space.specs.declared.geometry.Encoding.{Encoding}
use Rattle.ig_space.specs.declared.geometry.Encoding.TheVariants.{Raw, Cseg}
use Rattle.ig_space.specs.declared.geometry.Geometry.{Geometry}
use Rattle.ig_space.specs.Path.{within}
use Rattle.std.proofs.lemmas.Bool.{and_parts, leb-true}

-- how many bytes a label has
abbrev pub label_len : Width → ℕ
label_len W8 = 1
label_len W16 = 2
label_len W32 = 4
label_len W64 = 8

-- no coordinate is above this
abbrev pub largest_place : ℕ
largest_place = 2 ^ 40

-- a chunk has at most this many voxels
abbrev pub largest_chunk : ℕ
largest_chunk = 2 ^ 21

-- and at most this many once its sides are padded to whole blocks
abbrev pub largest_padded : ℕ
largest_padded = 2 ^ 22

abbrev pub all_within : ℕ → ℕ → Point → Bool
all_within low high p = within low high p.x && within low high p.y && within low high p.z

-- how many voxels a box of this size has
abbrev pub count : Point → ℕ
count size = size.x * (size.y * size.z)

-- the scale ends within the largest place
abbrev pub ends_within : Point → Point → Bool
ends_within offset size = nat_le (offset.x + size.x) largest_place && nat_le (offset.y + size.y) largest_place && nat_le (offset.z + size.z) largest_place

-- a side, made longer to whole blocks
abbrev pub padded : ℕ → ℕ → ℕ
padded side block = (side + (block - 1)) / block * block

-- only labels of 32 and 64 bits are compressed
abbrev pub is_wide : Width → Bool
is_wide W8 = false
is_wide W16 = false
is_wide W32 = true
is_wide W64 = true

-- a chunk of this size, padded to whole blocks
abbrev pub padded_to : Point → Point → Point
padded_to chunk block = record { x = padded chunk.x block.x; y = padded chunk.y block.y; z = padded chunk.z block.z }

-- the blocks have sides, and a chunk padded to them has few voxels
abbrev pub blocks_fit : Point → Point → Bool
blocks_fit chunk block = nat_le 1 block.x && nat_le 1 block.y && nat_le 1 block.z && nat_le (count (padded_to chunk block)) largest_padded

abbrev pub encoding_fits : Point → Width → Encoding → Bool
encoding_fits chunk width Raw = true
encoding_fits chunk width (Cseg block) = is_wide width && blocks_fit chunk block

-- each side at least 1, and few voxels
abbrev pub chunk_fits : Point → Bool
chunk_fits chunk = nat_le 1 chunk.x && nat_le 1 chunk.y && nat_le 1 chunk.z && nat_le (count chunk) largest_chunk

unfoldable pub geometry_fits : Geometry → Bool
geometry_fits g = nat_le 1 g.size.x && nat_le 1 g.size.y && nat_le 1 g.size.z && ends_within g.offset g.size && chunk_fits g.chunk && encoding_fits g.chunk g.width g.encoding

-- what a geometry that fits has
pub record Fits (g : Geometry) : Type 0 where
  pub x_some : 1 ≤ g.size.x
  pub y_some : 1 ≤ g.size.y
  pub z_some : 1 ≤ g.size.z
  pub x_ends : g.offset.x + g.size.x ≤ largest_place
  pub y_ends : g.offset.y + g.size.y ≤ largest_place
  pub z_ends : g.offset.z + g.size.z ≤ largest_place
  pub x_step : 1 ≤ g.chunk.x
  pub y_step : 1 ≤ g.chunk.y
  pub z_step : 1 ≤ g.chunk.z
  pub few : count g.chunk ≤ largest_chunk
  pub encoding : encoding_fits g.chunk g.width g.encoding ≡ true

pub Fits-from : (g : Geometry) → geometry_fits g ≡ true → Fits g
unfolding geometry_fits
Fits-from g h =
    let p = and_parts _ _ h in
    let q = and_parts _ _ p.0 in
    let r = and_parts _ _ q.0 in
    let s = and_parts _ _ r.0 in
    let t = and_parts _ _ s.0 in
    let u = and_parts _ _ r.1 in
    let v = and_parts _ _ u.0 in
    let w = and_parts _ _ q.1 in
    let a = and_parts _ _ w.0 in
    let b = and_parts _ _ a.0 in
    record {
      x_some = leb-true 1 g.size.x t.0;
      y_some = leb-true 1 g.size.y t.1;
      z_some = leb-true 1 g.size.z s.1;
      x_ends = leb-true (g.offset.x + g.size.x) largest_place v.0;
      y_ends = leb-true (g.offset.y + g.size.y) largest_place v.1;
      z_ends = leb-true (g.offset.z + g.size.z) largest_place u.1;
      x_step = leb-true 1 g.chunk.x b.0;
      y_step = leb-true 1 g.chunk.y b.1;
      z_step = leb-true 1 g.chunk.z a.1;
      few = leb-true (count g.chunk) largest_chunk w.1;
      encoding = p.1;
    }
