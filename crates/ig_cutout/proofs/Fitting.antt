-- What can be said of a chunk can be said of a clipped one, which is no longer on any axis.
use Rattle.std.proofs.Common.{arith, ◌≡◌, ◌≤◌, ◌+◌, ◌-◌, ◌/◌, ◌&&◌, nat_le, ℕ, true, refl}
use Rattle.std.proofs.Math.Nat.{div-mul-le_self, le_trans, mul-le-mul, mul-le-mul_right}
use Rattle.std.proofs.lemmas.Nat.{le-div}
use Rattle.std.proofs.lemmas.Bool.{and_from, and_parts, leb-true, le-leb}
use Rattle.ig_space.specs.declared.point.Point.{Point}
use Rattle.ig_space.specs.declared.point.Box3.{Box3}
use Rattle.ig_space.specs.declared.geometry.Width.{Width}
use Rattle.ig_space.specs.declared.geometry.Encoding.{Encoding}
use Rattle.ig_space.specs.declared.geometry.Encoding.TheVariants.{Raw, Cseg}
use Rattle.ig_space.specs.declared.place.Place.{Place}
use Rattle.ig_space.specs.Geometry.{Fits-from, blocks_fit, count, encoding_fits, geometry_fits, is_wide, largest_padded, padded, padded_to}
use Rattle.ig_space.specs.Grid.{chunks_of, counts, hull, point_at, size_of}
use Rattle.ig_layer.specs.Faults.{chunk_at}
use Rattle.ig_cutout.proofs.Chunks.{side-few}

-- a box is no longer than another on any axis
pub record IsShorter (size chunk : Point) : Type 0 where
  pub x : size.x ≤ chunk.x
  pub y : size.y ≤ chunk.y
  pub z : size.z ≤ chunk.z

-- a shorter side is no longer once it is padded
padded-less : (a b block : ℕ) → 1 ≤ block → a ≤ b → padded a block ≤ padded b block
padded-less a b block some less =
    mul-le-mul_right block (le-div ((a + (block - 1)) / block) (b + (block - 1)) block some (le_trans (div-mul-le_self (a + (block - 1)) block) (omega (arith, less))))

blocks-fewer : (size chunk block : Point) → IsShorter size chunk → 1 ≤ block.x → 1 ≤ block.y → 1 ≤ block.z → count (padded_to size block) ≤ count (padded_to chunk block)
blocks-fewer size chunk block less x y z =
    mul-le-mul (padded-less size.x chunk.x block.x x less.x) (mul-le-mul (padded-less size.y chunk.y block.y y less.y) (padded-less size.z chunk.z block.z z less.z))

-- a shorter chunk can be written so too
encoding-shorter : (size chunk : Point) (width : Width) (encoding : Encoding) → IsShorter size chunk → encoding_fits chunk width encoding ≡ true → encoding_fits size width encoding ≡ true
encoding-shorter size chunk width Raw less fits = refl
encoding-shorter size chunk width (Cseg block) less fits =
    let p = and_parts (is_wide width) (blocks_fit chunk block) fits in
    let q = and_parts (nat_le 1 block.x && nat_le 1 block.y && nat_le 1 block.z) (nat_le (count (padded_to chunk block)) largest_padded) p.1 in
    let r = and_parts (nat_le 1 block.x && nat_le 1 block.y) (nat_le 1 block.z) q.0 in
    let s = and_parts (nat_le 1 block.x) (nat_le 1 block.y) r.0 in
    let fewer = blocks-fewer size chunk block less (leb-true 1 block.x s.0) (leb-true 1 block.y s.1) (leb-true 1 block.z r.1) in
    and_from _ _ p.0 (and_from _ _ q.0 (le-leb (count (padded_to size block)) largest_padded (le_trans fewer (leb-true (count (padded_to chunk block)) largest_padded q.1))))

-- a chunk of a layer can be written as its geometry says
pub chunk-encoding : (place : Place) (area : Box3) (k : ℕ) → geometry_fits place.geometry ≡ true
    → encoding_fits (size_of (chunk_at place area k)) place.geometry.width place.geometry.encoding ≡ true
chunk-encoding place area k fits =
    let g = hull (chunks_of place.geometry) area in
    let i = point_at (counts g) k in
    encoding-shorter (size_of (chunk_at place area k)) place.geometry.chunk place.geometry.width place.geometry.encoding
    (record { x = side-few g.space.lo.x g.space.hi.x g.step.x i.x; y = side-few g.space.lo.y g.space.hi.y g.step.y i.y; z = side-few g.space.lo.z g.space.hi.z g.step.z i.z })
    (Fits-from place.geometry fits).encoding
