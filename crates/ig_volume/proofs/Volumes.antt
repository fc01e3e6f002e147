-- The volume at the files, from what they have of each chunk.
use Rattle.std.proofs.Common.{arith, ◌≡◌, ◌<◌, ℕ, Bool, true, false, if◌then◌else◌, Option, None, Some, refl, ap, sym, ◌∙◌, subst}
use Rattle.ig_space.specs.declared.point.Box3.{Box3}
use Rattle.ig_space.specs.declared.place.Place.{Place}
use Rattle.ig_space.specs.CellBoxes.{chunks-IsGrid}
use Rattle.ig_space.specs.Cells.{IsIn-is_in, cell-number_at, cell-within, cell_at-in, cell_at-is, is_in-IsIn, number_at-below}
use Rattle.ig_space.specs.Chunk.{chunk_path}
use Rattle.ig_space.specs.Geometry.{geometry_fits}
use Rattle.ig_space.specs.Grid.{IsIn, IsWithin, cell, cell_at, cell_count, chunks_of, is_in, number_at, space_of}
use Rattle.ig_layer.specs.Layer.{Labels, Reading, label_in, volume_at}
use Rattle.ig_volume.specs.Laws.{ChunksMakeVolumes}
use Rattle.ig_volume.specs.Maps.{ReadAs, VoxelMap, map_on}

-- ---- one voxel
-- the label that the files give the voxel by this chunk
abbrev pub label_by : Reading → Place → Box3 → ℕ → ℕ → ℕ → Option ℕ
label_by files place chunk x y z = label_in place.geometry chunk (files (chunk_path place.dir chunk)) x y z

pub if_true : (test : Bool) (x : Option ℕ) → test ≡ true → (if test then x else None) ≡ x
if_true test x e = rw e refl

-- a voxel of the box has the label that its chunk gives it
pub volume_at-chunk : (files : Reading) (place : Place) (x y z : ℕ) → IsIn (space_of place.geometry) x y z
    → volume_at files place x y z ≡ label_by files place (cell_at (chunks_of place.geometry) x y z) x y z
volume_at-chunk files place x y z inside =
    if_true (is_in (space_of place.geometry) x y z) (label_by files place (cell_at (chunks_of place.geometry) x y z) x y z) (IsIn-is_in (space_of place.geometry) x y z inside)

-- a voxel of a chunk lies in the box
pub in_space : (b space : Box3) (x y z : ℕ) → IsWithin b space → IsIn b x y z → IsIn space x y z
in_space b space x y z w h = record {
  x_from = omega (arith, w.x_from, h.x_from);
  x_to = omega (arith, w.x_to, h.x_to);
  y_from = omega (arith, w.y_from, h.y_from);
  y_to = omega (arith, w.y_to, h.y_to);
  z_from = omega (arith, w.z_from, h.z_from);
  z_to = omega (arith, w.z_to, h.z_to);
}

-- each voxel of the box lies in the chunk of one number
pub record IsInChunk (place : Place) (x y z : ℕ) : Type 0 where
  pub number : ℕ
  pub below : number < cell_count (chunks_of place.geometry)
  pub is : cell (chunks_of place.geometry) number ≡ cell_at (chunks_of place.geometry) x y z
  pub inside : IsIn (cell (chunks_of place.geometry) number) x y z

pub chunk-of : (place : Place) (x y z : ℕ) → geometry_fits place.geometry ≡ true → IsIn (space_of place.geometry) x y z → IsInChunk place x y z
chunk-of place x y z fits inside =
    let g = chunks_of place.geometry in
    let grid = chunks-IsGrid place.geometry fits in
    let is = cell-number_at g grid x y z inside in
    record {
      number = number_at g x y z;
      below = number_at-below g grid x y z inside;
      is = is;
      inside = subst (λ (c : Box3). IsIn c x y z) (sym is) (cell_at-in g grid x y z inside);
    }

-- where each chunk gives its voxels the labels of the volume, so do the files
pub volume-by_chunks : (files : Reading) (place : Place) (volume : Labels) → geometry_fits place.geometry ≡ true
    → ((k : ℕ) → k < cell_count (chunks_of place.geometry) → (x y z : ℕ) → IsIn (cell (chunks_of place.geometry) k) x y z → label_by files place (cell (chunks_of place.geometry) k) x y z ≡ volume x y z)
    → (x y z : ℕ) → IsIn (space_of place.geometry) x y z → volume_at files place x y z ≡ volume x y z
volume-by_chunks files place volume fits each x y z inside =
    let c = chunk-of place x y z fits inside in
    volume_at-chunk files place x y z inside
    ∙ ap (λ (chunk : Box3). label_by files place chunk x y z) (sym c.is)
    ∙ each c.number c.below x y z c.inside

-- ---- the whole box
pub both_if : (test : Bool) (a b : Option ℕ) → (test ≡ true → a ≡ b) → (if test then a else None) ≡ (if test then b else None)
both_if true a b same = same refl
both_if false a b same = refl

pub at_voxel : (files : Reading) (place : Place) (voxels : VoxelMap) → ((x y z : ℕ) → IsIn (space_of place.geometry) x y z → volume_at files place x y z ≡ Some (voxels x y z))
    → (x y z : ℕ) → volume_at files place x y z ≡ map_on (space_of place.geometry) voxels x y z
at_voxel files place voxels same x y z =
    both_if (is_in (space_of place.geometry) x y z) (label_by files place (cell_at (chunks_of place.geometry) x y z) x y z) (Some (voxels x y z))
    (λ h. let inside = is_in-IsIn (space_of place.geometry) x y z h in sym (volume_at-chunk files place x y z inside) ∙ same x y z inside)

pub map-volume : (files : Reading) (place : Place) (voxels : VoxelMap) → ((x y z : ℕ) → IsIn (space_of place.geometry) x y z → volume_at files place x y z ≡ Some (voxels x y z))
    → volume_at files place ≡ map_on (space_of place.geometry) voxels
map-volume files place voxels same = λ i x y z. at_voxel files place voxels same x y z i

read-chunk : (files : Reading) (place : Place) (voxels : VoxelMap) → geometry_fits place.geometry ≡ true → volume_at files place ≡ map_on (space_of place.geometry) voxels → ReadAs files place voxels
read-chunk files place voxels fits is k below x y z inside =
    let g = chunks_of place.geometry in
    let grid = chunks-IsGrid place.geometry fits in
    let whole = in_space (cell g k) (space_of place.geometry) x y z (cell-within g grid k below) inside in
    ap (λ (chunk : Box3). label_by files place chunk x y z) (sym (cell_at-is g grid k x y z below inside))
    ∙ sym (volume_at-chunk files place x y z whole)
    ∙ (λ i. is i x y z)
    ∙ if_true (is_in (space_of place.geometry) x y z) (Some (voxels x y z)) (IsIn-is_in (space_of place.geometry) x y z whole)

-- the volume is the map exactly where each chunk reads as it
pub chunks-make_volumes : ChunksMakeVolumes
chunks-make_volumes files place voxels fits =
    (read-chunk files place voxels fits, λ each. map-volume files place voxels (volume-by_chunks files place (λ x y z. Some (voxels x y z)) fits each))
