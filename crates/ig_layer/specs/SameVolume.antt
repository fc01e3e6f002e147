-- A volume is that of the files of its chunks, whatever other files there are.
use Rattle.std.specs.Prelude.{◌≡◌, ℕ, Bool, true, false, if◌then◌else◌, List, Option, None, refl}
use Rattle.std.proofs.Common.{ap}
use Rattle.ig_space.specs.declared.point.Box3.{Box3}
use Rattle.ig_space.specs.declared.place.Place.{Place}
use Rattle.ig_space.specs.Chunk.{chunk_path}
use Rattle.ig_space.specs.Geometry.{geometry_fits}
use Rattle.ig_space.specs.Grid.{IsBox, cell_at, chunks_of, is_in, space_of}
use Rattle.ig_space.specs.Cells.{is_in-IsIn}
use Rattle.ig_space.specs.CellBoxes.{cell_at-IsBox, chunks-IsGrid}
use Rattle.ig_layer.specs.Layer.{label_in, volume_at}

-- the same is found of each chunk of the directory
abbrev pub FindsSame : List ℕ → (List ℕ → Option (List ℕ)) → (List ℕ → Option (List ℕ)) → Type 0
FindsSame dir given other = (b : Box3) → IsBox b → given (chunk_path dir b) ≡ other (chunk_path dir b)

at_voxel : (given other : List ℕ → Option (List ℕ)) (place : Place) → geometry_fits place.geometry ≡ true → FindsSame place.dir given other
    → (x y z : ℕ) (inside : Bool) → is_in (space_of place.geometry) x y z ≡ inside
    → (if inside then label_in place.geometry (cell_at (chunks_of place.geometry) x y z) (given (chunk_path place.dir (cell_at (chunks_of place.geometry) x y z))) x y z else None)
    ≡ (if inside then label_in place.geometry (cell_at (chunks_of place.geometry) x y z) (other (chunk_path place.dir (cell_at (chunks_of place.geometry) x y z))) x y z else None)
at_voxel given other place fits found x y z true is =
    let g = chunks_of place.geometry in
    ap (λ o. label_in place.geometry (cell_at g x y z) o x y z)
    (found (cell_at g x y z) (cell_at-IsBox g (chunks-IsGrid place.geometry fits) x y z (is_in-IsIn (space_of place.geometry) x y z is)))
at_voxel given other place fits found x y z false is = refl

-- where the same is found of each chunk, the volume is the same
pub volume_at-same : (given other : List ℕ → Option (List ℕ)) (place : Place) → geometry_fits place.geometry ≡ true → FindsSame place.dir given other
    → volume_at given place ≡ volume_at other place
volume_at-same given other place fits found =
    λ i x y z. at_voxel given other place fits found x y z (is_in (space_of place.geometry) x y z) refl i
