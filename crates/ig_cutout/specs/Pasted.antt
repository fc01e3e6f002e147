-- Labels of chunks that were put among the labels of a box.
use Rattle.std.specs.Prelude.{◌≡◌, ℕ, ◌-◌, ◌<◌, List, length, get_or, slice_index, Option, None, Some}
use Rattle.ig_space.specs.declared.point.Box3.{Box3}
use Rattle.ig_space.specs.declared.geometry.Width.{Width}
use Rattle.ig_space.specs.declared.geometry.Encoding.{Encoding}
use Rattle.ig_space.specs.declared.geometry.Geometry.{Geometry}
use Rattle.ig_space.specs.declared.place.Place.{Place}
use Rattle.ig_space.specs.Geometry.{count}
use Rattle.ig_space.specs.Grid.{IsIn, size_of}
use Rattle.ig_space.specs.Raw.{AllFit}
use Rattle.ig_space.specs.Volume.{place_of}
use Rattle.ig_layer.specs.Faults.{chunk_at, fault_in}
use Rattle.ig_layer.specs.Layer.{label_in, label_of}
use Rattle.ig_cutout.specs.declared.types.Input.{Input}

-- where the voxel stands in the list of the box
abbrev pub place_at : Box3 → ℕ → ℕ → ℕ → ℕ
place_at box x y z = place_of (size_of box) (x - box.lo.x) (y - box.lo.y) (z - box.lo.z)

-- new has the numbers that stand at the places of the chunk's voxels in the area, and is else as old
pub record IsCopied (number : ℕ → ℕ) (area chunk : Box3) (old new : List ℕ) : Type 0 where
  pub long : length new ≡ length old
  pub inside : (x y z : ℕ) → IsIn area x y z → IsIn chunk x y z → slice_index new (place_at area x y z) ≡ number (place_at chunk x y z)
  pub outside : (x y z : ℕ) → IsIn area x y z → (IsIn chunk x y z → ⊥) → slice_index new (place_at area x y z) ≡ slice_index old (place_at area x y z)

-- new has the labels that the text has of the chunk's voxels in the area, and is else as old
pub record IsPasted (encoding : Encoding) (width : Width) (area chunk : Box3) (text old new : List ℕ) : Type 0 where
  pub long : length new ≡ length old
  pub inside : (x y z : ℕ) → IsIn area x y z → IsIn chunk x y z
      → slice_index new (place_at area x y z) ≡ label_of encoding width (size_of chunk) text (x - chunk.lo.x) (y - chunk.lo.y) (z - chunk.lo.z)
  pub outside : (x y z : ℕ) → IsIn area x y z → (IsIn chunk x y z → ⊥) → slice_index new (place_at area x y z) ≡ slice_index old (place_at area x y z)

-- the same, by what was found of the chunk
pub record IsAdded (g : Geometry) (area chunk : Box3) (found : Option (List ℕ)) (old new : List ℕ) : Type 0 where
  pub long : length new ≡ length old
  pub inside : (x y z : ℕ) → IsIn area x y z → IsIn chunk x y z → label_in g chunk found x y z ≡ Some (slice_index new (place_at area x y z))
  pub outside : (x y z : ℕ) → IsIn area x y z → (IsIn chunk x y z → ⊥) → slice_index new (place_at area x y z) ≡ slice_index old (place_at area x y z)

-- the first inputs have no fault, and the labels are those of their chunks
pub record IsAssembled (place : Place) (area : Box3) (inputs : List Input) (number : ℕ) (labels : List ℕ) : Type 0 where
  pub long : length labels ≡ count (size_of area)
  pub sound : (k : ℕ) (d : Input) → k < number → fault_in place (chunk_at place area k) (get_or inputs k d).found ≡ None
  pub labels_of : (k x y z : ℕ) (d : Input) → k < number → IsIn area x y z → IsIn (chunk_at place area k) x y z
      → label_in place.geometry (chunk_at place area k) (get_or inputs k d).found x y z ≡ Some (slice_index labels (place_at area x y z))
  pub fit : AllFit place.geometry.width labels
