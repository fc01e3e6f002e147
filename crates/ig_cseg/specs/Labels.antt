-- Labels of voxels by their numbers: this project's own.
use Rattle.std.specs.Prelude.{◌≡◌, ℕ, List, slice_index}
use Rattle.ig_space.specs.declared.point.Point.{Point}
use Rattle.ig_space.specs.Grid.{point_at}
use Rattle.ig_cseg.specs.Cseg.{block_of, entry, position}

-- the label of the voxel with number k, where a table entry has n words
unfoldable pub label_of : ℕ → Point → Point → List ℕ → ℕ → ℕ
label_of n block size bytes k =
    entry n bytes (block_of size block (point_at size k).x (point_at size k).y (point_at size k).z) (position block (point_at size k).x (point_at size k).y (point_at size k).z)

-- the labels have the label of voxel k
abbrev pub IsRight : ℕ → Point → Point → List ℕ → List ℕ → ℕ → Type 0
IsRight n block size bytes labels k = slice_index labels k ≡ label_of n block size bytes k
