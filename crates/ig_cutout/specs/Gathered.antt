-- The labels of a part of a box, in its own order.
use Rattle.std.specs.Prelude.{ℕ, zero, suc, ◌+◌, ◌*◌, List, [], ◌++◌, take, drop}
use Rattle.ig_space.specs.declared.point.Box3.{Box3}
use Rattle.ig_space.specs.Grid.{size_of}
use Rattle.ig_cutout.specs.declared.layout.Layout.{Layout}
use Rattle.ig_cutout.specs.Area.{at_plane, layout_of}

-- the first rows of the part, each so long
abbrev pub rows_of : List ℕ → Layout → ℕ → ℕ → List ℕ
rows_of labels layout long zero = []
rows_of labels layout long (suc y) = rows_of labels layout long y ++ take long (drop (layout.start + layout.row * y) labels)

-- the first planes of the part, each of so many rows
abbrev pub planes_of : List ℕ → Layout → ℕ → ℕ → ℕ → List ℕ
planes_of labels layout long rows zero = []
planes_of labels layout long rows (suc z) = planes_of labels layout long rows z ++ rows_of labels (at_plane layout z) long rows

-- the labels that a box within the area has among those of the area
abbrev pub part_of : Box3 → Box3 → List ℕ → List ℕ
part_of area part labels = planes_of labels (layout_of area part) (size_of part).x (size_of part).y (size_of part).z
