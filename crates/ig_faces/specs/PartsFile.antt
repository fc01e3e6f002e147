-- The file of the parts of a box: for each part its first voxel, by its number in the box, in 4 bytes, and its label in 8. This
-- project's own.
use Rattle.std.specs.Prelude.{ℕ, ◌&&◌, ◌==◌, Bool, true, nat_lt, if◌then◌else◌, List, [], ◌∷◌, ◌++◌, drop, Option, Some, None}
use Rattle.byteorder.specs.Endian.{little_bytes}
use Rattle.ig_faces.specs.declared.parts.Part.{Part}
use Rattle.ig_faces.specs.Counted.{counted_in, counted_text, counted_wrong}
use Rattle.ig_faces.specs.Records.{number_in}

abbrev pub first_of : Part → ℕ
first_of part = part.first

abbrev pub label_of : Part → ℕ
label_of part = part.label

-- the parts with these first voxels and labels
abbrev pub parts_of : List ℕ → List ℕ → List Part
parts_of [] labels = []
parts_of (f ∷ fs) [] = []
parts_of (f ∷ fs) (l ∷ ls) = record { first = f; label = l } ∷ parts_of fs ls

abbrev pub part_text : Part → List ℕ
part_text part = little_bytes 4 part.first ++ little_bytes 8 part.label

abbrev pub part_in : List ℕ → Part
part_in bytes = record { first = number_in 4 bytes; label = number_in 8 (drop 4 bytes) }

-- the text of parts, and the parts of a text
abbrev pub parts_text : List Part → List ℕ
parts_text parts = counted_text part_text parts

abbrev pub parts_in : List ℕ → List Part
parts_in bytes = counted_in part_in 12 bytes

abbrev pub is_after : Option Part → ℕ → Bool
is_after None first = true
is_after (Some before) first = nat_lt before.first first

-- the first voxel isn't after that of the part before or isn't one of the box, or the label is 0
abbrev pub part_wrong : ℕ → Option Part → Part → Option ℕ
part_wrong voxels before part =
    if is_after before part.first && nat_lt part.first voxels then (if part.label == 0 then Some 4 else None) else Some 0

abbrev pub parts_wrong : ℕ → List ℕ → Option ℕ
parts_wrong voxels bytes = counted_wrong (part_wrong voxels) part_in 12 bytes
