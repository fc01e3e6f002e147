-- The file of the six planes of a box: the numbers of their parts, in 4 bytes each. This project's own.
use Rattle.std.specs.Prelude.{ℕ, ◌*◌, ◌≤◌, ◌^◌, nat_le, if◌then◌else◌, List, [], ◌∷◌, flat_map, sum, Option, Some, None}
use Rattle.std.specs.List.{concat}
use Rattle.ig_space.specs.declared.point.Point.{Point}
use Rattle.ig_space.specs.Geometry.{count}
use Rattle.ig_faces.specs.Records.{file_wrong, number_in, records_in}
use Rattle.ig_faces.specs.TableFile.{number_text}

-- a box with voxels, but few
pub record IsBox (size : Point) : Type 0 where
  pub x_some : 1 ≤ size.x
  pub y_some : 1 ≤ size.y
  pub z_some : 1 ≤ size.z
  pub few : count size ≤ 2 ^ 24

-- how many voxels the planes have: two across x, two across y, two across z
abbrev pub plane_sizes : Point → List ℕ
plane_sizes size = size.y * size.z ∷ size.y * size.z ∷ size.x * size.z ∷ size.x * size.z ∷ size.x * size.y ∷ size.x * size.y ∷ []

-- the text of planes, and the numbers of a text
abbrev pub planes_text : List (List ℕ) → List ℕ
planes_text planes = flat_map number_text (concat planes)

abbrev pub planes_in : Point → List ℕ → List ℕ
planes_in size bytes = records_in (number_in 4) 4 (sum (plane_sizes size)) bytes

-- the number of a part is above the greatest
abbrev pub place_wrong : ℕ → Option ℕ → ℕ → Option ℕ
place_wrong top before number = if nat_le number top then None else Some 0

abbrev pub planes_wrong : Point → ℕ → List ℕ → Option ℕ
planes_wrong size top bytes = file_wrong (place_wrong top) (number_in 4) 0 4 (sum (plane_sizes size)) bytes
