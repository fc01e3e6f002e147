-- The planes of the faces of a box.
use Rattle.std.specs.Prelude.{ℕ, ◌+◌, ◌-◌, ◌*◌, ◌/◌, ◌%◌, List, [], ◌∷◌, slice_index}
use Rattle.ig_space.specs.declared.point.Point.{Point}
use Rattle.ig_space.specs.Chunks.{listed}
use Rattle.ig_space.specs.Volume.{place_of}

-- the part of the voxel
abbrev pub part_at : Point → List ℕ → ℕ → ℕ → ℕ → ℕ
part_at size local x y z = slice_index local (place_of size x y z)

-- the plane of the voxels with this x, y fastest; with this y, x fastest; with this z, x fastest
abbrev pub x_plane : Point → List ℕ → ℕ → List ℕ
x_plane size local x = listed (λ k. part_at size local x (k % size.y) (k / size.y)) (size.y * size.z)

abbrev pub y_plane : Point → List ℕ → ℕ → List ℕ
y_plane size local y = listed (λ k. part_at size local (k % size.x) y (k / size.x)) (size.x * size.z)

abbrev pub z_plane : Point → List ℕ → ℕ → List ℕ
z_plane size local z = listed (λ k. part_at size local (k % size.x) (k / size.x) z) (size.x * size.y)

-- the six planes: of the least and the greatest x, y and z
abbrev pub faces : Point → List ℕ → List (List ℕ)
faces size local =
    x_plane size local 0 ∷ x_plane size local (size.x - 1) ∷ y_plane size local 0 ∷ y_plane size local (size.y - 1)
    ∷ z_plane size local 0 ∷ z_plane size local (size.z - 1) ∷ []

-- ---- by steps
-- so many rows of so many voxels, from a place on, by a step within a row and one from row to row
abbrev pub grid_plane : List ℕ → ℕ → ℕ → ℕ → ℕ → ℕ → List ℕ
grid_plane local from step width leap rows = listed (λ k. slice_index local (from + k % width * step + k / width * leap)) (width * rows)
