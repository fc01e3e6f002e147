-- The chunks that meet a box, in grid order.
use Rattle.std.specs.Prelude.{ℕ, zero, suc, List, [], ◌∷◌, ◌++◌}
use Rattle.ig_space.specs.declared.point.Box3.{Box3}
use Rattle.ig_space.specs.declared.place.Place.{Place}
use Rattle.ig_space.specs.Chunk.{chunk_path}
use Rattle.ig_space.specs.Grid.{cell, cell_count, chunks_of, hull}

-- the values at 0, 1, .. below n
abbrev pub listed : {A : Type 0} → (ℕ → A) → ℕ → List A
listed f zero = []
listed f (suc n) = listed f n ++ f n ∷ []

-- the path of the chunk with this number among those that meet the box
abbrev pub chunk_in : Place → Box3 → ℕ → List ℕ
chunk_in place box k = chunk_path place.dir (cell (hull (chunks_of place.geometry) box) k)

-- the paths of the chunks that meet the box, in grid order
abbrev pub chunks_in : Place → Box3 → List (List ℕ)
chunks_in place box = listed (chunk_in place box) (cell_count (hull (chunks_of place.geometry) box))
