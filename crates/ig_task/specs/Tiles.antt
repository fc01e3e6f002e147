-- The boxes of tasks, of whole chunks of a place: each chunk is of exactly one task.
use Rattle.std.specs.Prelude.{◌≡◌, ◌<◌, ◌+◌, ◌*◌, ◌/◌, ◌%◌, ℕ, true, List, Contains, refl}
use Rattle.std.proofs.Common.{arith, ap, sym, subst, ◌∙◌}
use Rattle.std.proofs.Math.Nat.{div-add-mod}
use Rattle.ig_space.specs.declared.point.Point.{Point}
use Rattle.ig_space.specs.declared.point.Box3.{Box3}
use Rattle.ig_space.specs.declared.geometry.Grid.{Grid}
use Rattle.ig_space.specs.declared.place.Place.{Place}
use Rattle.ig_space.specs.Cells.{cell-within, index_of-is, low-in_space}
use Rattle.ig_space.specs.CellBoxes.{chunks-IsGrid, covered}
use Rattle.ig_space.specs.Chunk.{chunk_path}
use Rattle.ig_space.specs.ChunkPaths.{chunk_path-injective}
use Rattle.ig_space.specs.Chunks.{chunk_in, chunks_in}
use Rattle.ig_space.specs.Geometry.{geometry_fits}
use Rattle.ig_space.specs.Grid.{IsGrid, IsIn, IsWithin, cell, cell_count, chunks_of, counts, hull, number_at, point_at, space_of}
use Rattle.ig_space.specs.Hulls.{hull-IsGrid}
use Rattle.ig_space.specs.HullCells.{hull-cells}
use Rattle.ig_record.specs.SoundFacts.{IsDir}
use Rattle.ig_meaning.specs.ChunkPlaces.{IsChunkAt, IsChunk, chunk-IsBox}
use Rattle.ig_meaning.specs.Lists.{listed-from, listed-has}

-- The parts cut the space of the place into boxes of whole chunks.
pub record IsTiled (place : Place) (parts : Grid) : Type 0 where
  pub dir : IsDir place.dir
  pub fits : geometry_fits place.geometry ≡ true
  pub grid : IsGrid parts
  pub space : parts.space ≡ space_of place.geometry
  pub whole : (k : ℕ) → k < cell_count parts → (hull (chunks_of place.geometry) (cell parts k)).space ≡ cell parts k

-- the number of a point with this number
number-point_at : (size : Point) (k : ℕ) → (point_at size k).x + size.x * ((point_at size k).y + size.y * (point_at size k).z) ≡ k
number-point_at size k =
    let row : k / size.x % size.y + size.y * (k / size.x / size.y) ≡ k / size.x = omega (arith, div-add-mod (k / size.x) size.y) in
    ap (λ n. k % size.x + size.x * n) row ∙ omega (arith, div-add-mod k size.x)

-- a voxel of a cell has the number of that cell
pub number_at-is : (g : Grid) (k x y z : ℕ) → IsIn (cell g k) x y z → number_at g x y z ≡ k
number_at-is g k x y z h =
    let size = counts g in
    let number : Point → ℕ = λ p. p.x + size.x * (p.y + size.y * p.z) in
    ap number (index_of-is g (point_at size k) x y z h) ∙ number-point_at size k

module _ (place : Place) (parts : Grid) (tiled : IsTiled place parts) where
  chunks-grid : IsGrid (chunks_of place.geometry)
  chunks-grid = chunks-IsGrid place.geometry tiled.fits

  pub part-within : (k : ℕ) → k < cell_count parts → IsWithin (cell parts k) (space_of place.geometry)
  part-within k below = subst (IsWithin (cell parts k)) tiled.space (cell-within parts tiled.grid k below)

  -- the path is that of this chunk, and it begins in part k
  pub record IsOfPart (k : ℕ) (path : List ℕ) : Type 0 where
    pub box : Box3
    pub at : IsChunkAt place path box
    pub begins : IsIn (cell parts k) box.lo.x box.lo.y box.lo.z

  -- each chunk of a part is one of the place
  pub part-chunk : (k : ℕ) → k < cell_count parts → (i : ℕ) → i < cell_count (hull (chunks_of place.geometry) (cell parts k))
      → IsChunkAt place (chunk_in place (cell parts k) i) (cell (hull (chunks_of place.geometry) (cell parts k)) i)
  part-chunk k below i few =
      let g = chunks_of place.geometry in
      let c = cell (hull g (cell parts k)) i in
      let number = hull-cells g (cell parts k) chunks-grid (part-within k below) i few in
      record { number = number_at g c.lo.x c.lo.y c.lo.z; below = number.0; box_is = number.1; path_is = refl }

  -- it begins in the part
  pub part-begins : (k : ℕ) → k < cell_count parts → (i : ℕ) → i < cell_count (hull (chunks_of place.geometry) (cell parts k))
      → (let c = cell (hull (chunks_of place.geometry) (cell parts k)) i in IsIn (cell parts k) c.lo.x c.lo.y c.lo.z)
  part-begins k below i few =
      let g = chunks_of place.geometry in
      let a = cell parts k in
      let c = cell (hull g a) i in
      subst (λ b. IsIn b c.lo.x c.lo.y c.lo.z) (tiled.whole k below) (low-in_space (hull g a) (hull-IsGrid g a chunks-grid (part-within k below)) i few)

  -- each path of a part is of a chunk that begins in it
  pub part-from : (k : ℕ) → k < cell_count parts → (path : List ℕ) → Contains (chunks_in place (cell parts k)) path → IsOfPart k path
  part-from k below path among =
      let g = chunks_of place.geometry in
      let a = cell parts k in
      let v = listed-from (chunk_in place a) (cell_count (hull g a)) path among in
      let c = cell (hull g a) v.number in
      record {
        box = c;
        at = subst (λ (p : List ℕ). IsChunkAt place p c) v.is (part-chunk k below v.number v.below);
        begins = part-begins k below v.number v.below;
      }

  -- so no path is of two parts
  pub part-one : (j k : ℕ) (path : List ℕ) → j < cell_count parts → k < cell_count parts → Contains (chunks_in place (cell parts j)) path → Contains (chunks_in place (cell parts k)) path → j ≡ k
  part-one j k path j_below k_below in_j in_k =
      let p = part-from j j_below path in_j in
      let q = part-from k k_below path in_k in
      let same : p.box ≡ q.box = chunk_path-injective place.dir p.box q.box (chunk-IsBox place tiled.fits path p.box p.at) (chunk-IsBox place tiled.fits path q.box q.at) (sym p.at.path_is ∙ q.at.path_is) in
      sym (number_at-is parts j p.box.lo.x p.box.lo.y p.box.lo.z p.begins)
      ∙ ap (λ (b : Box3). number_at parts b.lo.x b.lo.y b.lo.z) same
      ∙ number_at-is parts k q.box.lo.x q.box.lo.y q.box.lo.z q.begins

  -- the path is one of a part
  pub record HasPart (path : List ℕ) : Type 0 where
    pub part : ℕ
    pub below : part < cell_count parts
    pub among : Contains (chunks_in place (cell parts part)) path

  -- and each chunk's path is of one
  pub chunk-part : (path : List ℕ) → IsChunk place path → HasPart path
  chunk-part path c =
      let g = chunks_of place.geometry in
      let r = covered g parts chunks-grid tiled.grid tiled.space c.at.number c.at.below in
      let a = cell parts r.part in
      let is : chunk_in place a r.number ≡ path = ap (chunk_path place.dir) (r.is ∙ c.at.box_is) ∙ sym c.at.path_is in
      record {
        part = r.part;
        below = r.part_below;
        among = subst (λ (p : List ℕ). Contains (chunks_in place a) p) is (listed-has (chunk_in place a) (cell_count (hull g a)) r.number r.below);
      }
