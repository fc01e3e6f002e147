-- The chunk that a path is of, and where its file lies.
use Rattle.std.specs.Prelude.{◌≡◌, ◌<◌, ℕ, Bool, true, false, if◌then◌else◌, List, ◌∷◌, Option, None, Some, is_some, codes, refl}
use Rattle.std.specs.Str.{bytes_eq}
use Rattle.std.proofs.Common.{arith, ap, sym, subst, ◌∙◌, length-append, true≢false}
use Rattle.std.proofs.lemmas.Option.{none-some, same_Some}
use Rattle.std.proofs.lemmas.Slice.Eq.{bytes_eq-Decides}
use Rattle.ig_space.specs.declared.point.Box3.{Box3}
use Rattle.ig_space.specs.declared.place.Place.{Place}
use Rattle.ig_space.specs.Chunk.{begins_with_digit, chunk_name, chunk_path}
use Rattle.ig_space.specs.ChunkNames.{begins_with_digit-chunk_name, is_path-chunk_name, is_segment-chunk_name, length-chunk_name}
use Rattle.ig_space.specs.ChunkPaths.{chunk_path-injective}
use Rattle.ig_space.specs.CellBoxes.{cell-IsBox, chunks-IsGrid}
use Rattle.ig_space.specs.Geometry.{geometry_fits}
use Rattle.ig_space.specs.Grid.{IsBox, cell, cell_count, chunks_of}
use Rattle.ig_space.specs.Segments.{is_path-joined}
use Rattle.ig_record.specs.SoundFacts.{IsDir}
use Rattle.ig_rule.specs.Dirs.{LiesIn}
use Rattle.ig_rule.specs.DirPaths.{name_is}
use Rattle.ig_rule.specs.Facts.{IsInfoName}
use Rattle.ig_meaning.specs.Wants.{chunk_if, chunk_with, is_chunk_of}
use Rattle.ig_meaning.specs.Lists.{first_of-from, first_of-is}

-- ---- the chunk with a path
if_some : {A : Type 0} (test : Bool) (x y : A) → (if test then Some x else None) ≡ Some y → (test ≡ true) × (x ≡ y)
if_some true x y e = (refl, same_Some x y e)
if_some false x y e = absurd (none-some y e)

-- the path is that of this chunk of the place
pub record IsChunkAt (place : Place) (path : List ℕ) (b : Box3) : Type 0 where
  pub number : ℕ
  pub below : number < cell_count (chunks_of place.geometry)
  pub box_is : cell (chunks_of place.geometry) number ≡ b
  pub path_is : path ≡ chunk_path place.dir b

pub chunk_with-from : (place : Place) (path : List ℕ) (b : Box3) → chunk_with place path ≡ Some b → IsChunkAt place path b
chunk_with-from place path b e =
    let v = first_of-from (chunk_if place path) (cell_count (chunks_of place.geometry)) b e in
    let c = cell (chunks_of place.geometry) v.number in
    let t = if_some (bytes_eq (chunk_path place.dir c) path) c b v.is in
    record {
      number = v.number;
      below = v.below;
      box_is = t.1;
      path_is = sym ((bytes_eq-Decides (chunk_path place.dir c) path).0 t.0) ∙ ap (chunk_path place.dir) t.1;
    }

chunk_if-is : (place : Place) (path : List ℕ) (k : ℕ) → path ≡ chunk_path place.dir (cell (chunks_of place.geometry) k) → chunk_if place path k ≡ Some (cell (chunks_of place.geometry) k)
chunk_if-is place path k e =
    let c = cell (chunks_of place.geometry) k in
    ap (λ test. if test then Some c else None) ((bytes_eq-Decides (chunk_path place.dir c) path).1 (sym e))

pub chunk-IsBox : (place : Place) → geometry_fits place.geometry ≡ true → (path : List ℕ) (b : Box3) → IsChunkAt place path b → IsBox b
chunk-IsBox place fits path b at = subst IsBox at.box_is (cell-IsBox (chunks_of place.geometry) (chunks-IsGrid place.geometry fits) at.number at.below)

-- a path is of one chunk
pub chunk_with-is : (place : Place) → geometry_fits place.geometry ≡ true → (path : List ℕ) (b : Box3) → IsChunkAt place path b → chunk_with place path ≡ Some b
chunk_with-is place fits path b at =
    let g = chunks_of place.geometry in
    let one : path ≡ chunk_path place.dir (cell g at.number) = at.path_is ∙ ap (chunk_path place.dir) (sym at.box_is) in
    first_of-is (chunk_if place path) (cell_count g) at.number b at.below (chunk_if-is place path at.number one ∙ ap Some at.box_is)
    (λ i y less e.
    let t = if_some (bytes_eq (chunk_path place.dir (cell g i)) path) (cell g i) y e in
    sym t.1 ∙ chunk_path-injective place.dir (cell g i) b (cell-IsBox g (chunks-IsGrid place.geometry fits) i less) (chunk-IsBox place fits path b at)
    ((bytes_eq-Decides (chunk_path place.dir (cell g i)) path).0 t.0 ∙ at.path_is))

-- ---- chunks of a place
-- the path is that of a chunk
pub record IsChunk (place : Place) (path : List ℕ) : Type 0 where
  pub box : Box3
  pub at : IsChunkAt place path box

some-from : {A : Type 0} (o : Option A) → is_some o ≡ true → (x : A) × (o ≡ Some x)
some-from None e = absurd (true≢false (sym e))
some-from (Some x) e = (x, refl)

pub is_chunk_of-from : (place : Place) (path : List ℕ) → is_chunk_of place path ≡ true → IsChunk place path
is_chunk_of-from place path e =
    let found = some-from (chunk_with place path) e in
    record { box = found.0; at = chunk_with-from place path found.0 found.1 }

pub is_chunk_of-is : (place : Place) → geometry_fits place.geometry ≡ true → (path : List ℕ) → IsChunk place path → is_chunk_of place path ≡ true
is_chunk_of-is place fits path c = ap (λ (o : Option Box3). is_some o) (chunk_with-is place fits path c.box c.at)

-- its file lies directly in the directory
pub chunk-lies : (place : Place) → geometry_fits place.geometry ≡ true → IsDir place.dir → (path : List ℕ) → IsChunk place path → LiesIn place.dir path
chunk-lies place fits dir path c =
    let box = chunk-IsBox place fits path c.box c.at in
    let long = length-append place.dir (47 ∷ chunk_name c.box) in
    record {
      name = chunk_name c.box;
      is_name = record {
        segment = is_segment-chunk_name c.box box;
        path = is_path-joined place.dir (chunk_name c.box) dir.path (is_path-chunk_name c.box box) (omega (arith, long, dir.short, length-chunk_name c.box box));
      };
      is = c.at.path_is;
    }

-- and is not called `info`
pub chunk-not_info : (place : Place) → geometry_fits place.geometry ≡ true → IsDir place.dir → (path : List ℕ) → IsChunk place path → IsInfoName path → ⊥
unfolding chunk-lies
chunk-not_info place fits dir path c info =
    let name : chunk_name c.box ≡ codes "info" = name_is place.dir info.dir (codes "info") path (chunk-lies place fits dir path c) refl info.is in
    true≢false (sym (begins_with_digit-chunk_name c.box (chunk-IsBox place fits path c.box c.at)) ∙ ap begins_with_digit name)
