-- What is wanted at a path of mips: the chunk of the one scale that has it.
use Rattle.std.specs.Prelude.{◌≡◌, ◌<◌, ℕ, suc, Bool, true, false, if◌then◌else◌, List, [], ◌∷◌, Option, None, Some, refl}
use Rattle.std.specs.Str.{bytes_eq}
use Rattle.std.specs.List.{AllByRecursion}
use Rattle.std.proofs.Common.{ap, sym, subst, ◌∙◌, inl, inr}
use Rattle.std.proofs.lemmas.Option.{none-some, same_Some}
use Rattle.std.proofs.lemmas.Slice.Eq.{bytes_eq-Decides}
use Rattle.ig_space.specs.declared.point.Box3.{Box3}
use Rattle.ig_space.specs.declared.geometry.Geometry.{Geometry}
use Rattle.ig_space.specs.declared.place.Place.{Place}
use Rattle.ig_space.specs.Cells.{low-in_cell}
use Rattle.ig_space.specs.CellBoxes.{cell-IsBox, chunks-IsGrid}
use Rattle.ig_space.specs.Chunk.{chunk_path}
use Rattle.ig_space.specs.ChunkPaths.{chunk_path-dir, chunk_path-injective}
use Rattle.ig_space.specs.Geometry.{geometry_fits}
use Rattle.ig_space.specs.Grid.{IsBox, cell, cell_count, chunks_of, number_at}
use Rattle.ig_layer.specs.Faults.{first_of, or_else}
use Rattle.ig_record.specs.Columns.{dirs_of_all}
use Rattle.ig_record.specs.Sound.{are_apart}
use Rattle.ig_record.specs.SoundFacts.{IsScale}
use Rattle.ig_meaning.specs.ChunkPlaces.{IsChunk, IsChunkAt}
use Rattle.ig_meaning.specs.Lists.{first_of-from, first_of-is}
use Rattle.ig_meaning.specs.Wants.{Want, mip_among, mip_if, mip_want}
use Rattle.ig_task.specs.Scales.{HasScale, later_apart, rest_apart, scale-is}
use Rattle.ig_task.specs.Tiles.{number_at-is}

-- chunk i of the place
abbrev chunk_of : Place → ℕ → Box3
chunk_of place i = cell (chunks_of place.geometry) i

-- the path is that of chunk i of the place
pub record IsPathOf (place : Place) (i : ℕ) (path : List ℕ) : Type 0 where
  pub below : i < cell_count (chunks_of place.geometry)
  pub is : chunk_path place.dir (cell (chunks_of place.geometry) i) ≡ path

pub path-of-chunk : (place : Place) (path : List ℕ) (b : Box3) → (at : IsChunkAt place path b) → IsPathOf place at.number path
path-of-chunk place path b at = record { below = at.below; is = ap (chunk_path place.dir) at.box_is ∙ sym at.path_is }

pub chunk-of-path : (place : Place) (i : ℕ) (path : List ℕ) → IsPathOf place i path → IsChunk place path
chunk-of-path place i path of = record { box = chunk_of place i; at = record { number = i; below = of.below; box_is = refl; path_is = sym of.is } }

-- ---- of one scale
if_some : {A : Type 0} (test : Bool) (x y : A) → (if test then Some x else None) ≡ Some y → (test ≡ true) × (x ≡ y)
if_some true x y e = (refl, same_Some x y e)
if_some false x y e = absurd (none-some y e)

-- equal boxes have equal numbers
same_number : (place : Place) → geometry_fits place.geometry ≡ true → (i j : ℕ) → i < cell_count (chunks_of place.geometry) → j < cell_count (chunks_of place.geometry) → chunk_of place i ≡ chunk_of place j → i ≡ j
same_number place fits i j i_below j_below same =
    let g = chunks_of place.geometry in
    let grid = chunks-IsGrid place.geometry fits in
    sym (number_at-is g i _ _ _ (low-in_cell g grid i i_below)) ∙ ap (λ (b : Box3). number_at g b.lo.x b.lo.y b.lo.z) same ∙ number_at-is g j _ _ _ (low-in_cell g grid j j_below)

module _ (source : Geometry) (m : ℕ) (place : Place) (fits : geometry_fits place.geometry ≡ true) where
  chunk_box : (i : ℕ) → i < cell_count (chunks_of place.geometry) → IsBox (chunk_of place i)
  chunk_box i below = cell-IsBox (chunks_of place.geometry) (chunks-IsGrid place.geometry fits) i below

  -- the number that is found has this path
  found_path : (path : List ℕ) (i : ℕ) (want : Want) → mip_if source m place path i ≡ Some want → (chunk_path place.dir (chunk_of place i) ≡ path) × (mip_want source m place i ≡ want)
  found_path path i want e =
      let t = if_some (bytes_eq (chunk_path place.dir (chunk_of place i)) path) (mip_want source m place i) want e in
      ((bytes_eq-Decides (chunk_path place.dir (chunk_of place i)) path).0 t.0, t.1)

  mip_here : (i : ℕ) (path : List ℕ) → IsPathOf place i path → first_of (mip_if source m place path) (cell_count (chunks_of place.geometry)) ≡ Some (mip_want source m place i)
  mip_here i path of =
      let test = (bytes_eq-Decides (chunk_path place.dir (chunk_of place i)) path).1 of.is in
      first_of-is (mip_if source m place path) (cell_count (chunks_of place.geometry)) i (mip_want source m place i) of.below
      (ap (λ (t : Bool). if t then Some (mip_want source m place i) else None) test)
      (λ j want below e.
      let t = found_path path j want e in
      let same : chunk_of place j ≡ chunk_of place i
      = chunk_path-injective place.dir (chunk_of place j) (chunk_of place i) (chunk_box j below) (chunk_box i of.below) (t.0 ∙ sym of.is) in
      sym t.1 ∙ ap (mip_want source m place) (same_number place fits j i below of.below same))

  none_if : {A : Type 0} (o : Option A) → ((x : A) → o ≡ Some x → ⊥) → o ≡ None
  none_if None never = refl
  none_if (Some x) never = absurd (never x refl)

  -- nothing is found of a path in another directory
  mip_nowhere : (other : Place) (i : ℕ) (path : List ℕ) → geometry_fits other.geometry ≡ true → IsPathOf other i path → (place.dir ≡ other.dir → ⊥)
      → first_of (mip_if source m place path) (cell_count (chunks_of place.geometry)) ≡ None
  mip_nowhere other i path fits_other of differs =
      none_if (first_of (mip_if source m place path) (cell_count (chunks_of place.geometry))) (λ want e.
      let v = first_of-from (mip_if source m place path) (cell_count (chunks_of place.geometry)) want e in
      let box = cell-IsBox (chunks_of other.geometry) (chunks-IsGrid other.geometry fits_other) i of.below in
      differs (chunk_path-dir place.dir other.dir (chunk_of place v.number) (chunk_of other i) (chunk_box v.number v.below) box ((found_path path v.number want v.is).0 ∙ sym of.is)))

-- ---- of several
-- at the path of a chunk, that chunk is wanted
pub mip_among-is : (source : Geometry) (m : ℕ) (places : List Place) → AllByRecursion IsScale places → are_apart (dirs_of_all places) ≡ true
    → (n : ℕ) (place : Place) → HasScale m places n place → (i : ℕ) (path : List ℕ) → IsPathOf place i path → mip_among source m places path ≡ Some (mip_want source n place i)
mip_among-is source m [] all apart n place none i path of = absurd none
mip_among-is source m (first ∷ rest) all apart n place (inl is) i path of =
    ap (λ o. or_else o (mip_among source (suc m) rest path)) (mip_here source m first all.0.fits i path (subst (λ (p : Place). IsPathOf p i path) (sym is.1) of))
    ∙ (λ j. Some (mip_want source (is.0 j) (is.1 j) i))
mip_among-is source m (first ∷ rest) all apart n place (inr later) i path of =
    let fits = (scale-is (suc m) rest n place all.1 later).fits in
    ap (λ o. or_else o (mip_among source (suc m) rest path)) (mip_nowhere source m first all.0.fits place i path fits of (later_apart (suc m) first rest n place apart later))
    ∙ mip_among-is source (suc m) rest all.1 (rest_apart first.dir (dirs_of_all rest) apart) n place later i path of

-- and something is wanted only there
pub record IsMipAt (m : ℕ) (places : List Place) (path : List ℕ) : Type 0 where
  pub number : ℕ
  pub place : Place
  pub has : HasScale m places number place
  pub chunk : ℕ
  pub of : IsPathOf place chunk path

from_by : (source : Geometry) (m : ℕ) (first : Place) (rest : List Place) → geometry_fits first.geometry ≡ true → (path : List ℕ) (want : Want) → (mip_among source (suc m) rest path ≡ Some want → IsMipAt (suc m) rest path)
    → (o : Option Want) → first_of (mip_if source m first path) (cell_count (chunks_of first.geometry)) ≡ o → or_else o (mip_among source (suc m) rest path) ≡ Some want → IsMipAt m (first ∷ rest) path
from_by source m first rest fits path want later (Some found) is e =
    let v = first_of-from (mip_if source m first path) (cell_count (chunks_of first.geometry)) found is in
    let at = (found_path source m first fits path v.number found v.is).0 in
    record { number = m; place = first; has = inl (refl, refl); chunk = v.number; of = record { below = v.below; is = at } }
from_by source m first rest fits path want later None is e =
    let v = later e in
    record { number = v.number; place = v.place; has = inr v.has; chunk = v.chunk; of = v.of }

pub mip_among-from : (source : Geometry) (m : ℕ) (places : List Place) → AllByRecursion IsScale places → (path : List ℕ) (want : Want) → mip_among source m places path ≡ Some want → IsMipAt m places path
mip_among-from source m [] all path want e = absurd (none-some want e)
mip_among-from source m (first ∷ rest) all path want e =
    from_by source m first rest all.0.fits path want (mip_among-from source (suc m) rest all.1 path want)
    (first_of (mip_if source m first path) (cell_count (chunks_of first.geometry))) refl e
