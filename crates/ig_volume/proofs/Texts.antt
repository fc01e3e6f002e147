-- Files that have the texts of a volume give its labels.
use Rattle.std.proofs.Common.{arith, ◌≡◌, ◌<◌, ◌+◌, ◌^◌, ℕ, true, false, Bool, if◌then◌else◌, List, Option, None, Some, refl, ap, sym, ◌∙◌, subst}
use Rattle.std.specs.Prelude.{is_some}
use Rattle.std.specs.List.{Contains}
use Rattle.std.proofs.lemmas.List.Elements.{All-contains}
use Rattle.std.proofs.lemmas.Option.{none-some, same_Some}
use Rattle.ig_space.specs.declared.point.Box3.{Box3}
use Rattle.ig_space.specs.declared.place.Place.{Place}
use Rattle.ig_space.specs.CellBoxes.{chunks-IsGrid}
use Rattle.ig_space.specs.Cells.{IsIn-is_in, cell-within, is_in-IsIn}
use Rattle.ig_space.specs.Chunk.{chunk_path}
use Rattle.ig_space.specs.Geometry.{count, geometry_fits, label_len}
use Rattle.ig_space.specs.Grid.{IsIn, cell, cell_at, cell_count, chunks_of, hull, is_in, number_at, point_at, size_of, space_of}
use Rattle.ig_space.specs.HullCells.{hull-numbers}
use Rattle.ig_space.specs.Points.{point_at-inside}
use Rattle.ig_space.specs.Raw.{AllFit}
use Rattle.ig_space.specs.Volume.{IsInside}
use Rattle.ig_defs.specs.Own.{File}
use Rattle.ig_layer.specs.Layer.{Labels, Reading, label_in, volume_at}
use Rattle.ig_layer.specs.Listed.{all_fit-from, all_listed-each, all_listed-has, file_if-path}
use Rattle.ig_layer.specs.Texts.{all_fit, chunk_file, chunk_text, file_if, label_by_number, layer_files, text_in, text_of}
use Rattle.ig_volume.specs.Laws.{BoxFilesHoldVolumes, CopiesKeepVolumes, LayerFilesHoldVolumes, MapsHaveLayers, MapsHaveTexts, TextsHoldMaps}
use Rattle.ig_volume.specs.Maps.{FitsOn, HoldEach, VoxelMap, map_on}
use Rattle.ig_volume.proofs.Chunks.{all_listed-values, chunk-writable, chunk_text-label}
use Rattle.ig_volume.proofs.Volumes.{chunk-of, if_true, in_space, label_by, map-volume, volume-by_chunks, volume_at-chunk}

-- ---- what a chunk's file gives
-- the chunk's text of the volume is there, and the files have it
record HasText (files : Reading) (place : Place) (volume : Labels) (k : ℕ) : Type 0 where
  text : List ℕ
  is : chunk_text place.geometry volume (cell (chunks_of place.geometry) k) ≡ Some text
  held : files (chunk_path place.dir (cell (chunks_of place.geometry) k)) ≡ Some text

chunk-gives : (files : Reading) (place : Place) (volume : Labels) (k x y z : ℕ) → geometry_fits place.geometry ≡ true → HasText files place volume k
    → IsIn (cell (chunks_of place.geometry) k) x y z → label_by files place (cell (chunks_of place.geometry) k) x y z ≡ volume x y z
chunk-gives files place volume k x y z fits h inside =
    let c = cell (chunks_of place.geometry) k in
    ap (λ found. label_in place.geometry c found x y z) h.held
    ∙ chunk_text-label place.geometry volume c h.text (chunk-writable place.geometry k fits) h.is x y z inside

texts-give : (files : Reading) (place : Place) (volume : Labels) → geometry_fits place.geometry ≡ true
    → ((k : ℕ) → k < cell_count (chunks_of place.geometry) → HasText files place volume k)
    → (x y z : ℕ) → IsIn (space_of place.geometry) x y z → volume_at files place x y z ≡ volume x y z
texts-give files place volume fits each =
    volume-by_chunks files place volume fits (λ k below x y z inside. chunk-gives files place volume k x y z fits (each k below) inside)

-- ---- the files of a layer
file-bytes : (path : List ℕ) (bytes : Option (List ℕ)) (file : File) → file_if path bytes ≡ Some file → bytes ≡ Some file.bytes
file-bytes path None file e = absurd (none-some file e)
file-bytes path (Some bytes) file e = ap (λ (f : File). Some f.bytes) (same_Some _ _ e)

text-of_file : (files : Reading) (place : Place) (volume : Labels) (k : ℕ) (file : File) → chunk_file place volume (cell (chunks_of place.geometry) k) ≡ Some file
    → files file.path ≡ Some file.bytes → HasText files place volume k
text-of_file files place volume k file is held =
    let c = cell (chunks_of place.geometry) k in
    record {
      text = file.bytes;
      is = file-bytes (chunk_path place.dir c) (chunk_text place.geometry volume c) file is;
      held = ap files (sym (file_if-path (chunk_path place.dir c) (chunk_text place.geometry volume c) file is)) ∙ held;
    }

each-held : (files : Reading) (list : List File) (file : File) → HoldEach files list → Contains list file → files file.path ≡ Some file.bytes
each-held files list file held among = All-contains (λ (f : File). files f.path ≡ Some f.bytes) list file held among

held-text : (files : Reading) (place : Place) (volume : Labels) (list : List File) → layer_files place volume ≡ Some list → HoldEach files list
    → (k : ℕ) → k < cell_count (chunks_of place.geometry) → HasText files place volume k
held-text files place volume list is held k below =
    let g = chunks_of place.geometry in
    let v = all_listed-has (λ j. chunk_file place volume (cell g j)) (cell_count g) list is k below in
    text-of_file files place volume k v.value v.is (each-held files list v.value held v.among)

pub layer_files-hold_volumes : LayerFilesHoldVolumes
layer_files-hold_volumes files place volume list fits is held = texts-give files place volume fits (held-text files place volume list is held)

pub box_files-hold_volumes : BoxFilesHoldVolumes
box_files-hold_volumes files place volume box list fits within is held x y z inside =
    let g = chunks_of place.geometry in
    let met = hull g box in
    let numbers = hull-numbers g box (chunks-IsGrid place.geometry fits) within x y z inside in
    let v = all_listed-has (λ j. chunk_file place volume (cell met j)) (cell_count met) list is (number_at met x y z) numbers.0 in
    let whole = in_space box (space_of place.geometry) x y z within inside in
    let own = chunk-of place x y z fits whole in
    let same : cell g own.number ≡ cell met (number_at met x y z) = own.is ∙ sym numbers.1 in
    let text = text-of_file files place volume own.number v.value (ap (chunk_file place volume) same ∙ v.is) (each-held files list v.value held v.among) in
    volume_at-chunk files place x y z whole
    ∙ ap (λ (chunk : Box3). label_by files place chunk x y z) (sym own.is)
    ∙ chunk-gives files place volume own.number x y z fits text own.inside

-- ---- the texts of a map
within-from_low : (b : Box3) (x y z : ℕ) → IsInside (size_of b) x y z → IsIn b (b.lo.x + x) (b.lo.y + y) (b.lo.z + z)
within-from_low b x y z i = record {
  x_from = omega arith;
  x_to = omega (arith, i.x_below);
  y_from = omega arith;
  y_to = omega (arith, i.y_below);
  z_from = omega arith;
  z_to = omega (arith, i.z_below);
}

if_some : (test : Bool) (text : List ℕ) → test ≡ true → (if test then Some text else None) ≡ Some text
if_some test text e = rw e refl

module _ (place : Place) (voxels : VoxelMap) (fits : geometry_fits place.geometry ≡ true) (fit : FitsOn place.geometry.width (space_of place.geometry) voxels) where
  -- a voxel of a chunk has the map's label
  map-label : (k x y z : ℕ) → k < cell_count (chunks_of place.geometry) → IsIn (cell (chunks_of place.geometry) k) x y z
      → IsIn (space_of place.geometry) x y z × (map_on (space_of place.geometry) voxels x y z ≡ Some (voxels x y z))
  map-label k x y z below inside =
      let g = chunks_of place.geometry in
      let whole = in_space (cell g k) (space_of place.geometry) x y z (cell-within g (chunks-IsGrid place.geometry fits) k below) inside in
      (whole, if_true (is_in (space_of place.geometry) x y z) (Some (voxels x y z)) (IsIn-is_in (space_of place.geometry) x y z whole))

  number-label : (k n : ℕ) → k < cell_count (chunks_of place.geometry) → n < count (size_of (cell (chunks_of place.geometry) k))
      → (label : ℕ) × (label < 256 ^ label_len place.geometry.width) × (label_by_number (map_on (space_of place.geometry) voxels) (cell (chunks_of place.geometry) k) n ≡ Some label)
  number-label k n below less =
      let g = chunks_of place.geometry in
      let c = cell g k in
      let w = cell-within g (chunks-IsGrid place.geometry fits) k below in
      let p = point_at (size_of c) n in
      let i = point_at-inside (size_of c) n (omega (arith, w.x_some)) (omega (arith, w.y_some)) less in
      let inside = within-from_low c p.x p.y p.z i in
      let m = map-label k (c.lo.x + p.x) (c.lo.y + p.y) (c.lo.z + p.z) below inside in
      (voxels (c.lo.x + p.x) (c.lo.y + p.y) (c.lo.z + p.z), fit (c.lo.x + p.x) (c.lo.y + p.y) (c.lo.z + p.z) m.0, m.1)

  -- each chunk of the map has a text
  pub map-text : (k : ℕ) → k < cell_count (chunks_of place.geometry)
      → (text : List ℕ) × (chunk_text place.geometry (map_on (space_of place.geometry) voxels) (cell (chunks_of place.geometry) k) ≡ Some text)
  map-text k below =
      let c = cell (chunks_of place.geometry) k in
      let f = label_by_number (map_on (space_of place.geometry) voxels) c in
      let n = count (size_of c) in
      let each = number-label k in
      let labels = all_listed-each f n (λ j less. (((each j below less).0), (each j below less).2)) in
      let values = all_listed-values f n labels.0 labels.1 in
      let small : AllFit place.geometry.width labels.0 = λ j less.
      let own = each j below (omega (arith, less, values.long)) in
      subst (λ label. label < 256 ^ label_len place.geometry.width) (same_Some _ _ (sym own.2 ∙ values.each j (omega (arith, less, values.long)))) own.1 in (
        text_in place.geometry.encoding place.geometry.width (size_of c) labels.0,
        ap (text_of place.geometry.encoding place.geometry.width (size_of c)) labels.1
            ∙ if_some (all_fit place.geometry.width labels.0) (text_in place.geometry.encoding place.geometry.width (size_of c) labels.0) (all_fit-from place.geometry.width labels.0 small),
      )

pub maps-have_texts : MapsHaveTexts
maps-have_texts place voxels fits fit k below = ap is_some (map-text place voxels fits fit k below).1

pub maps-have_layers : MapsHaveLayers
maps-have_layers place voxels fits fit =
    let g = chunks_of place.geometry in
    let volume = map_on (space_of place.geometry) voxels in
    ap is_some (all_listed-each (λ k. chunk_file place volume (cell g k)) (cell_count g)
    (λ k below.
    let t = map-text place voxels fits fit k below in
    (record { path = chunk_path place.dir (cell g k); bytes = t.0 }, ap (file_if (chunk_path place.dir (cell g k))) t.1))).1

pub texts-hold_maps : TextsHoldMaps
texts-hold_maps files place voxels fits fit held =
    let volume = map_on (space_of place.geometry) voxels in
    let gives = texts-give files place volume fits
    (λ k below. let t = map-text place voxels fits fit k below in record { text = t.0; is = t.1; held = held k below ∙ t.1 }) in
    map-volume files place voxels (λ x y z inside. gives x y z inside ∙ if_true (is_in (space_of place.geometry) x y z) (Some (voxels x y z)) (IsIn-is_in (space_of place.geometry) x y z inside))

-- ---- copies
if_false : (test : Bool) (x : Option ℕ) → test ≡ false → (if test then x else None) ≡ None
if_false test x e = rw e refl

same_by : (source dest : Place) (files copied : Reading) (x y z : ℕ) (test : Bool) → is_in (space_of dest.geometry) x y z ≡ test → is_in (space_of source.geometry) x y z ≡ test
    → (IsIn (space_of dest.geometry) x y z → volume_at copied dest x y z ≡ volume_at files source x y z) → volume_at copied dest x y z ≡ volume_at files source x y z
same_by source dest files copied x y z true there here same = same (is_in-IsIn (space_of dest.geometry) x y z there)
same_by source dest files copied x y z false there here same =
    if_false (is_in (space_of dest.geometry) x y z) (label_by copied dest (cell_at (chunks_of dest.geometry) x y z) x y z) there
    ∙ sym (if_false (is_in (space_of source.geometry) x y z) (label_by files source (cell_at (chunks_of source.geometry) x y z) x y z) here)

same_at : (source dest : Place) (files copied : Reading) → space_of source.geometry ≡ space_of dest.geometry
    → ((x y z : ℕ) → IsIn (space_of dest.geometry) x y z → volume_at copied dest x y z ≡ volume_at files source x y z)
    → (x y z : ℕ) → volume_at copied dest x y z ≡ volume_at files source x y z
same_at source dest files copied spaces same x y z =
    same_by source dest files copied x y z (is_in (space_of dest.geometry) x y z) refl (ap (λ (space : Box3). is_in space x y z) spaces) (same x y z)

pub copies-keep_volumes : CopiesKeepVolumes
copies-keep_volumes files copied source dest list fits spaces is held =
    λ i x y z. same_at source dest files copied spaces (layer_files-hold_volumes copied dest (volume_at files source) list fits is held) x y z i
