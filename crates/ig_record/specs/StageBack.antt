-- The members of a record are read as the stage that it was written of.
use Rattle.std.specs.Prelude.{◌≡◌, ◌≤◌, ◌-◌, ◌*◌, ◌^◌, ℕ, true, nat_le, List, [], ◌∷◌, ◌++◌, Option, None, Some, IfSome, option_and_then}
use Rattle.std.proofs.Common.{arith, refl, sym, ap, ◌∙◌, le-leb, append_assoc, append-nil}
use Rattle.std.proofs.lemmas.Bool.{and_from}
use Rattle.std.specs.List.{AllByRecursion}
use Rattle.ig_space.specs.declared.point.Point.{Point}
use Rattle.ig_space.specs.declared.geometry.Width.{Width}
use Rattle.ig_space.specs.declared.geometry.Width.TheVariants.{W8, W16, W32, W64}
use Rattle.ig_space.specs.declared.geometry.Encoding.{Encoding}
use Rattle.ig_space.specs.declared.geometry.Encoding.TheVariants.{Raw, Cseg}
use Rattle.ig_space.specs.declared.geometry.Geometry.{Geometry}
use Rattle.ig_space.specs.declared.place.Place.{Place}
use Rattle.ig_space.specs.Geometry.{label_len}
use Rattle.ig_space.specs.Path.{is_path, within}
use Rattle.ig_info.specs.Dest.{point_data}
use Rattle.ig_info.specs.Parts.{side, triple}
use Rattle.ig_record.specs.declared.stage.Kind.{Kind}
use Rattle.ig_record.specs.declared.stage.Kind.TheVariants.{Xfer, Downsample, Faces, Links, Labels, Relabel, Count, Sum, Remove}
use Rattle.ig_record.specs.declared.stage.InfoFile.{InfoFile}
use Rattle.ig_record.specs.declared.stage.Stage.{Stage}
use Rattle.ig_record.specs.Reading.{◌>>=◌, as_path, encoding_of, file_of, geometry_of, info_of, kind_of, place_of, places_after, scratch_of, stage_of, three_of, width_of}
use Rattle.ig_record.specs.Record.{block_data, geometry_data, info_data, kind_word, place_data, places_data, record_data, scratch_data}
use Rattle.ig_record.specs.RecordBack.{IsReadable}
use Rattle.ig_record.specs.SmallNumbers.{IsSmallEncoding, IsSmallGeometry}
use Rattle.ig_record.specs.SoundFacts.{IsPut, IsSmall}

-- ---- points and geometries

word-within : (n : ℕ) → n ≤ 2 ^ 64 - 1 → within 0 (2 ^ 64 - 1) n ≡ true
word-within n h = and_from (nat_le 0 n) _ (le-leb 0 n (omega arith)) (le-leb n (2 ^ 64 - 1) h)

three-read : (p : Point) → IsSmall p → three_of (point_data p) ≡ Some p
unfolding triple side
three-read p h = rw (word-within p.x h.x, word-within p.y h.y, word-within p.z h.z) refl

encoding-read : (e : Encoding) → IsSmallEncoding e → encoding_of (block_data e) ≡ Some e
encoding-read Raw h = refl
encoding-read (Cseg block) h = rw (three-read block h) refl

width-read : (w : Width) → width_of (8 * label_len w) ≡ Some w
width-read W8 = refl
width-read W16 = refl
width-read W32 = refl
width-read W64 = refl

abbrev geometry_from : Option Encoding → Option Point → Option Point → Option Point → Option Width → Option Geometry
geometry_from e c o s w = do
  encoding ← e
  chunk ← c
  offset ← o
  size ← s
  width ← w
  Some (record { offset = offset; size = size; chunk = chunk; width = width; encoding = encoding })

pub geometry-read : (g : Geometry) → IsSmallGeometry g → geometry_of (geometry_data g) ≡ Some g
unfolding geometry_of
geometry-read g h =
    let encoding = encoding-read g.encoding h.encoding in
    let chunk = three-read g.chunk h.chunk in
    let offset = three-read g.offset h.offset in
    let size = three-read g.size h.size in
    let width = width-read g.width in
    λ i. geometry_from (encoding i) (chunk i) (offset i) (size i) (width i)

-- ---- places

path-read : (path : List ℕ) → is_path path ≡ true → as_path path ≡ Some path
path-read path h = rw h refl

abbrev place_from : Option (List ℕ) → Option Geometry → Option Place
place_from d g = do
  dir ← d
  geometry ← g
  Some (record { dir = dir; geometry = geometry })

pub place-read : (p : Place) → IsReadable p → place_of (place_data p) ≡ Some p
unfolding place_of
place-read p h =
    let dir = path-read p.dir h.dir in
    let geometry = geometry-read p.geometry h.numbers in
    λ i. place_from (dir i) (geometry i)

places-read : (earlier ps : List Place) → AllByRecursion IsReadable ps → places_after earlier (places_data ps) ≡ Some (earlier ++ ps)
places-read earlier [] h = ap Some (sym (append-nil earlier))
places-read earlier (p ∷ ps) h =
    ap (λ o. o >>= λ place. places_after (earlier ++ place ∷ []) (places_data ps)) (place-read p h.0) ∙ places-read (earlier ++ p ∷ []) ps h.1 ∙ ap Some (append_assoc earlier (p ∷ []) ps)

-- ---- the other members

abbrev file_from : Option (List ℕ) → Option (List ℕ) → Option InfoFile
file_from p t = do
  path ← p
  text ← t
  Some (record { path = path; text = text })

info-read : (info : Option InfoFile) → IfSome info IsPut → info_of (info_data info) ≡ Some info
unfolding file_of
info-read None h = refl
info-read (Some info) h = let path = path-read info.path h.path in λ i. option_and_then (λ file. Some (Some file)) (file_from (path i) (Some info.text))

scratch-read : (scratch : Option (List ℕ)) → IfSome scratch (λ dir. is_path dir ≡ true) → scratch_of (scratch_data scratch) ≡ Some scratch
scratch-read None h = refl
scratch-read (Some dir) h = rw (path-read dir h) refl

kind-read : (kind : Kind) → kind_of (kind_word kind) ≡ Some kind
kind-read Xfer = refl
kind-read Downsample = refl
kind-read Faces = refl
kind-read Links = refl
kind-read Labels = refl
kind-read Relabel = refl
kind-read Count = refl
kind-read Sum = refl
kind-read Remove = refl

-- ---- the stage

-- all its members can be read
pub record IsReadableStage (s : Stage) : Type 0 where
  pub source : IsReadable s.source
  pub dests : AllByRecursion IsReadable s.dests
  pub scratch : IfSome s.scratch (λ dir. is_path dir ≡ true)
  pub shape : IsSmall s.shape
  pub info : IfSome s.info IsPut

abbrev stage_from : Option (List Place) → Option (Option InfoFile) → Option Kind → Option (Option (List ℕ)) → Option Point → Option Place → Option Stage
stage_from d f k x z p = do
  dests ← d
  info ← f
  kind ← k
  scratch ← x
  shape ← z
  source ← p
  Some (record { kind = kind; source = source; dests = dests; scratch = scratch; shape = shape; info = info })

pub stage-read : (n : ℕ) (s : Stage) → IsReadableStage s → stage_of (record_data n s) ≡ Some s
unfolding stage_of
stage-read n s h =
    let dests = places-read [] s.dests h.dests in
    let info = info-read s.info h.info in
    let kind = kind-read s.kind in
    let scratch = scratch-read s.scratch h.scratch in
    let shape = three-read s.shape h.shape in
    let source = place-read s.source h.source in
    λ i. stage_from (dests i) (info i) (kind i) (scratch i) (shape i) (source i)
