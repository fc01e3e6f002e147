-- What is wanted lasts while no chunk of the source is changed or taken away.
use Rattle.std.specs.Prelude.{◌≡◌, ◌+◌, ℕ, Bool, true, false, if◌then◌else◌, List, [], ◌∷◌, Option, None, Some, option_and_then, option_map, refl}
use Rattle.std.proofs.Common.{ap, sym, ◌∙◌}
use Rattle.std.proofs.lemmas.Option.{none-some}
use Rattle.ig_space.specs.declared.point.Box3.{Box3}
use Rattle.ig_space.specs.declared.place.Place.{Place}
use Rattle.ig_space.specs.Cells.{cell-number_at, is_in-IsIn, number_at-below}
use Rattle.ig_space.specs.CellBoxes.{chunks-IsGrid}
use Rattle.ig_space.specs.Chunk.{chunk_path}
use Rattle.ig_space.specs.Geometry.{count, geometry_fits}
use Rattle.ig_space.specs.Grid.{IsIn, cell_at, chunks_of, is_in, number_at, point_at, size_of, space_of}
use Rattle.ig_layer.specs.Layer.{Labels, Reading, label_in, volume_at}
use Rattle.ig_layer.specs.Texts.{label_by_number, labels_in}
use Rattle.ig_cutout.specs.declared.types.Output.{Output}
use Rattle.ig_record.specs.declared.stage.Stage.{Stage}
use Rattle.ig_record.specs.Columns.{box_read}
use Rattle.ig_meaning.specs.ChunkPlaces.{is_chunk_of-is}
use Rattle.ig_meaning.specs.Lists.{all_listed-grows}
use Rattle.ig_meaning.specs.Task.{labels_given, labels_within}
use Rattle.ig_meaning.specs.Wants.{Want, is_chunk_of, output_by, outputs_at, put_at, text_by, wanted_outputs, wanted_text, wants_by, with_first}

-- ---- what is there stays there
-- through a function that makes nothing of nothing
map_lasts : {A B : Type 0} (f : Option A → Option B) → f None ≡ None → (found later : Option A) → ((x : A) → found ≡ Some x → later ≡ Some x) → (y : B) → f found ≡ Some y → f later ≡ Some y
map_lasts f none None later finds y e = absurd (none-some y (sym none ∙ e))
map_lasts f none (Some x) later finds y e = ap f (finds x refl) ∙ e

and_then_lasts : {A B : Type 0} (f : A → Option B) (found later : Option A) → ((x : A) → found ≡ Some x → later ≡ Some x) → (y : B) → option_and_then f found ≡ Some y → option_and_then f later ≡ Some y
and_then_lasts f None later finds y e = absurd (none-some y e)
and_then_lasts f (Some x) later finds y e = ap (option_and_then f) (finds x refl) ∙ e

-- through a test
if_lasts : {A : Type 0} (test : Bool) (a b later other : Option A) (y : A) → (test ≡ true → a ≡ Some y → later ≡ Some y) → (b ≡ Some y → other ≡ Some y) → (if test then a else b) ≡ Some y
    → (if test then later else other) ≡ Some y
if_lasts true a b later other y first second e = first refl e
if_lasts false a b later other y first second e = second e

-- ---- volumes
-- no chunk of the place is changed or taken away
abbrev pub KeepsChunksOf : Place → Reading → Reading → Type 0
KeepsChunksOf place old new = (path bytes : List ℕ) → is_chunk_of place path ≡ true → old path ≡ Some bytes → new path ≡ Some bytes

-- each voxel with a label keeps it
abbrev pub KeepsLabels : Labels → Labels → Type 0
KeepsLabels old new = (x y z label : ℕ) → old x y z ≡ Some label → new x y z ≡ Some label

chunk-of_voxel : (place : Place) → geometry_fits place.geometry ≡ true → (x y z : ℕ) → IsIn (space_of place.geometry) x y z → is_chunk_of place (chunk_path place.dir (cell_at (chunks_of place.geometry) x y z)) ≡ true
chunk-of_voxel place fits x y z inside =
    let g = chunks_of place.geometry in
    let grid = chunks-IsGrid place.geometry fits in
    is_chunk_of-is place fits (chunk_path place.dir (cell_at g x y z))
    (record { box = cell_at g x y z; at = record { number = number_at g x y z; below = number_at-below g grid x y z inside; box_is = cell-number_at g grid x y z inside; path_is = refl } })

pub volume-lasts : (place : Place) → geometry_fits place.geometry ≡ true → (old new : Reading) → KeepsChunksOf place old new → KeepsLabels (volume_at old place) (volume_at new place)
volume-lasts place fits old new keeps x y z label =
    let c = cell_at (chunks_of place.geometry) x y z in
    let path = chunk_path place.dir c in
    if_lasts (is_in (space_of place.geometry) x y z) (label_in place.geometry c (old path) x y z) None (label_in place.geometry c (new path) x y z) None label
    (λ inside. map_lasts (λ found. label_in place.geometry c found x y z) refl (old path) (new path)
    (λ bytes. keeps path bytes (chunk-of_voxel place fits x y z (is_in-IsIn (space_of place.geometry) x y z inside))) label)
    (λ none. none)

-- ---- texts
pub labels-last : (old new : Labels) → KeepsLabels old new → (box : Box3) (labels : List ℕ) → labels_in old box ≡ Some labels → labels_in new box ≡ Some labels
labels-last old new keeps box labels =
    let size = size_of box in
    all_listed-grows (label_by_number old box) (label_by_number new box)
    (λ k label. keeps (box.lo.x + (point_at size k).x) (box.lo.y + (point_at size k).y) (box.lo.z + (point_at size k).z) label) (count size) labels

pub text-lasts : (old new : Labels) → KeepsLabels old new → (want : Option Want) (bytes : List ℕ) → text_by old want ≡ Some bytes → text_by new want ≡ Some bytes
text-lasts old new keeps None bytes e = absurd (none-some bytes e)
text-lasts old new keeps (Some want) bytes e = and_then_lasts want.text (labels_in old want.box) (labels_in new want.box) (labels-last old new keeps want.box) bytes e

-- So the wanted text of a stage lasts.
pub wanted-lasts : (s : Stage) → geometry_fits s.source.geometry ≡ true → (old new : Reading) (path bytes : List ℕ) → KeepsChunksOf s.source old new → wanted_text s old path ≡ Some bytes
    → wanted_text s new path ≡ Some bytes
wanted-lasts s fits old new path bytes keeps =
    text-lasts (volume_at old s.source) (volume_at new s.source) (volume-lasts s.source fits old new keeps) (wants_by s.kind s path) bytes

-- ---- outputs
output-lasts : (old new : Labels) → KeepsLabels old new → (path : List ℕ) (want : Option Want) (output : Output) → output_by old path want ≡ Some output → output_by new path want ≡ Some output
output-lasts old new keeps path None output e = e
output-lasts old new keeps path (Some want) output e =
    map_lasts (option_map (put_at path)) refl (text_by old (Some want)) (text_by new (Some want)) (text-lasts old new keeps (Some want)) output e

first-lasts : {A : Type 0} (first later : Option A) (rest more : Option (List A)) (xs : List A) → ((x : A) → first ≡ Some x → later ≡ Some x) → ((ys : List A) → rest ≡ Some ys → more ≡ Some ys)
    → with_first first rest ≡ Some xs → with_first later more ≡ Some xs
first-lasts None later rest more xs firsts rests e = absurd (none-some xs e)
first-lasts (Some x) later None more xs firsts rests e = absurd (none-some xs e)
first-lasts (Some x) later (Some ys) more xs firsts rests e = ap (λ o. with_first o more) (firsts x refl) ∙ ap (with_first (Some x)) (rests ys refl) ∙ e

pub outputs-last : (s : Stage) (old new : Labels) → KeepsLabels old new → (paths : List (List ℕ)) (outputs : List Output) → outputs_at s old paths ≡ Some outputs → outputs_at s new paths ≡ Some outputs
outputs-last s old new keeps [] outputs e = e
outputs-last s old new keeps (path ∷ paths) outputs e =
    first-lasts (output_by old path (wants_by s.kind s path)) (output_by new path (wants_by s.kind s path)) (outputs_at s old paths) (outputs_at s new paths) outputs
    (output-lasts old new keeps path (wants_by s.kind s path)) (outputs-last s old new keeps paths) e

-- ---- the labels of a task
label-keeps : (volume : Labels) (box : Option Box3) → KeepsLabels (labels_within box volume) volume
label-keeps volume None x y z label e = absurd (none-some label e)
label-keeps volume (Some box) x y z label e = if_some (is_in box x y z) (volume x y z) label e
  where
    if_some : (inside : Bool) (found : Option ℕ) (label : ℕ) → (if inside then found else None) ≡ Some label → found ≡ Some label
    if_some true found label e = e
    if_some false found label e = absurd (none-some label e)

pub within-keeps : (s : Stage) (k : ℕ) (given : Reading) → KeepsLabels (labels_given s k given) (volume_at given s.source)
within-keeps s k given = label-keeps (volume_at given s.source) (box_read s.kind s k)
