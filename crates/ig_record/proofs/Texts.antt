-- The texts of records have no float.
use Rattle.std.proofs.Common.{◌≡◌, ◌≤◌, ℕ, true, false, List, [], ◌∷◌, length, map, take, Option, Some, None, Result, Ok, Err, IfSome, IsOk, MatchResult, IsUtf8, Vec, Global, refl, ap, sym, ◌∙◌}
use Rattle.std.proofs.lemmas.List.{take_all}
use Rattle.std.proofs.lemmas.Str.{IsUtf8-from_is_utf8}
use Rattle.std.specs.Str.{is_utf8}
use Rattle.serde_json.specs.Data.{Data, array, item}
use Rattle.serde_json.specs.View.{view as data_of, items_of}
use Rattle.serde_json.specs.Written.{compact_text, has_float, items_have_float}
use Rattle.serde_json.specs.declared.value.Value.{Value, Array}
use Rattle.serde_json.proofs.Views.{view-Array}
use Rattle.ig_space.specs.declared.geometry.Encoding.{Encoding}
use Rattle.ig_space.specs.declared.geometry.Encoding.TheVariants.{Raw, Cseg}
use Rattle.ig_space.specs.declared.place.Place.{Place}
use Rattle.ig_info.specs.Dest.{point_data}
use Rattle.ig_record.specs.declared.stage.InfoFile.{InfoFile}
use Rattle.ig_record.specs.declared.stage.Stage.{Stage}
use Rattle.ig_record.specs.Members.{record_of}
use Rattle.ig_record.specs.Record.{block_data, info_data, kind_word, place_data, places_data, record_data, record_text, scratch_data}
use Rattle.ig_record.specs.Sound.{is_sound}
use Rattle.ig_record.specs.SoundFacts.{IsPut}
use Rattle.ig_record.specs.SoundStages.{IsSound-from}

-- ---- UTF-8
pub utf8-ok : {X E : Type 0} (bytes : List ℕ) (r : Result X E) (same : X → List ℕ) (P : E → Type 0) → MatchResult r (λ x. (same x ≡ bytes) × IsUtf8 bytes) (λ e. (IsUtf8 bytes → ⊥) × P e) → is_utf8 bytes ≡ true → IsOk r
utf8-ok bytes (Ok x) same P h text = refl
utf8-ok bytes (Err e) same P h text = absurd (h.0 (IsUtf8-from_is_utf8 bytes text))

put-text : (info : Option InfoFile) → IfSome info IsPut → IfSome info (λ info. is_utf8 info.text ≡ true)
put-text None h = tt
put-text (Some info) h = h.text

pub sound-text : (s : Stage) → is_sound s ≡ true → IfSome s.info (λ info. is_utf8 info.text ≡ true)
sound-text s h = put-text s.info (IsSound-from s h).layers.row.puts

-- ---- places
places_data-map : (ps : List Place) → places_data ps ≡ items_of (map place_data ps)
places_data-map [] = refl
places_data-map (p ∷ ps) = ap (item (place_data p)) (places_data-map ps)

pub places-listed : (values : Vec Value Global) (ps : List Place) (n : ℕ) → length ps ≤ n → map data_of values.items ≡ map place_data (take n ps) → data_of (Array values) ≡ array (places_data ps)
places-listed values ps n all so_far =
    view-Array values ∙ ap (λ ds. array (items_of ds)) (so_far ∙ ap (map place_data) (take_all n ps all)) ∙ ap array (sym (places_data-map ps))

-- ---- no float
block-whole : (e : Encoding) → has_float (block_data e) ≡ false
block-whole Raw = refl
block-whole (Cseg block) = refl

place-whole : (p : Place) → has_float (place_data p) ≡ false
place-whole p = rw (block-whole p.geometry.encoding) refl

places-whole : (ps : List Place) → items_have_float (places_data ps) ≡ false
places-whole [] = refl
places-whole (p ∷ ps) = rw (place-whole p, places-whole ps) refl

info-whole : (info : Option InfoFile) → has_float (info_data info) ≡ false
info-whole None = refl
info-whole (Some info) = refl

scratch-whole : (scratch : Option (List ℕ)) → has_float (scratch_data scratch) ≡ false
scratch-whole None = refl
scratch-whole (Some dir) = refl

record_of-whole : (n : ℕ) (word : List ℕ) (dests info scratch shape source : Data) → has_float dests ≡ false → has_float info ≡ false → has_float scratch ≡ false → has_float shape ≡ false → has_float source ≡ false
    → has_float (record_of n word dests info scratch shape source) ≡ false
record_of-whole n word dests info scratch shape source a b c d e = rw (a, b, c, d, e) refl

-- the text of the record of these members
pub record-written : (n : ℕ) (s : Stage) (dests info scratch shape source d : Data) (bytes text : List ℕ)
    → dests ≡ array (places_data s.dests) → info ≡ info_data s.info → scratch ≡ scratch_data s.scratch → shape ≡ point_data s.shape → source ≡ place_data s.source
    → d ≡ record_of n (kind_word s.kind) dests info scratch shape source → (has_float d ≡ false → text ≡ compact_text d) → bytes ≡ text → bytes ≡ record_text n s
record-written n s dests info scratch shape source d bytes text a b c e f is written same =
    let whole =
    record_of-whole n (kind_word s.kind) (array (places_data s.dests)) (info_data s.info) (scratch_data s.scratch) (point_data s.shape) (place_data s.source) (places-whole s.dests) (info-whole s.info) (scratch-whole s.scratch) refl (place-whole s.source) in
    let record_is : d ≡ record_data n s = rw (is, a, b, c, e, f) refl in
    same ∙ written (ap has_float record_is ∙ whole) ∙ ap compact_text record_is
