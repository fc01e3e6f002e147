-- The bytes of a record are those of exactly one sound stage.
use Rattle.std.specs.Prelude.{◌≡◌, ◌<◌, ◌^◌, ◌&&◌, ◌↔◌, ℕ, Bool, true, false, List, [], ◌∷◌, IfSome, Option, None, Some, option_and_then, if◌then◌else◌, codes}
use Rattle.std.proofs.Common.{refl, sym, ap, ◌∙◌, subst, le_trans, lit≤}
use Rattle.std.proofs.lemmas.Bool.{and_from, and_parts}
use Rattle.std.proofs.lemmas.Slice.Eq.{bytes_eq-Decides}
use Rattle.std.specs.List.{AllByRecursion}
use Rattle.std.specs.Str.{bytes_eq}
use Rattle.serde_json.specs.Data.{Data, array}
use Rattle.ig_space.specs.declared.place.Place.{Place}
use Rattle.ig_info.specs.Dest.{point_data}
use Rattle.ig_info.specs.Whole.{parsed}
use Rattle.ig_record.specs.declared.stage.Stage.{Stage}
use Rattle.ig_record.specs.ReadBack.{parsed-compact}
use Rattle.ig_record.specs.Reading.{number_of, record_in, recorded, stage_of}
use Rattle.ig_record.specs.Record.{info_data, place_data, places_data, record_data, record_text, scratch_data, IsRecord}
use Rattle.ig_record.specs.RecordBack.{array-back, info-back, place-back, places-back, point-back, record-back, scratch-back, IsReadable}
use Rattle.ig_record.specs.SmallNumbers.{geometry-small}
use Rattle.ig_record.specs.Sound.{is_sound}
use Rattle.ig_space.specs.Path.{is_path}
use Rattle.ig_record.specs.SoundFacts.{IsScale, IsScratch}
use Rattle.ig_record.specs.SoundStages.{IsSound-from}
use Rattle.ig_record.specs.StageBack.{stage-read, IsReadableStage}

-- ---- a sound stage can be read back

dests-readable : (dests : List Place) → AllByRecursion IsScale dests → AllByRecursion IsReadable dests
dests-readable [] h = tt
dests-readable (dest ∷ dests) h = (record { dir = h.0.dir.path; numbers = geometry-small dest.geometry h.0.fits }, dests-readable dests h.1)

scratch-readable : (scratch : Option (List ℕ)) → IfSome scratch IsScratch → IfSome scratch (λ dir. is_path dir ≡ true)
scratch-readable None h = tt
scratch-readable (Some dir) h = h.path

pub sound-readable : (s : Stage) → is_sound s ≡ true → IsReadableStage s
sound-readable s h =
    let all = IsSound-from s h in
    record {
      source = record { dir = all.layers.dir.path; numbers = geometry-small s.source.geometry all.fits };
      dests = dests-readable s.dests all.layers.row.scales;
      scratch = scratch-readable s.scratch all.layers.row.keeps;
      shape = all.shape.small;
      info = all.layers.row.puts;
    }

pub record-parsed : (n : ℕ) (s : Stage) → n < 2 ^ 64 → is_sound s ≡ true → parsed (record_text n s) ≡ Some (record_data n s)
record-parsed n s small h =
    let r = sound-readable s h in
    let dests = array-back (places_data s.dests) (places-back s.dests r.dests) in
    let back =
    record-back n s.kind (array (places_data s.dests)) (info_data s.info) (scratch_data s.scratch) (point_data s.shape) (place_data s.source) small dests (info-back s.info r.info)
    (scratch-back s.scratch r.scratch) (point-back s.shape r.shape) (place-back s.source r.source.dir r.source.numbers) in
    parsed-compact (record_data n s) back.plain (le_trans back.shallow (lit≤ tt)) back.back

-- ---- the stage of a record

recorded-is : (test : Bool) (s t : Stage) → (if test then Some s else None) ≡ Some t → (test ≡ true) × (s ≡ t)
recorded-is true s t e = (refl, cc)
recorded-is false s t e = absurd cc

recorded-IsRecord : (n : ℕ) (bytes : List ℕ) (s t : Stage) → recorded n bytes s ≡ Some t → IsRecord n t bytes
recorded-IsRecord n bytes s t e =
    let found = recorded-is (is_sound s && bytes_eq bytes (record_text n s)) s t e in
    let both = and_parts (is_sound s) (bytes_eq bytes (record_text n s)) found.0 in
    subst (λ x. IsRecord n x bytes) found.1 (record { sound = both.0; text = (bytes_eq-Decides bytes (record_text n s)).0 both.1 })

then-IsRecord : (n : ℕ) (bytes : List ℕ) (o : Option Stage) (t : Stage) → option_and_then (recorded n bytes) o ≡ Some t → IsRecord n t bytes
then-IsRecord n bytes None t e = absurd cc
then-IsRecord n bytes (Some s) t e = recorded-IsRecord n bytes s t e

parsed-IsRecord : (n : ℕ) (bytes : List ℕ) (o : Option Data) (t : Stage) → option_and_then (λ d. option_and_then (recorded n bytes) (stage_of d)) o ≡ Some t → IsRecord n t bytes
parsed-IsRecord n bytes None t e = absurd cc
parsed-IsRecord n bytes (Some d) t e = then-IsRecord n bytes (stage_of d) t e

-- the stage that is read is sound, and the bytes are its record
pub record_in-IsRecord : (n : ℕ) (s : Stage) (bytes : List ℕ) → record_in n bytes ≡ Some s → IsRecord n s bytes
unfolding record_in
record_in-IsRecord n s bytes e = parsed-IsRecord n bytes (parsed bytes) s e

record_in-text : (n : ℕ) (s : Stage) → n < 2 ^ 64 → is_sound s ≡ true → record_in n (record_text n s) ≡ Some s
unfolding record_in
record_in-text n s small h =
    ap (option_and_then (λ d. option_and_then (recorded n (record_text n s)) (stage_of d))) (record-parsed n s small h)
    ∙ ap (option_and_then (recorded n (record_text n s))) (stage-read n s (sound-readable s h))
    ∙ ap (λ b. if b then Some s else None) (and_from (is_sound s) _ h ((bytes_eq-Decides (record_text n s) (record_text n s)).1 refl))

-- and each record of a sound stage is read
pub IsRecord-record_in : (n : ℕ) (s : Stage) (bytes : List ℕ) → n < 2 ^ 64 → IsRecord n s bytes → record_in n bytes ≡ Some s
IsRecord-record_in n s bytes small h = ap (record_in n) h.text ∙ record_in-text n s small h.sound

pub record_in-exactly : (n : ℕ) (s : Stage) (bytes : List ℕ) → n < 2 ^ 64 → (record_in n bytes ≡ Some s) ↔ IsRecord n s bytes
record_in-exactly n s bytes small = (record_in-IsRecord n s bytes, IsRecord-record_in n s bytes small)

-- ---- different stages have different records, and so have different numbers

the_some : {A : Type 0} (a b : A) → Some a ≡ Some b → a ≡ b
the_some a b e = cc

pub record_text-injective : (m n : ℕ) (s t : Stage) → m < 2 ^ 64 → n < 2 ^ 64 → is_sound s ≡ true → is_sound t ≡ true → record_text m s ≡ record_text n t → (m ≡ n) × (s ≡ t)
record_text-injective m n s t small_m small_n sound_s sound_t e =
    let same : record_data m s ≡ record_data n t = the_some (record_data m s) (record_data n t) (sym (record-parsed m s small_m sound_s) ∙ ap parsed e ∙ record-parsed n t small_n sound_t) in
    let number : Some m ≡ Some n = ap (λ d. number_of d (codes "stage")) same in
    let stage : Some s ≡ Some t = sym (stage-read m s (sound-readable s sound_s)) ∙ ap stage_of same ∙ stage-read n t (sound-readable t sound_t) in
    (the_some m n number, the_some s t stage)
