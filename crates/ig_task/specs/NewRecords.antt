-- The record of a new stage may be put after those of the stages that are known, and opens a stage without seal.
use Rattle.std.specs.Prelude.{◌≡◌, ◌⊎◌, ◌<◌, ◌^◌, ℕ, zero, suc, true, false, is_some, List, [], ◌∷◌, ◌++◌, Option, None, Some, IsSome, length, slice_get, option_map, option_and_then, refl}
use Rattle.std.specs.List.{All}
use Rattle.std.proofs.Common.{inl, inr, arith, ap, sym, subst, lt-ltb, ◌∙◌}
use Rattle.std.proofs.lemmas.Bool.{cases_eq}
use Rattle.ig_defs.specs.declared.step.Act.TheVariants as act
use Rattle.ig_defs.specs.Files.{Files, file_at}
use Rattle.ig_defs.specs.Log.{after}
use Rattle.ig_record.specs.declared.stage.InfoFile.{InfoFile}
use Rattle.ig_record.specs.declared.stage.Stage.{Stage}
use Rattle.ig_record.specs.ReadingLaws.{IsRecord-record_in}
use Rattle.ig_record.specs.Record.{record_text}
use Rattle.ig_record.specs.Sound.{is_sound}
use Rattle.ig_record.specs.Columns.{output_dirs, removed_dir}
use Rattle.ig_meaning.specs.Making.{fresh_info}
use Rattle.ig_meaning.specs.QueueMaking.{record_path}
use Rattle.ig_meaning.specs.Taken.{taken_by}
use Rattle.ig_rule.specs.Facts.{Facts, KindLaws, LiesInOne}
use Rattle.ig_rule.specs.QueueFiles.{Record, Seal, queue_of}
use Rattle.ig_rule.specs.QueueSteps.{Sets, put_sets}
use Rattle.ig_rule.specs.Room.{IsOutsideQueue}
use Rattle.ig_rule.specs.Rule.{a_record, IsLast, PutsRecord}
use Rattle.ig_rule.specs.SoundKept.{sound_kept}
use Rattle.ig_rule.specs.SoundRecord.{record_other, seal_no_record}
use Rattle.ig_rule.specs.Stages.{Sealed, stages_in}
use Rattle.ig_task.specs.Facts.{facts_of, stage_reader}
use Rattle.ig_task.specs.Maker.{KnowsStages}
use Rattle.ig_task.specs.MakerLaws.{count_is, no_seal_beyond, none_beyond}
use Rattle.ig_task.specs.Rooms.{room-from}

-- ---- the put

-- the record of a sound stage is read as that stage
pub record-read : (n : ℕ) (s : Stage) → n < 10 ^ 4 → is_sound s ≡ true → stage_reader n (record_text n s) ≡ Some (facts_of n s)
unfolding stage_reader
record-read n s few sound = ap (option_map (facts_of n)) (IsRecord-record_in n s (record_text n s) (omega (arith, few)) (record { sound = sound; text = refl }))

text_there : (read : List ℕ → Option Facts) (o : Option (List ℕ)) → IsSome (option_and_then read o) → IsSome o
text_there read (Some text) there = refl
text_there read None there = there

-- each known stage has its record
record_there : (q : List ℕ) (stages : List Stage) (files : Files) → KnowsStages q stages files → (n : ℕ) → n < length stages → IsSome (queue_of q files (Record n))
record_there q stages files k n below =
    text_there (stage_reader n) (queue_of q files (Record n)) (k.sound.numbered.present n (let e = count_is q stages files k in omega (arith, e, below)))

-- Where all stages before it are sealed, the record of a stage that has room may be put.
pub puts_record : (q : List ℕ) (stages : List Stage) (s : Stage) (files : Files) → KnowsStages q stages files → All (λ t. is_sound t ≡ true) stages → is_sound s ≡ true → is_some (removed_dir s) ≡ false
    → taken_by stages s ≡ None → IsOutsideQueue q (facts_of (length stages) s) → ((path : List ℕ) → LiesInOne (output_dirs s) path → file_at files path ≡ None)
    → ((info : InfoFile) → fresh_info s ≡ Some info → file_at files info.path ≡ None) → length stages < 10 ^ 4 → ((n : ℕ) → n < length stages → Sealed (queue_of q files) n)
    → PutsRecord stage_reader (queue_of q files) q files (record_path q (length stages)) (record_text (length stages) s)
puts_record q stages s files k all sound makes free outside empty fresh few sealed = record {
  number = length stages;
  stage = facts_of (length stages) s;
  path_is = refl;
  before = λ n below. (record_there q stages files k n below, sealed n below);
  no_other = none_beyond q stages files k;
  few = few;
  text = record-read (length stages) s few sound;
  room = room-from q stages s files (length stages) k all sound makes free outside empty fresh;
}

-- ---- after the put

-- Stage n is the last one that is recorded, and has no seal.
pub record IsNewest (q : List ℕ) (files : Files) (n : ℕ) (s : Facts) : Type 0 where
  pub last : IsLast (stages_in stage_reader q files) (queue_of q files) n s
  pub unsealed : queue_of q files (Seal n) ≡ None

record_is : (m n : ℕ) → Record m ≡ Record n → m ≡ n
record_is m n e = cc

after_number : (m n : ℕ) → n < m → Record m ≡ Record n → ⊥
after_number m n later e = let same = record_is m n e in omega (arith, later, same)

-- a put of the record touches no other file of the queue
record_sets : (q : List ℕ) (files : Files) (n : ℕ) (bytes : List ℕ) → n < 10 ^ 4 → Sets (Record n) bytes (queue_of q files) (queue_of q (after files (act.Put (record_path q n) bytes)))
record_sets q files n bytes few = put_sets q files (Record n) bytes (lt-ltb n (10 ^ 4) few)

-- The put of a new stage's record opens it.
pub opens_record : (q : List ℕ) (stages : List Stage) (s : Stage) (files : Files) → KnowsStages q stages files → is_sound s ≡ true → length stages < 10 ^ 4
    → IsNewest q (after files (act.Put (record_path q (length stages)) (record_text (length stages) s))) (length stages) (facts_of (length stages) s)
opens_record q stages s files k sound few =
    let n = length stages in
    let bytes = record_text n s in
    let old = queue_of q files in
    let new = queue_of q (after files (act.Put (record_path q n) bytes)) in
    let sets = record_sets q files n bytes few in
    record {
      last = record {
        is = ap (option_and_then (stage_reader n)) sets.at ∙ record-read n s few sound;
        none_after = λ m later. record_other n bytes old new sets (Record m) (after_number m n later) ∙ none_beyond q stages files k m (omega (arith, later));
      };
      unsealed = record_other n bytes old new sets (Seal n) (seal_no_record n n) ∙ no_seal_beyond q stages files k n (omega arith);
    }

-- ---- what is known after it

slice_get-last : (stages : List Stage) (s : Stage) → slice_get (stages ++ s ∷ []) (length stages) ≡ Some s
slice_get-last [] s = refl
slice_get-last (t ∷ stages) s = slice_get-last stages s

slice_get-other : (stages : List Stage) (s : Stage) (n : ℕ) → (n ≡ length stages → ⊥) → slice_get (stages ++ s ∷ []) n ≡ slice_get stages n
slice_get-other [] s zero other = absurd (other refl)
slice_get-other [] s (suc n) other = refl
slice_get-other (t ∷ stages) s zero other = refl
slice_get-other (t ∷ stages) s (suc n) other = slice_get-other stages s n (λ e. other (ap suc e))

-- The stages that are known after the put are those before it and the new one.
pub knows_record : KindLaws stage_reader → (q : List ℕ) (stages : List Stage) (s : Stage) (files : Files) → KnowsStages q stages files → is_sound s ≡ true → length stages < 10 ^ 4
    → PutsRecord stage_reader (queue_of q files) q files (record_path q (length stages)) (record_text (length stages) s)
    → KnowsStages q (stages ++ s ∷ []) (after files (act.Put (record_path q (length stages)) (record_text (length stages) s)))
knows_record kinds q stages s files k sound few may = record {
  sound = sound_kept stage_reader kinds q files (act.Put (record_path q (length stages)) (record_text (length stages) s)) k.sound (a_record may);
  recorded = λ n. at n (cases_eq n (length stages));
}
  where
    new : Files
    new = after files (act.Put (record_path q (length stages)) (record_text (length stages) s))

    sets : Sets (Record (length stages)) (record_text (length stages) s) (queue_of q files) (queue_of q new)
    sets = record_sets q files (length stages) (record_text (length stages) s) few

    at : (n : ℕ) → (n ≡ length stages) ⊎ (n ≡ length stages → ⊥) → stages_in stage_reader q new n ≡ option_map (facts_of n) (slice_get (stages ++ s ∷ []) n)
    at n (inl e) =
        subst (λ m. stages_in stage_reader q new m ≡ option_map (facts_of m) (slice_get (stages ++ s ∷ []) m)) (sym e)
        ((opens_record q stages s files k sound few).last.is ∙ ap (option_map (facts_of (length stages))) (sym (slice_get-last stages s)))
    at n (inr other) =
        ap (option_and_then (stage_reader n))
        (record_other (length stages) (record_text (length stages) s) (queue_of q files) (queue_of q new) sets (Record n) (λ e. other (record_is n (length stages) e)))
        ∙ k.recorded n ∙ ap (option_map (facts_of n)) (sym (slice_get-other stages s n other))
