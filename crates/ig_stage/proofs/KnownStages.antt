-- A maker that has listed and read the records of its queue knows all recorded stages.
use Rattle.std.proofs.Common.{arith, inl, inr, ◌⊎◌, ◌≡◌, ◌≤◌, ◌<◌, ◌+◌, ◌∙◌, ℕ, zero, suc, max, Bool, true, false, List, [], ◌∷◌, Option, None, Some, is_some, if◌then◌else◌, IfOk, Contains, length, get_or, slice_get, Result, Ok, Err, refl, ap, sym, subst, true≢false, length-append}
use Rattle.std.specs.Prelude.{option_map, option_and_then}
use Rattle.std.proofs.lemmas.Bool.Decides.{nat_tests}
use Rattle.std.proofs.lemmas.List.Elements.{Contains-append_cases, Contains-push_cases}
use Rattle.std.proofs.lemmas.Option.{slice_get_cases, slice_get_past}
use Rattle.ig_defs.specs.declared.step.Step.{Step}
use Rattle.ig_defs.specs.Files.{Files, file_at}
use Rattle.ig_defs.specs.Log.{Log, ByOthers, after, files_of}
use Rattle.ig_defs.specs.Names.{IsNameIn, Stands, StandsThroughout}
use Rattle.ig_defs.specs.QueueNames.{stage_file, stage_fits}
use Rattle.ig_defs.specs.QueueNameLaws.{is_segment-stage_file, length-stage_file}
use Rattle.ig_meaning.specs.QueueMaking.{beyond, record_count, record_path, stage_named, stages_dir, stages_of}
use Rattle.ig_record.specs.Reading.{record_in}
use Rattle.ig_record.specs.declared.stage.Stage.{Stage}
use Rattle.ig_rule.specs.Facts.{KindLaws}
use Rattle.ig_rule.specs.QueueFiles.{Record, queue_of}
use Rattle.ig_rule.specs.Sound.{Sound}
use Rattle.ig_rule.specs.Stages.{stages_in}
use Rattle.ig_defs.specs.Turns.{Listed}
use Rattle.ig_rule.specs.WentOn.{went_of}
use Rattle.ig_rule.specs.declared.role.Role.TheVariants.{Maker}
use Rattle.ig_space.specs.ChunkNames.{is_path-segment}
use Rattle.ig_space.specs.Path.{is_path, joined}
use Rattle.ig_space.specs.Segments.{is_path-joined}
use Rattle.ig_task.specs.Facts.{facts_of, stage_reader}
use Rattle.ig_task.specs.Maker.{KeepsStages, KnowsStages, Others}
use Rattle.ig_task.specs.MakerLaws.{stages_keep}
use Rattle.ig_task.specs.Pipeline.{is_allowed}
use Rattle.ig_task.specs.declared.pipeline.Pipeline.{Pipeline}
use Rattle.ig_stage.specs.Recorded.{FindsRecords, GivesStages, IsMaking}
use Rattle.ig_stage.specs.declared.error.MakeError.{MakeError}
use Rattle.ig_stage.proofs.KnownRecords.{keeps_then, making_keeps, still_making}
use Rattle.ig_stage.proofs.RecordTexts.{split, stages_of-length}
use Rattle.ig_queue.specs.FilesAt.{record_path_is}
use Rattle.ig_stage.proofs.StageNames.{named_is}

-- ---- a recorded stage is listed

pub is_name : (dir : List ℕ) (n : ℕ) → is_path dir ≡ true → length dir ≤ 107 → IsNameIn dir (stage_file n)
is_name dir n is short =
    let segment = is_segment-stage_file n in
    let len : length (stage_file n) ≡ 9 = length-stage_file n in
    let all : length (joined dir (stage_file n)) ≡ length dir + suc (length (stage_file n)) = length-append dir (47 ∷ stage_file n) in
    record { segment = segment; path = is_path-joined dir (stage_file n) is (is_path-segment (stage_file n) (omega (arith, len)) segment) (omega (arith, all, len, short)) }

pub held : (b : Bool) (o : Option (List ℕ)) (text : List ℕ) → (if b then o else None) ≡ Some text → (b ≡ true) × (o ≡ Some text)
held true o text is = (refl, is)
held false o text is = absurd (true≢false (sym (ap is_some is)))

-- it stands there
pub stands : (q : List ℕ) (n : ℕ) (text dir : List ℕ) (files : Files) → dir ≡ stages_dir q → IsNameIn dir (stage_file n) → queue_of q files (Record n) ≡ Some text → Stands files dir (stage_file n)
stands q n text dir files is named there =
    let at : joined dir (stage_file n) ≡ record_path q n = ap (λ d. joined d (stage_file n)) is ∙ record_path_is q (stage_file n) n refl in
    record { named = named; there = ap is_some (ap (file_at files) at ∙ (held (stage_fits n) (file_at files (record_path q n)) text there).1) }

-- it stands there all the while
stands_throughout : KindLaws stage_reader → (q : List ℕ) (n : ℕ) (text dir : List ℕ) → dir ≡ stages_dir q → IsNameIn dir (stage_file n)
    → (first files : Files) (others : List Step) → ByOthers (Others q) files others → queue_of q first (Record n) ≡ Some text → KeepsStages q first files → StandsThroughout files others dir (stage_file n)
stands_throughout kinds q n text dir is named first files [] by there keeps = stands q n text dir files is named (keeps.same (Record n) refl ∙ there)
stands_throughout kinds q n text dir is named first files (step ∷ others) by there keeps = (
  stands q n text dir files is named (keeps.same (Record n) refl ∙ there),
  stands_throughout kinds q n text dir is named first (after files step.act) others by.2 there (stages_keep kinds q first files step.act by.1 keeps),
)

listed_record : (q : List ℕ) (rule : Pipeline) (old mid : Log) (dir : List ℕ) (given : List (List ℕ)) (n : ℕ) (text : List ℕ) → IsMaking rule q (files_of old) → Listed (is_allowed rule) old mid dir given
    → dir ≡ stages_dir q → is_path dir ≡ true → length dir ≤ 107 → queue_of q (files_of old) (Record n) ≡ Some text → Contains given (stage_file n)
listed_record q rule old mid dir given n text m t is path short there =
    t.names.each (stage_file n)
    (stands_throughout m.kinds q n text dir is (is_name dir n path short) (files_of old) (files_of old) t.acted.others
    (subst (λ r. ByOthers (is_allowed r) (files_of old) t.acted.others) m.is t.acted.by) there (record { sound = m.sound; same = λ x none. refl }))

-- ---- so it is counted

first_or_later : (x : List ℕ) (xs : List (List ℕ)) (name : List ℕ) → Contains (x ∷ xs) name → (x ≡ name) ⊎ Contains xs name
first_or_later x xs name h = by_part (Contains-append_cases (x ∷ []) xs name h)
  where
    only : Contains [] name ⊎ (x ≡ name) → x ≡ name
    only (inl h) = absurd (omega (arith, h.1))
    only (inr e) = e

    by_part : Contains (x ∷ []) name ⊎ Contains xs name → (x ≡ name) ⊎ Contains xs name
    by_part (inl h) = inl (only (Contains-push_cases [] x name h))
    by_part (inr h) = inr h

beyond_one : (n count : ℕ) → n < max (suc n) count
beyond_one n count = grind (arith, nat_tests)

beyond_rest : (n count m : ℕ) → n < count → n < max (suc m) count
beyond_rest n count m below = grind (arith, nat_tests, below)

beyond_later : (named : Option ℕ) (n count : ℕ) → n < count → n < beyond named count
beyond_later None n count below = below
beyond_later (Some m) n count below = beyond_rest n count m below

counted_by : (name : List ℕ) (given : List (List ℕ)) (n : ℕ) → stage_fits n ≡ true → (Contains given (stage_file n) → n < record_count given)
    → (name ≡ stage_file n) ⊎ Contains given (stage_file n) → n < record_count (name ∷ given)
counted_by name given n fits later (inl is) = subst (λ o. n < beyond o (record_count given)) (sym (named_is name n fits is)) (beyond_one n (record_count given))
counted_by name given n fits later (inr among) = beyond_later (stage_named name) n (record_count given) (later among)

pub counted : (given : List (List ℕ)) (n : ℕ) → stage_fits n ≡ true → Contains given (stage_file n) → n < record_count given
counted [] n fits among = absurd (omega (arith, among.1))
counted (name ∷ given) n fits among = counted_by name given n fits (counted given n fits) (first_or_later name given (stage_file n) among)

-- ---- the stage of a text

pub record StageAt (m n : ℕ) (text : List ℕ) (stages : List Stage) : Type 0 where
  pub stage : Stage
  pub is : slice_get stages n ≡ Some stage
  pub given : record_in (m + n) text ≡ Some stage

stage_at : (q : List ℕ) (m n : ℕ) (texts : List (List ℕ)) (stages : List Stage) (text : List ℕ) → stages_of q m texts ≡ Ok stages → n < length texts → slice_get texts n ≡ Some text → StageAt m n text stages
stage_at q m n [] stages text e below is = absurd (omega (arith, below))
stage_at q m zero (t ∷ texts) stages text e below is =
    let s = split q m t texts stages e in
    let same : t ≡ text = cc in
    record {
      stage = s.first;
      is = ap (λ all. slice_get all 0) s.are;
      given = ap (λ k. record_in k text) (omega arith) ∙ ap (record_in m) (sym same) ∙ s.given;
    }
stage_at q m (suc n) (t ∷ texts) stages text e below is =
    let s = split q m t texts stages e in
    let later = stage_at q (suc m) n texts s.rest text s.others (omega (arith, below)) is in
    record {
      stage = later.stage;
      is = ap (λ all. slice_get all (suc n)) s.are ∙ later.is;
      given = ap (λ k. record_in k text) (omega arith) ∙ later.given;
    }

-- what the rule reads of a record
read_is : (q : List ℕ) (files : Files) (n : ℕ) (text : List ℕ) (s : Stage) → queue_of q files (Record n) ≡ Some text → record_in n text ≡ Some s → stages_in stage_reader q files n ≡ Some (facts_of n s)
unfolding stage_reader
read_is q files n text s there is = ap (option_and_then (stage_reader n)) there ∙ ap (option_map (facts_of n)) is

-- ---- all of them

module _ (rule : Pipeline) (q : List ℕ) (old mid : Log) (new : Files) (dir : List ℕ) (given texts : List (List ℕ)) (stages : List Stage)
    (m : IsMaking rule q (files_of old)) (t : Listed (is_allowed rule) old mid dir given) (is : dir ≡ stages_dir q) (path : is_path dir ≡ true) (short : length dir ≤ 107)
    (first : KeepsStages q (files_of old) (files_of mid)) (finds : FindsRecords q (files_of mid) new texts) (counts : length texts ≡ record_count given)
    (parsed : stages_of q 0 texts ≡ Ok stages) where
  keeps : KeepsStages q (files_of old) new
  keeps = keeps_then q (files_of old) (files_of mid) new first finds.keeps

  below_count : (n : ℕ) (text : List ℕ) → queue_of q (files_of old) (Record n) ≡ Some text → n < length texts
  below_count n text there =
      let fits = (held (stage_fits n) (file_at (files_of old) (record_path q n)) text there).0 in
      let less = counted given n fits (listed_record q rule old mid dir given n text m t is path short there) in
      omega (arith, less, counts)

  none_old : (n : ℕ) (o : Option (List ℕ)) → queue_of q (files_of old) (Record n) ≡ o → length texts ≤ n → queue_of q (files_of old) (Record n) ≡ None
  none_old n None there beyond = there
  none_old n (Some text) there beyond = let less = below_count n text there in absurd (omega (arith, less, beyond))

  recorded_at : (n : ℕ) → ((text : List ℕ) × (n < length texts) × (slice_get texts n ≡ Some text) × (get_or texts n text ≡ text)) ⊎ ((length texts ≤ n) × (slice_get texts n ≡ None))
      → stages_in stage_reader q new n ≡ option_map (facts_of n) (slice_get stages n)
  recorded_at n (inl h) =
      let s = stage_at q 0 n texts stages h.0 parsed h.1 h.2 in
      read_is q new n h.0 s.stage (finds.keeps.same (Record n) refl ∙ finds.texts_are n h.0 h.2) (ap (λ k. record_in k h.0) (omega arith) ∙ s.given)
      ∙ ap (option_map (facts_of n)) (sym s.is)
  recorded_at n (inr h) =
      let many = stages_of-length q 0 texts stages parsed in
      ap (option_and_then (stage_reader n)) (keeps.same (Record n) refl ∙ none_old n (queue_of q (files_of old) (Record n)) refl h.0)
      ∙ ap (option_map (facts_of n)) (sym (slice_get_past stages n (omega (arith, many, h.0))))

  pub knows_all : KnowsStages q stages new
  knows_all = record { sound = keeps.sound; recorded = λ n. recorded_at n (slice_get_cases texts n).1 }

-- by the result of the parsing
pub knows_result : (rule : Pipeline) (q : List ℕ) (old mid : Log) (new : Files) (dir : List ℕ) (given texts : List (List ℕ)) (result : Result (List Stage) MakeError)
    → IsMaking rule q (files_of old) → Listed (is_allowed rule) old mid dir given → dir ≡ stages_dir q → is_path dir ≡ true → length dir ≤ 107
    → KeepsStages q (files_of old) (files_of mid) → FindsRecords q (files_of mid) new texts → length texts ≡ record_count given
    → GivesStages result (stages_of q 0 texts) → IfOk result (λ stages. KnowsStages q stages new)
knows_result rule q old mid new dir given texts (Ok stages) m t is path short first finds counts parsed =
    knows_all rule q old mid new dir given texts stages m t is path short first finds counts parsed
knows_result rule q old mid new dir given texts (Err e) m t is path short first finds counts parsed = tt

-- from what the calls tell
pub records_known : (rule now : Pipeline) (q : List ℕ) (old mid : Log) (new : Files) (dir : List ℕ) (given texts : List (List ℕ)) (result : Result (List Stage) MakeError)
    → rule ≡ record { queue = Some q; role = Maker } → KindLaws stage_reader → Sound stage_reader q (files_of old)
    → Listed (is_allowed rule) old mid dir given → dir ≡ stages_dir q → is_path dir ≡ true → length dir ≤ 107
    → now ≡ rule → (IsMaking now q (files_of mid) → FindsRecords q (files_of mid) new texts) → length texts ≡ record_count given
    → GivesStages result (stages_of q 0 texts) → IfOk result (λ stages. KnowsStages q stages new)
records_known rule now q old mid new dir given texts result maker kinds sound t is path short same finds counts parsed =
    let m : IsMaking rule q (files_of old) = record { is = maker; kinds = kinds; sound = sound } in
    let first : KeepsStages q (files_of old) (files_of mid) = making_keeps rule q old mid _ m (went_of t.acted) (tt, tt) in
    knows_result rule q old mid new dir given texts result m t is path short first (finds (still_making rule now q (files_of old) (files_of mid) same first m)) counts parsed
