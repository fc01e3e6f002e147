-- What a maker of stages knows stays so while others take steps, and what follows from it.
use Rattle.std.specs.Prelude.{◌≡◌, ◌⊎◌, ◌≤◌, ◌<◌, ℕ, suc, false, List, Option, None, Some, is_some, IsSome, length, get_or, slice_get, option_map, option_and_then, refl}
use Rattle.std.proofs.Common.{inl, inr, arith, ap, sym, subst, true≢false, ◌∙◌}
use Rattle.std.proofs.lemmas.Option.{slice_get_cases, slice_get_past}
use Rattle.ig_defs.specs.declared.step.Act.{Act}
use Rattle.ig_defs.specs.Files.{Files, file_at}
use Rattle.ig_defs.specs.Log.{Log, after, files_of}
use Rattle.ig_defs.specs.Own.{Moment}
use Rattle.ig_record.specs.declared.stage.Stage.{Stage}
use Rattle.ig_rule.specs.Beside.{maker_keeps, maker_untouched}
use Rattle.ig_rule.specs.Facts.{Facts, IsPath, KindLaws}
use Rattle.ig_rule.specs.QueueFiles.{Record, Seal, IsApartFrom, queue_of}
use Rattle.ig_rule.specs.Sound.{Sound}
use Rattle.ig_rule.specs.SoundKept.{sound_kept}
use Rattle.ig_rule.specs.Stages.{Sealed, stages_in}
use Rattle.ig_rule.specs.Went.{Went}
use Rattle.ig_rule.specs.WentOn.{EachMoment, LooksOnly, went_keeps, went_keeps_at}
use Rattle.ig_task.specs.Facts.{facts_of, stage_reader}
use Rattle.ig_task.specs.Maker.{IsPathOfNone, KeepsStages, KnowsStages, Others}

no_path_at : (stages : List Stage) (path : List ℕ) → IsPathOfNone stages path → (n : ℕ) (s : Facts) (item : Option Stage) → slice_get stages n ≡ item
    → option_map (facts_of n) item ≡ Some s → IsPath s path → ⊥
no_path_at stages path none n s None is mapped one = absurd (cc)
no_path_at stages path none n s (Some stage) is mapped one =
    let same : facts_of n stage ≡ s = cc in
    none n stage is (subst (λ facts. IsPath facts path) (sym same) one)

no_path_known : (q : List ℕ) (stages : List Stage) (files : Files) (path : List ℕ) → IsPathOfNone stages path → KnowsStages q stages files
    → (n : ℕ) (s : Facts) → stages_in stage_reader q files n ≡ Some s → IsPath s path → ⊥
no_path_known q stages files path none k n s is = no_path_at stages path none n s (slice_get stages n) refl (sym (k.recorded n) ∙ is)

-- ---- how many stages there are

-- nothing is recorded where no record is
none_recorded : (q : List ℕ) (files : Files) (n : ℕ) → queue_of q files (Record n) ≡ None → stages_in stage_reader q files n ≡ None
none_recorded q files n none = ap (option_and_then (stage_reader n)) none

some_or_none : {A : Type 0} (o : Option A) → IsSome o → o ≡ None → ⊥
some_or_none o there none = true≢false (sym there ∙ ap is_some none)

an_item : {A : Type 0} (xs : List A) (n : ℕ) → n < length xs → (x : A) × (slice_get xs n ≡ Some x)
an_item {A = A} xs n below = by_cases (slice_get_cases xs n).1
  where
    by_cases : ((x : A) × (n < length xs) × (slice_get xs n ≡ Some x) × (get_or xs n x ≡ x)) ⊎ ((length xs ≤ n) × (slice_get xs n ≡ None)) → (x : A) × (slice_get xs n ≡ Some x)
    by_cases (inl h) = (h.0, h.2)
    by_cases (inr h) = absurd (omega (arith, h.0, below))

module _ (q : List ℕ) (stages : List Stage) (files : Files) (k : KnowsStages q stages files) where
  not_fewer : k.sound.numbered.count < length stages → ⊥
  not_fewer below =
      let c = k.sound.numbered.count in
      let item = an_item stages c below in
      some_or_none (stages_in stage_reader q files c)
      (ap is_some (k.recorded c ∙ ap (option_map (facts_of c)) item.1))
      (none_recorded q files c (k.sound.numbered.no_more c (omega arith)))

  not_more : length stages < k.sound.numbered.count → ⊥
  not_more below =
      let n = length stages in
      some_or_none (stages_in stage_reader q files n) (k.sound.numbered.present n below)
      (k.recorded n ∙ ap (option_map (facts_of n)) (slice_get_past stages n (omega arith)))

  -- there are as many as it knows
  pub count_is : k.sound.numbered.count ≡ length stages
  count_is = let fewer = not_fewer in let more = not_more in grind arith

  -- none is recorded beyond these
  pub none_beyond : (n : ℕ) → length stages ≤ n → queue_of q files (Record n) ≡ None
  none_beyond n beyond = k.sound.numbered.no_more n (let e = count_is in omega (arith, e, beyond))

  -- each but the last is sealed
  pub sealed_before : (n : ℕ) → suc n < length stages → Sealed (queue_of q files) n
  sealed_before n below = k.sound.numbered.sealed n (let e = count_is in omega (arith, e, below))

  -- there is no seal of another
  pub no_seal_beyond : (n : ℕ) → length stages ≤ n → queue_of q files (Seal n) ≡ None
  no_seal_beyond n beyond = k.sound.numbered.no_seal n (let e = count_is in omega (arith, e, beyond))

-- ---- steps of others

module _ (kinds : KindLaws stage_reader) (q : List ℕ) where
  pub stages_keep : (first files : Files) (a : Act) → Others q false files a → KeepsStages q first files → KeepsStages q first (after files a)
  stages_keep first files a may k = record {
    sound = sound_kept stage_reader kinds q files a k.sound may.0;
    same = λ x none. maker_keeps stage_reader kinds q files a k.sound may x none ∙ k.same x none;
  }

  -- records and seals stay
  pub stages_went : (old new : Log) (ms : List Moment) → Went (Others q) old new ms → EachMoment LooksOnly ms → Sound stage_reader q (files_of old) → KeepsStages q (files_of old) (files_of new)
  stages_went old new ms w quiet sound =
      went_keeps (Others q) (KeepsStages q (files_of old)) (stages_keep (files_of old)) old new ms w quiet (record { sound = sound; same = λ x none. refl })

  pub stages_at : (old new : Log) (ms : List Moment) → Went (Others q) old new ms → EachMoment LooksOnly ms → Sound stage_reader q (files_of old)
      → EachMoment (λ now a. KeepsStages q (files_of old) now) ms
  stages_at old new ms w quiet sound =
      went_keeps_at (Others q) (KeepsStages q (files_of old)) (stages_keep (files_of old)) old new ms w quiet (record { sound = sound; same = λ x none. refl })

  pub knows_keep : (stages : List Stage) (files : Files) (a : Act) → Others q false files a → KnowsStages q stages files → KnowsStages q stages (after files a)
  knows_keep stages files a may k = record {
    sound = sound_kept stage_reader kinds q files a k.sound may.0;
    recorded = λ n. ap (option_and_then (stage_reader n)) (maker_keeps stage_reader kinds q files a k.sound may (Record n) refl) ∙ k.recorded n;
  }

  -- what is known of the stages stays so
  pub knows_went : (stages : List Stage) (old new : Log) (ms : List Moment) → Went (Others q) old new ms → EachMoment LooksOnly ms → KnowsStages q stages (files_of old)
      → KnowsStages q stages (files_of new)
  knows_went stages old new ms w quiet k = went_keeps (Others q) (KnowsStages q stages) (knows_keep stages) old new ms w quiet k

  -- the stages are known, and a path holds this
  pub record KnowsFile (stages : List Stage) (path : List ℕ) (held : Option (List ℕ)) (files : Files) : Type 0 where
    pub knows : KnowsStages q stages files
    pub holds : file_at files path ≡ held

  pub file_keeps : (stages : List Stage) (path : List ℕ) (held : Option (List ℕ)) → IsApartFrom q path → IsPathOfNone stages path → (files : Files) (a : Act) → Others q false files a
      → KnowsFile stages path held files → KnowsFile stages path held (after files a)
  file_keeps stages path held apart none files a may k = record {
    knows = knows_keep stages files a may k.knows;
    holds = maker_untouched stage_reader q files a may path apart (no_path_known q stages files path none k.knows) ∙ k.holds;
  }

  -- a path that is neither the queue's nor a stage's holds what it held
  pub same_file : (stages : List Stage) (path : List ℕ) → IsApartFrom q path → IsPathOfNone stages path
      → (old new : Log) (ms : List Moment) → Went (Others q) old new ms → EachMoment LooksOnly ms → KnowsStages q stages (files_of old) → file_at (files_of new) path ≡ file_at (files_of old) path
  same_file stages path apart none old new ms w quiet k =
      (went_keeps (Others q) (KnowsFile stages path (file_at (files_of old) path)) (file_keeps stages path (file_at (files_of old) path) apart none) old new ms w quiet
      (record { knows = k; holds = refl })).holds
