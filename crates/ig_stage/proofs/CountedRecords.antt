-- How many records a true listing of a queue tells, and what each of them gives.
use Rattle.std.proofs.Common.{arith, inl, inr, ◌⊎◌, ◌≡◌, ◌≤◌, ◌<◌, ◌+◌, ◌∙◌, ℕ, zero, suc, true, List, [], ◌∷◌, ◌++◌, All, Option, None, Some, is_some, length, get_or, slice_get, Ok, refl, ap, sym, subst, true≢false, length-append}
use Rattle.std.specs.Prelude.{codes, option_map, option_and_then}
use Rattle.std.proofs.lemmas.Bool.Decides.{nat_tests}
use Rattle.std.proofs.lemmas.Option.{slice_get_cases}
use Rattle.ig_defs.specs.Files.{Files, file_at}
use Rattle.ig_defs.specs.Names.{Stands}
use Rattle.ig_defs.specs.QueueNames.{stage_file, stage_fits}
use Rattle.ig_meaning.specs.QueueMaking.{beyond, record_count, record_path, stage_named, stages_dir, stages_of, with_stage}
use Rattle.ig_record.specs.Reading.{record_in}
use Rattle.ig_record.specs.declared.stage.Stage.{Stage}
use Rattle.ig_rule.specs.Facts.{Facts}
use Rattle.ig_rule.specs.QueueFiles.{Record, queue_of}
use Rattle.ig_space.specs.Path.{is_path}
use Rattle.ig_space.specs.Segments.{is_path-joined}
use Rattle.ig_task.specs.Facts.{facts_of, stage_reader}
use Rattle.ig_task.specs.Maker.{KnowsStages}
use Rattle.ig_task.specs.MakerLaws.{none_beyond}
use Rattle.ig_stage.specs.Looking.{AreNames}
use Rattle.ig_stage.proofs.KnownRecords.{in_queue}
use Rattle.ig_stage.proofs.KnownStages.{counted, held, is_name, stands}
use Rattle.ig_stage.proofs.SameStages.{AreRead}
use Rattle.ig_queue.specs.FilesAt.{record_path_is}
use Rattle.ig_stage.proofs.StageNames.{named_back}

-- ---- where they stand

pub stages_short : (q : List ℕ) → length q ≤ 100 → length (stages_dir q) ≤ 107
stages_short q short =
    let all : length (stages_dir q) ≡ length q + 7 = length-append q (47 ∷ codes "stages") in
    omega (arith, all, short)

pub stages_path : (q : List ℕ) → is_path q ≡ true → length q ≤ 100 → is_path (stages_dir q) ≡ true
unfolding is_path
stages_path q is short = is_path-joined q (codes "stages") is refl (omega (arith, stages_short q short))

-- ---- one record

-- its text
pub record HasText (q : List ℕ) (files : Files) (n : ℕ) (facts : Facts) : Type 0 where
  pub text : List ℕ
  pub there : queue_of q files (Record n) ≡ Some text
  pub read : stage_reader n text ≡ Some facts

text_from : (q : List ℕ) (files : Files) (n : ℕ) (facts : Facts) (found : Option (List ℕ)) → queue_of q files (Record n) ≡ found → option_and_then (stage_reader n) found ≡ Some facts → HasText q files n facts
text_from q files n facts None there is = let no_way : ⊥ = cc in absurd no_way
text_from q files n facts (Some text) there is = record { text = text; there = there; read = is }

module _ (q : List ℕ) (stages : List Stage) (files : Files) (k : KnowsStages q stages files) where
  pub text_at : (n : ℕ) (s : Stage) → slice_get stages n ≡ Some s → HasText q files n (facts_of n s)
  text_at n s is =
      text_from q files n (facts_of n s) (queue_of q files (Record n)) refl (k.recorded n ∙ ap (option_map (facts_of n)) is)

  pub record_below : (n : ℕ) → n < length stages → (text : List ℕ) × (queue_of q files (Record n) ≡ Some text)
  record_below n below = by_cases (slice_get_cases stages n).1
    where
      by_cases : ((s : Stage) × (n < length stages) × (slice_get stages n ≡ Some s) × (get_or stages n s ≡ s)) ⊎ ((length stages ≤ n) × (slice_get stages n ≡ None))
          → (text : List ℕ) × (queue_of q files (Record n) ≡ Some text)
      by_cases (inl h) = let t = text_at n h.0 h.2 in (t.text, t.there)
      by_cases (inr h) = absurd (omega (arith, h.0, below))

  -- ---- how many there are

  -- the stage of a name that stands is one of these
  stage_stands : (name : List ℕ) (n : ℕ) → Stands files (stages_dir q) name → stage_named name ≡ Some n → n < length stages
  stage_stands name n stand named =
      let back = named_back name n named in
      let there : is_some (file_at files (record_path q n)) ≡ true = ap (λ path. is_some (file_at files path)) (sym (record_path_is q name n (sym back.1))) ∙ stand.there in
      by_cases back.0 there (slice_get_cases stages n).1
    where
      by_cases : stage_fits n ≡ true → is_some (file_at files (record_path q n)) ≡ true
          → ((s : Stage) × (n < length stages) × (slice_get stages n ≡ Some s) × (get_or stages n s ≡ s)) ⊎ ((length stages ≤ n) × (slice_get stages n ≡ None)) → n < length stages
      by_cases fits there (inl h) = h.1
      by_cases fits there (inr h) =
          let none : file_at files (record_path q n) ≡ None = sym (in_queue q files (Record n) (file_at files (record_path q n)) fits refl) ∙ none_beyond q stages files k n h.0 in
          absurd (true≢false (sym there ∙ ap is_some none))

  at_most : (named : Option ℕ) (count : ℕ) → ((n : ℕ) → named ≡ Some n → n < length stages) → count ≤ length stages → beyond named count ≤ length stages
  at_most None count below rest = rest
  at_most (Some n) count below rest = let less = below n refl in grind (arith, nat_tests, less, rest)

  no_more : (given : List (List ℕ)) → All (Stands files (stages_dir q)) given → record_count given ≤ length stages
  no_more [] stand = omega arith
  no_more (name ∷ given) stand =
      at_most (stage_named name) (record_count given) (λ n named. stage_stands name n (stand zero name (omega arith)) named)
      (no_more given (λ i other below. stand (suc i) other (omega (arith, below))))

  last_counted : (given : List (List ℕ)) (count : ℕ) → count ≡ length stages → ((n : ℕ) → n < length stages → n < record_count given) → length stages ≤ record_count given
  last_counted given zero is each = omega (arith, is)
  last_counted given (suc n) is each = let less = each n (omega (arith, is)) in omega (arith, is, less)

  -- a true listing tells as many as there are
  pub counts_all : (dir : List ℕ) (given : List (List ℕ)) → dir ≡ stages_dir q → is_path dir ≡ true → length dir ≤ 107 → AreNames files dir given → record_count given ≡ length stages
  counts_all dir given is path short names =
      let most = no_more given (subst (λ d. All (Stands files d) given) is names.only) in
      let least = last_counted given (length stages) refl (λ n below. each n (record_below n below)) in
      omega (arith, most, least)
    where
      each : (n : ℕ) → (text : List ℕ) × (queue_of q files (Record n) ≡ Some text) → n < record_count given
      each n t =
          counted given n (held (stage_fits n) (file_at files (record_path q n)) t.0 t.1).0
          (names.each (stage_file n) (stands q n t.0 dir files is (is_name dir n path short) t.1))

-- ---- the stages of texts

-- the rule reads each of these texts as the record of the stage
abbrev pub Gives : ℕ → List (List ℕ) → List Stage → Type 0
Gives n [] [] = Unit {0}
Gives n [] (s ∷ ss) = ⊥
Gives n (text ∷ texts) [] = ⊥
Gives n (text ∷ texts) (s ∷ ss) = (stage_reader n text ≡ Some (facts_of n s)) × Gives (suc n) texts ss

pub gives_length : (n : ℕ) (texts : List (List ℕ)) (ss : List Stage) → Gives n texts ss → length texts ≡ length ss
gives_length n [] [] g = refl
gives_length n [] (s ∷ ss) g = absurd g
gives_length n (text ∷ texts) [] g = absurd g
gives_length n (text ∷ texts) (s ∷ ss) g = ap suc (gives_length (suc n) texts ss g.1)

pub gives_more : (n k : ℕ) (texts : List (List ℕ)) (ss : List Stage) (text : List ℕ) (s : Stage) → Gives n texts ss → k ≡ n + length texts → stage_reader k text ≡ Some (facts_of k s)
    → Gives n (texts ++ text ∷ []) (ss ++ s ∷ [])
gives_more n k [] [] text s g place is = (subst (λ m. stage_reader m text ≡ Some (facts_of m s)) (omega (arith, place)) is, tt)
gives_more n k [] (t ∷ ss) text s g place is = absurd g
gives_more n k (other ∷ texts) [] text s g place is = absurd g
gives_more n k (other ∷ texts) (t ∷ ss) text s g place is = (g.0, gives_more (suc n) k texts ss text s g.1 (omega (arith, place)) is)

-- the stage of one text
record ReadsOne (n : ℕ) (text : List ℕ) (s : Stage) : Type 0 where
  stage : Stage
  is : record_in n text ≡ Some stage
  same : facts_of n stage ≡ facts_of n s

read_one : (n : ℕ) (text : List ℕ) (s : Stage) (given : Option Stage) → record_in n text ≡ given → option_map (facts_of n) given ≡ Some (facts_of n s) → ReadsOne n text s
read_one n text s None is mapped = let no_way : ⊥ = cc in absurd no_way
read_one n text s (Some stage) is mapped = record { stage = stage; is = is; same = cc }

reads_one : (n : ℕ) (text : List ℕ) (s : Stage) → stage_reader n text ≡ Some (facts_of n s) → ReadsOne n text s
unfolding stage_reader
reads_one n text s is = read_one n text s (record_in n text) refl is

-- the stages that the texts give
pub record ReadsAll (q : List ℕ) (n : ℕ) (texts : List (List ℕ)) (ss : List Stage) : Type 0 where
  pub stages : List Stage
  pub are : stages_of q n texts ≡ Ok stages
  pub same : AreRead n stages ss

pub reads_all : (q : List ℕ) (n : ℕ) (texts : List (List ℕ)) (ss : List Stage) → Gives n texts ss → ReadsAll q n texts ss
reads_all q n [] [] g = record { stages = []; are = refl; same = tt }
reads_all q n [] (s ∷ ss) g = absurd g
reads_all q n (text ∷ texts) [] g = absurd g
reads_all q n (text ∷ texts) (s ∷ ss) g =
    let one = reads_one n text s g.0 in
    let rest = reads_all q (suc n) texts ss g.1 in
    record {
      stages = one.stage ∷ rest.stages;
      are = ap (λ given. with_stage q n text given (stages_of q (suc n) texts)) one.is ∙ ap (with_stage q n text (Some one.stage)) rest.are;
      same = (one.same, rest.same);
    }
