-- What a reading of the records of a queue says.
use Rattle.std.specs.Prelude.{◌≡◌, ◌<◌, ℕ, suc, Bool, true, false, List, [], ◌∷◌, ◌++◌, length, None, Some, slice_get, Result, Ok, Err}
use Rattle.ig_defs.specs.declared.step.Act.{Act}
use Rattle.ig_defs.specs.Files.{Files}
use Rattle.ig_defs.specs.Log.{Log}
use Rattle.ig_defs.specs.Own.{Moment}
use Rattle.ig_meaning.specs.Ending.{Ending, Finished, Refuses, StoreFailed, NoMemory}
use Rattle.ig_meaning.specs.Making.{Making, Continues, Unfinished}
use Rattle.ig_meaning.specs.QueueMaking.{if_sealed, last_of, making_of_records, making_of_texts, record_path, stages_of}
use Rattle.ig_meaning.specs.Refusal as refusal
use Rattle.ig_record.specs.declared.stage.Stage.{Stage}
use Rattle.ig_record.specs.Answers.{record_fault}
use Rattle.ig_record.specs.Reading.{record_in}
use Rattle.ig_rule.specs.Facts.{KindLaws}
use Rattle.ig_rule.specs.QueueFiles.{Record, Seal, queue_of}
use Rattle.ig_rule.specs.Sound.{Sound}
use Rattle.ig_rule.specs.Stages.{Sealed}
use Rattle.ig_rule.specs.declared.role.Role.TheVariants.{Maker}
use Rattle.ig_stage.specs.Errors.{ending_of_make}
use Rattle.ig_stage.specs.Looking.{Looks}
use Rattle.ig_stage.specs.declared.error.MakeError.{MakeError}
use Rattle.ig_task.specs.Facts.{stage_reader}
use Rattle.ig_task.specs.Maker.{KeepsStages, KnowsStages}
use Rattle.ig_task.specs.declared.pipeline.Pipeline.{Pipeline}

-- ---- the stages of texts

-- a text is refused so, where a call ends so
abbrev pub IsNoRecord : List ℕ → ℕ → List ℕ → Ending → Type 0
IsNoRecord q n text (Refuses r) = (r ≡ refusal.BadRecord (record_path q n) (record_fault n text)) × (record_in n text ≡ None)
IsNoRecord q n text NoMemory = Unit {0}
IsNoRecord q n text StoreFailed = ⊥
IsNoRecord q n text Finished = ⊥

-- the stage that a text gives as the record of this number
abbrev pub GivesStage : List ℕ → ℕ → List ℕ → Result Stage MakeError → Type 0
GivesStage q n text (Ok s) = record_in n text ≡ Some s
GivesStage q n text (Err e) = IsNoRecord q n text (ending_of_make e)

-- texts are refused so, where a call ends so
abbrev pub AreNoRecords : Ending → Result (List Stage) refusal.Refusal → Type 0
AreNoRecords (Refuses r) given = given ≡ Err r
AreNoRecords NoMemory given = Unit {0}
AreNoRecords StoreFailed given = ⊥
AreNoRecords Finished given = ⊥

-- the stages that texts give
abbrev pub GivesStages : Result (List Stage) MakeError → Result (List Stage) refusal.Refusal → Type 0
GivesStages (Ok stages) given = given ≡ Ok stages
GivesStages (Err e) given = AreNoRecords (ending_of_make e) given

-- ---- the texts that were read

-- so many records are left to read, once these were
abbrev pub ReadsOn : (Bool → Files → Act → Type 0) → List ℕ → ℕ → ℕ → List (List ℕ) → Log → Log → Type 0
ReadsOn allows q count left texts old new = (next : List Stage → List Moment → Making) → Looks {T = Unit {0}} allows (making_of_records q next count []) (λ u. making_of_records q next left texts) old new (Ok tt)

-- the record of this number was looked at
abbrev pub LooksAtRecord : (Bool → Files → Act → Type 0) → List ℕ → ℕ → Log → Log → Result (List ℕ) MakeError → Type 0
LooksAtRecord allows q n old new result = (next : List Stage → List Moment → Making) (left : ℕ) (texts : List (List ℕ)) → length texts ≡ n
    → Looks allows (making_of_records q next (suc left) texts) (λ text. making_of_records q next left (texts ++ text ∷ [])) old new result

-- so many records were looked at
abbrev pub LooksAtRecords : (Bool → Files → Act → Type 0) → List ℕ → ℕ → Log → Log → Result (List (List ℕ)) MakeError → Type 0
LooksAtRecords allows q count old new result = (next : List Stage → List Moment → Making)
    → Looks allows (making_of_records q next count []) (λ texts. making_of_texts next (stages_of q 0 texts)) old new result

-- ---- beside a maker

-- A maker works in this queue, whose files are sound.
pub record IsMaking (rule : Pipeline) (q : List ℕ) (files : Files) : Type 0 where
  pub is : rule ≡ record { queue = Some q; role = Maker }
  pub kinds : KindLaws stage_reader
  pub sound : Sound stage_reader q files

-- The records and the seals stayed, and this is the text of the record of this number.
pub record FindsRecord (q : List ℕ) (n : ℕ) (old new : Files) (text : List ℕ) : Type 0 where
  pub keeps : KeepsStages q old new
  pub text_is : queue_of q old (Record n) ≡ Some text

-- these are the texts of the first records
abbrev pub HasRecords : List ℕ → Files → List (List ℕ) → Type 0
HasRecords q files texts = (n : ℕ) (text : List ℕ) → slice_get texts n ≡ Some text → queue_of q files (Record n) ≡ Some text

-- The records and the seals stayed, and these are the texts of the first records.
pub record FindsRecords (q : List ℕ) (old new : Files) (texts : List (List ℕ)) : Type 0 where
  pub keeps : KeepsStages q old new
  pub texts_are : HasRecords q old texts

-- ---- the seal of the last stage

-- where the last stage is not sealed
abbrev pub continues : List Stage → List Moment → Making
continues [] ms = Unfinished
continues (s ∷ stages) ms = Continues (length stages) (last_of s stages) ms

-- once the seal of the last stage was looked at
abbrev pub by_seal : (List Stage → List Moment → Making) → List Stage → Bool → List Moment → Making
by_seal next stages sealed ms = if_sealed sealed (next stages ms) (continues stages ms)

-- The last stage has no seal.
pub record LacksSeal (q : List ℕ) (stages : List Stage) (files : Files) : Type 0 where
  pub number : ℕ
  pub last : suc number ≡ length stages
  pub none : queue_of q files (Seal number) ≡ None

-- The stages are known, and whether all are sealed.
pub record FindsSeal (q : List ℕ) (stages : List Stage) (files : Files) (sealed : Bool) : Type 0 where
  pub knows : KnowsStages q stages files
  pub each : sealed ≡ true → (n : ℕ) → n < length stages → Sealed (queue_of q files) n
  pub lacks : sealed ≡ false → LacksSeal q stages files
