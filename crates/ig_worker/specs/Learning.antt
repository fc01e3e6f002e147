-- What the read of a stage's record comes to.
use Rattle.std.specs.Prelude.{◌≡◌, ◌⊎◌, ℕ, Bool, List, Option, None, Some, Result, Ok, Err}
use Rattle.ig_defs.specs.declared.step.Act.{Act}
use Rattle.ig_defs.specs.Files.{Files}
use Rattle.ig_defs.specs.Log.{Log}
use Rattle.ig_record.specs.declared.stage.Stage.{Stage}
use Rattle.ig_record.specs.Answers.{record_fault}
use Rattle.ig_record.specs.Reading.{record_in}
use Rattle.ig_meaning.specs.QueueMaking.{record_path}
use Rattle.ig_defs.specs.Turns.{Idled}
use Rattle.ig_worker.specs.declared.error.WorkerError.{WorkerError}
use Rattle.ig_worker.specs.declared.error.WorkerError.TheVariants.{Absent, BadRecord, Failed, Memory}
use Rattle.ig_defs.specs.Answers.{Answer, Found, IsAnswered, Reads}

-- the stage that the text of a record is, or that it is none
abbrev pub GivesStage : List ℕ → ℕ → List ℕ → Result Stage WorkerError → Type 0
GivesStage path n text (Ok s) = record_in n text ≡ Some s
GivesStage path n text (Err (BadRecord at member)) = (at ≡ path) × (member ≡ record_fault n text) × (record_in n text ≡ None)
GivesStage path n text (Err Memory) = Unit {0}
GivesStage path n text (Err error) = ⊥

-- some text is the record of this stage with this number
abbrev pub IsRecordOf : ℕ → Stage → Type 0
IsRecordOf n s = (text : List ℕ) × (record_in n text ≡ Some s)

-- the record was read, and this was found
abbrev pub ReadOnce : (Bool → Files → Act → Type 0) → Log → Log → List ℕ → ℕ → Option (List ℕ) → Type 0
ReadOnce allows old new q n found = IsAnswered allows old new (Reads (record_path q n)) (Found found)

-- By the result: the record was read, and gave this stage; it isn't there, or is none; or the store failed, so that it was not read; or
-- memory ran out, before the read or after it.
abbrev pub GivesRecord : (Bool → Files → Act → Type 0) → Log → Log → List ℕ → ℕ → Result Stage WorkerError → Type 0
GivesRecord allows old new q n (Ok s) = (text : List ℕ) × ReadOnce allows old new q n (Some text) × (record_in n text ≡ Some s)
GivesRecord allows old new q n (Err (Absent path)) = (path ≡ record_path q n) × ReadOnce allows old new q n None
GivesRecord allows old new q n (Err (BadRecord path member)) = (text : List ℕ) × ReadOnce allows old new q n (Some text) × GivesStage (record_path q n) n text (Err (BadRecord path member))
GivesRecord allows old new q n (Err Failed) = Idled allows old new
GivesRecord allows old new q n (Err Memory) = Idled allows old new ⊎ ((answer : Answer) × IsAnswered allows old new (Reads (record_path q n)) answer)
