-- What a command has printed.
use Rattle.std.specs.Prelude.{◌≡◌, ℕ, List, ◌++◌, Some}
use Rattle.ig_defs.specs.Log.{Log, files_of}
use Rattle.ig_defs.specs.Own.{moments_since}
use Rattle.ig_store.specs.Sink.{TakesPrefix}
use Rattle.ig_meaning.specs.Fault.{fault_of}
use Rattle.ig_meaning.specs.Lines.{fault_line, refusal_text, stage_line}
use Rattle.ig_meaning.specs.Plan.{stage_of}
use Rattle.ig_meaning.specs.Refusal.{Refusal}
use Rattle.ig_record.specs.declared.stage.Stage.{Stage}

-- the line of the stage that was run
pub record HasPrinted (words : List (List ℕ)) (old : Log) (before now : List ℕ) : Type 0 where
  pub stage : Stage
  pub planned : stage_of words (files_of old) ≡ Some stage
  pub line : now ≡ before ++ stage_line stage

-- some first part of it
pub record HasPrintedPart (words : List (List ℕ)) (old : Log) (before now : List ℕ) : Type 0 where
  pub stage : Stage
  pub planned : stage_of words (files_of old) ≡ Some stage
  pub part : TakesPrefix before (stage_line stage) now

-- the line of the fault
pub record HasComplained (words : List (List ℕ)) (old new : Log) (before now : List ℕ) : Type 0 where
  pub refusal : Refusal
  pub fault : fault_of words (moments_since old new) ≡ Some refusal
  pub line : now ≡ before ++ fault_line (refusal_text refusal)
