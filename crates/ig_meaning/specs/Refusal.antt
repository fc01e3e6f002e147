-- What a command may refuse, each with the file or the number that shows it.
use Rattle.std.specs.Prelude.{ℕ, List}
use Rattle.ig_info.specs.declared.error.InfoError.{InfoError}
use Rattle.ig_layer.specs.Faults.{Cause, Fault, Absent, Damaged}
use Rattle.ig_record.specs.declared.stage.Kind.{Kind}

pub data Refusal : Type 0 where
  Missing : (path : List ℕ) → Refusal
  BadInfo : (path : List ℕ) → (cause : InfoError) → Refusal
  NoScale : (mip count : ℕ) → Refusal
  NotEmpty : (path : List ℕ) → Refusal
  ShapeUnfit : (axis : ℕ) → Refusal
  TooManyTasks : (count : ℕ) → Refusal
  TaskTooLarge : (voxels : ℕ) → Refusal
  Malformed : (path : List ℕ) → (cause : Cause) → Refusal
  TooManyParts : (count : ℕ) → Refusal
  BadRecord : (path member : List ℕ) → Refusal
  TooManyStages : (count : ℕ) → Refusal
  Taken : (stage : ℕ) → Refusal
  NoStage : (kind : Kind) → Refusal

-- what is wrong with a chunk, as a refusal
abbrev pub refusal_of : Fault → Refusal
refusal_of (Absent path) = Missing path
refusal_of (Damaged path cause) = Malformed path cause
