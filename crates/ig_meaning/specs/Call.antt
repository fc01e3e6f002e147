-- What a call did, by its words, its status, and the log at its entry and its exit.
use Rattle.std.specs.Prelude.{◌≡◌, ℕ, true, List, [], ◌∷◌, Some, None}
use Rattle.ig_defs.specs.Files.{Files, file_at}
use Rattle.ig_defs.specs.Log.{Log, IsQuiet, files_of}
use Rattle.ig_defs.specs.Names.{Stands}
use Rattle.ig_defs.specs.Own.{Moment, moments_since, puts_of, reads_of}
use Rattle.ig_meaning.specs.Refusal.{Refusal}
use Rattle.ig_record.specs.declared.stage.Stage.{Stage}
use Rattle.ig_record.specs.declared.stage.InfoFile.{InfoFile}
use Rattle.ig_record.specs.Columns.{output_dirs}
use Rattle.ig_record.specs.Sound.{is_sound}
use Rattle.ig_cutout.specs.declared.types.Output.{Output}
use Rattle.ig_meaning.specs.Jobs.{jobs_of, planned_puts, planned_reads, sequential, with_info, with_outputs}
use Rattle.ig_meaning.specs.Stage.{unfit}
use Rattle.ig_meaning.specs.Wants.{wanted_outputs}
use Rattle.ig_meaning.specs.Plan.{stage_of}
use Rattle.ig_meaning.specs.Making.{Making, Refused, Unfinished, Planned, New, Continues, fresh_info}
use Rattle.ig_meaning.specs.Fault.{fault_of, making_of}
use Rattle.ig_meaning.specs.Ending.{AreFirst}
use Rattle.ig_meaning.specs.Lines.{fault_line, refusal_text}

-- At status 0 the files are those at entry, with the info of the new layer put and then, at the path of each task, what is
-- wanted, which is defined from the whole volume of the source in the files at entry; and nothing else changed.
pub record IsCopied (words : List (List ℕ)) (old new : Log) : Type 0 where
  pub stage : Stage
  pub planned : stage_of words (files_of old) ≡ Some stage
  pub sound : is_sound stage ≡ true
  pub outputs : List Output
  pub wanted : wanted_outputs stage (file_at (files_of old)) ≡ Some outputs
  pub files : files_of new ≡ with_outputs (with_info stage.info (files_of old)) outputs

-- At status 0 they are also those of the sequential run of the stage's tasks, on the files at entry with the info
-- put; and the own reads after the making are the inputs of each task, in order, each once.
pub record IsSequential (words : List (List ℕ)) (old new : Log) : Type 0 where
  pub stage : Stage
  pub after : List Moment
  pub made : making_of words (moments_since old new) ≡ Planned stage after
  pub files : sequential (jobs_of stage) (with_info stage.info (files_of old)) ≡ Some (files_of new)
  pub reads : reads_of after ≡ planned_reads stage

-- no file lies directly in the directory of any of these
abbrev pub AllEmpty : Files → List (List ℕ) → Type 0
AllEmpty files [] = Unit {0}
AllEmpty files (dir ∷ dirs) = ((name : List ℕ) → Stands files dir name → ⊥) × AllEmpty files dirs

-- Nothing keeps the command of these words from running in these files: its stage is planned, no file stands at the path of its
-- info, where that has to be new, or lies in its output directories, it fits, and its sequential run is defined.
pub record IsReady (words : List (List ℕ)) (files : Files) : Type 0 where
  pub stage : Stage
  pub planned : stage_of words files ≡ Some stage
  pub no_info : (info : InfoFile) → fresh_info stage ≡ Some info → file_at files info.path ≡ None
  pub no_names : AllEmpty files (output_dirs stage)
  pub fits : unfit stage ≡ None
  pub after : Files
  pub runs : sequential (jobs_of stage) (with_info stage.info files) ≡ Some after

-- each own step only looks
abbrev pub AllLook : List Moment → Type 0
AllLook [] = Unit {0}
AllLook (m ∷ ms) = IsQuiet m.act × AllLook ms

-- Where the making was refused, or was not finished, the own steps only look. Else the own puts are first ones of the
-- plan: the info, and then what the sequential run puts.
abbrev pub PutsInOrder : Making → Files → List Moment → Type 0
PutsInOrder (Refused refusal) files ms = AllLook ms
PutsInOrder Unfinished files ms = AllLook ms
PutsInOrder (Planned stage after) files ms = AreFirst (puts_of ms) (planned_puts stage files)
PutsInOrder (New number stage after) files ms = Unit {0}
PutsInOrder (Continues number stage after) files ms = Unit {0}

-- Where a task refused, the own puts are all of that plan.
abbrev pub PutsAll : Making → Files → List Moment → Type 0
PutsAll (Refused refusal) files ms = Unit {0}
PutsAll Unfinished files ms = Unit {0}
PutsAll (Planned stage after) files ms = puts_of ms ≡ planned_puts stage files
PutsAll (New number stage after) files ms = Unit {0}
PutsAll (Continues number stage after) files ms = Unit {0}

-- the line on standard error at status 5: that of the fault
pub record IsRefusal (words : List (List ℕ)) (old new : Log) (text : List ℕ) : Type 0 where
  pub refusal : Refusal
  pub fault : fault_of words (moments_since old new) ≡ Some refusal
  pub line : text ≡ fault_line (refusal_text refusal)
