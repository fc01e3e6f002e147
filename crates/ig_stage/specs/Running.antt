-- What the steps of a run tell.
use Rattle.std.specs.Prelude.{◌≡◌, ◌<◌, ℕ, ◌-◌, List, [], ◌∷◌, ◌++◌, length, take, map, Option, None, Some, Result, Ok, Err}
use Rattle.ig_defs.specs.declared.step.Act.{Act}
use Rattle.ig_defs.specs.declared.step.Act.TheVariants as act
use Rattle.ig_defs.specs.Files.{file_at}
use Rattle.ig_defs.specs.Log.{Log, files_of}
use Rattle.ig_defs.specs.Own.{File, put_all, puts_of, reads_of}
use Rattle.ig_space.specs.Chunks.{listed}
use Rattle.ig_meaning.specs.Refusal as refusal
use Rattle.ig_record.specs.declared.stage.InfoFile.{InfoFile}
use Rattle.ig_record.specs.declared.stage.Stage.{Stage}
use Rattle.ig_record.specs.Columns.{inputs_of}
use Rattle.ig_record.specs.Stage.{task_count}
use Rattle.ig_meaning.specs.JobLaws.{ran_first}
use Rattle.ig_meaning.specs.Jobs.{files_put, info_files, with_info}
use Rattle.ig_meaning.specs.Task.{task_outputs, task_refusal}
use Rattle.ig_meaning.specs.Wants.{flattened}
use Rattle.ig_meaning.specs.Ending.{Ending, Finished, Refuses, StoreFailed, NoMemory, HasRun}
use Rattle.ig_meaning.specs.Fault.{Find, fault_of_tasks, finds_of}
use Rattle.ig_cutout.specs.declared.types.Input.{Input}
use Rattle.ig_cutout.specs.declared.types.Output.{Output}
use Rattle.ig_cutout.specs.Inputs.{HoldsAll, cause_of}
use Rattle.ig_cutout.specs.Outputs.{output_of}
use Rattle.ig_task.specs.declared.error.RunError.{RunError}
use Rattle.ig_task.specs.declared.error.RunError.TheVariants.{Missing, Malformed, TooManyParts, Memory}
use Rattle.ig_stage.specs.declared.error.LocalError.{LocalError}
use Rattle.ig_stage.specs.declared.error.LocalError.TheVariants.{Make, Run}
use Rattle.ig_stage.specs.Errors.{ending_of_make}
use Rattle.ig_stage.specs.Did.{Did, MayHavePut, after_all, moments_from}

abbrev pub ending_of_run : RunError → Ending
ending_of_run (Missing path) = Refuses (refusal.Missing path)
ending_of_run (Malformed path cause) = Refuses (refusal.Malformed path (cause_of cause))
ending_of_run (TooManyParts count) = Refuses (refusal.TooManyParts count)
ending_of_run Memory = NoMemory

abbrev pub ending_of_local : LocalError → Ending
ending_of_local (Make e) = ending_of_make e
ending_of_local (Run e) = ending_of_run e

abbrev pub ending_of : {T : Type 0} → Result T LocalError → Ending
ending_of (Ok x) = Finished
ending_of (Err e) = ending_of_local e

-- The log grew by a run of the stage, which ended so: the own steps are a run's, and the files are those at first with
-- what was put.
pub record Runs (s : Stage) (old new : Log) (ending : Ending) : Type 0 where
  pub acts : List Act
  pub did : Did old new acts
  pub files : after_all (files_of old) acts ≡ put_all (files_of old) (puts_of (moments_from (files_of old) acts))
  pub run : HasRun s (files_of old) (moments_from (files_of old) acts) ending

-- ---- the parts of a run
abbrev pub reads_all : List (List ℕ) → List Act
reads_all [] = []
reads_all (path ∷ paths) = act.Read path ∷ reads_all paths

abbrev pub puts_all : List File → List Act
puts_all [] = []
puts_all (file ∷ files) = act.Put file.path file.bytes ∷ puts_all files

-- some first ones of the paths were read
pub record ReadsSome (paths : List (List ℕ)) (old new : Log) : Type 0 where
  pub number : ℕ
  pub did : Did old new (reads_all (take number paths))

-- and not all
pub record ReadsFewer (paths : List (List ℕ)) (old new : Log) : Type 0 where
  pub number : ℕ
  pub fewer : number < length paths
  pub did : Did old new (reads_all (take number paths))

-- the files of some first ones of the outputs were put
pub record PutsSome (outputs : List Output) (old new : Log) : Type 0 where
  pub number : ℕ
  pub did : Did old new (puts_all (files_put (take number outputs)))

-- ---- by how a part ended
abbrev pub FailsToPut : Log → Log → List ℕ → List ℕ → Ending → Type 0
FailsToPut old new path bytes StoreFailed = MayHavePut old new path bytes
FailsToPut old new path bytes NoMemory = Did old new []
FailsToPut old new path bytes (Refuses r) = ⊥
FailsToPut old new path bytes Finished = ⊥

abbrev pub PutsFile : Log → Log → List ℕ → List ℕ → Result (Unit {0}) LocalError → Type 0
PutsFile old new path bytes (Ok done) = Did old new (act.Put path bytes ∷ [])
PutsFile old new path bytes (Err e) = FailsToPut old new path bytes (ending_of_local e)

-- the info was put, if there is one
abbrev pub PutsInfo : Option InfoFile → Log → Log → Result (Unit {0}) LocalError → Type 0
PutsInfo (Some info) old new result = PutsFile old new info.path info.text result
PutsInfo None old new (Ok done) = new ≡ old
PutsInfo None old new (Err e) = ⊥

abbrev pub FailsToPutAll : List Output → Log → Log → Ending → Type 0
FailsToPutAll outputs old new StoreFailed = PutsSome outputs old new
FailsToPutAll outputs old new NoMemory = PutsSome outputs old new
FailsToPutAll outputs old new (Refuses r) = ⊥
FailsToPutAll outputs old new Finished = ⊥

abbrev pub PutsOutputs : List Output → Log → Log → Result (Unit {0}) LocalError → Type 0
PutsOutputs outputs old new (Ok done) = Did old new (puts_all (files_put outputs))
PutsOutputs outputs old new (Err e) = FailsToPutAll outputs old new (ending_of_local e)

abbrev pub FailsToRead : List (List ℕ) → Log → Log → Ending → Type 0
FailsToRead paths old new StoreFailed = ReadsFewer paths old new
FailsToRead paths old new NoMemory = ReadsSome paths old new
FailsToRead paths old new (Refuses r) = ⊥
FailsToRead paths old new Finished = ⊥

abbrev pub ReadsInputs : List (List ℕ) → Log → Log → Result (List Input) LocalError → Type 0
ReadsInputs paths old new (Ok inputs) = Did old new (reads_all paths) × HoldsAll (file_at (files_of old)) inputs
ReadsInputs paths old new (Err e) = FailsToRead paths old new (ending_of_local e)

-- ---- so far
-- the first n paths were read, and the inputs are what was found
pub record ReadSoFar (paths : List (List ℕ)) (n : ℕ) (old now : Log) (inputs : List Input) : Type 0 where
  pub did : Did old now (reads_all (take n paths))
  pub holds : HoldsAll (file_at (files_of old)) inputs

-- the files of the first n outputs were put
abbrev pub PutSoFar : List Output → ℕ → Log → Log → Type 0
PutSoFar outputs n old now = Did old now (puts_all (files_put (take n outputs)))

-- ---- a task
-- it does not refuse, all its inputs were read, and some first ones of its files were put
pub record PutsOfTask (s : Stage) (k : ℕ) (old new : Log) (outputs : List File) (number : ℕ) : Type 0 where
  pub fine : task_refusal s k (file_at (files_of old)) ≡ None
  pub made : task_outputs s k (file_at (files_of old)) ≡ Some (map output_of outputs)
  pub did : Did old new (reads_all (inputs_of s k) ++ puts_all (take number outputs))

pub record TaskDone (s : Stage) (k : ℕ) (old new : Log) : Type 0 where
  pub outputs : List File
  pub puts : PutsOfTask s k old new outputs (length outputs)

-- a task that stopped while it read, or while it put
pub data TaskStopped (s : Stage) (k : ℕ) (old new : Log) : Type 0 where
  while_reading : ReadsFewer (inputs_of s k) old new → TaskStopped s k old new
  while_putting : (outputs : List File) (number : ℕ) → PutsOfTask s k old new outputs number → TaskStopped s k old new

-- or stopped once it had read
pub data TaskHalted (s : Stage) (k : ℕ) (old new : Log) : Type 0 where
  in_reading : ReadsSome (inputs_of s k) old new → TaskHalted s k old new
  in_putting : (outputs : List File) (number : ℕ) → PutsOfTask s k old new outputs number → TaskHalted s k old new

abbrev pub FailsTask : Stage → ℕ → Log → Log → Ending → Type 0
FailsTask s k old new (Refuses r) = Did old new (reads_all (inputs_of s k)) × (task_refusal s k (file_at (files_of old)) ≡ Some r)
FailsTask s k old new StoreFailed = TaskStopped s k old new
FailsTask s k old new NoMemory = TaskHalted s k old new
FailsTask s k old new Finished = ⊥

abbrev pub RunsTask : Stage → ℕ → Log → Log → Result (Unit {0}) LocalError → Type 0
RunsTask s k old new (Ok done) = TaskDone s k old new
RunsTask s k old new (Err e) = FailsTask s k old new (ending_of_local e)

-- ---- the first n tasks were run
pub record RunsSome (s : Stage) (old new : Log) (n : ℕ) : Type 0 where
  pub acts : List Act
  pub did : Did old new acts
  pub files : after_all (files_of old) acts ≡ put_all (files_of old) (puts_of (moments_from (files_of old) acts))
  pub now : (ran_first s (with_info s.info (files_of old)) n).files ≡ Some (files_of new)
  pub puts : puts_of (moments_from (files_of old) acts) ≡ info_files s.info ++ files_put (ran_first s (with_info s.info (files_of old)) n).changes
  pub reads : reads_of (moments_from (files_of old) acts) ≡ flattened (listed (inputs_of s) n)
  pub fault : (rest : List Find) → fault_of_tasks s (task_count s) 0 (finds_of (moments_from (files_of old) acts) ++ rest)
      ≡ fault_of_tasks s (task_count s - n) n rest
