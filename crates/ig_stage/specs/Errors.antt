-- What the errors of a maker say.
use Rattle.std.specs.Prelude.{◌≡◌, ◌≤◌, ℕ, Result, Ok, Err}
use Rattle.ig_defs.specs.Causes.{Rose}
use Rattle.ig_defs.specs.declared.error.StoreError.{StoreError}
use Rattle.ig_defs.specs.declared.error.StoreError.TheVariants as store
use Rattle.ig_meaning.specs.Ending.{Ending, Finished, Refuses, StoreFailed, NoMemory}
use Rattle.ig_meaning.specs.Refusal as refusal
use Rattle.ig_stage.specs.declared.error.MakeError.{MakeError}
use Rattle.ig_stage.specs.declared.error.MakeError.TheVariants.{Absent, BadRecord, TooManyStages, Missing, BadInfo, NoScale, NoStage, DestNotEmpty, Taken, ShapeUnfit, TooManyTasks, TaskTooLarge, Failed, Memory}

-- how a call ends with this error
abbrev pub ending_of_make : MakeError → Ending
ending_of_make (Absent path) = Refuses (refusal.Missing path)
ending_of_make (BadRecord path member) = Refuses (refusal.BadRecord path member)
ending_of_make (TooManyStages count) = Refuses (refusal.TooManyStages count)
ending_of_make (Missing path) = Refuses (refusal.Missing path)
ending_of_make (BadInfo path cause) = Refuses (refusal.BadInfo path cause)
ending_of_make (NoScale mip count) = Refuses (refusal.NoScale mip count)
ending_of_make (NoStage kind) = Refuses (refusal.NoStage kind)
ending_of_make (DestNotEmpty path) = Refuses (refusal.NotEmpty path)
ending_of_make (Taken stage) = Refuses (refusal.Taken stage)
ending_of_make (ShapeUnfit axis) = Refuses (refusal.ShapeUnfit axis)
ending_of_make (TooManyTasks count) = Refuses (refusal.TooManyTasks count)
ending_of_make (TaskTooLarge voxels) = Refuses (refusal.TaskTooLarge voxels)
ending_of_make Failed = StoreFailed
ending_of_make Memory = NoMemory

abbrev pub ending_of : {T : Type 0} → Result T MakeError → Ending
ending_of (Ok x) = Finished
ending_of (Err e) = ending_of_make e

-- the error of a call on the store
abbrev pub make_error_of : StoreError → MakeError
make_error_of store.Failed = Failed
make_error_of store.Memory = Memory

-- a count of faults did not fall, and where a call ended by a fault of the store it rose
pub record HasCauseFor (before now : ℕ) (ending : Ending) : Type 0 where
  pub later : before ≤ now
  pub failed : ending ≡ StoreFailed → Rose before now
