-- What a command without a queue did.
use Rattle.std.specs.Prelude.{◌≡◌, List, [], ◌∷◌, Some, Result, Err, IfOk}
use Rattle.ig_defs.specs.declared.step.Act.{Act}
use Rattle.ig_defs.specs.Files.{file_at}
use Rattle.ig_defs.specs.Log.{Log, files_of}
use Rattle.ig_defs.specs.Own.{Moment, moments_since, put_all, puts_of}
use Rattle.ig_defs.specs.Replay.{AreQuiet}
use Rattle.ig_meaning.specs.Ending.{Ending, HasRun}
use Rattle.ig_meaning.specs.Making.{Planned, making_of_request}
use Rattle.ig_meaning.specs.Plan.{info_path, stage_of_found}
use Rattle.ig_meaning.specs.Words as meaning
use Rattle.ig_record.specs.declared.stage.Stage.{Stage}
use Rattle.ig_record.specs.Stage.{task_count}
use Rattle.ig_stage.specs.declared.error.LocalError.{LocalError}
use Rattle.ig_stage.specs.declared.error.LocalError.TheVariants.{Make}
use Rattle.ig_stage.specs.declared.error.MakeError.{MakeError}
use Rattle.ig_stage.specs.declared.local.RanStage.{RanStage}
use Rattle.ig_stage.specs.declared.request.Request.{Request}
use Rattle.ig_stage.specs.Did.{moments_from}
use Rattle.ig_stage.specs.Looking.{IsErrorOf}
use Rattle.ig_stage.specs.Making.{ListsTruly}
use Rattle.ig_stage.specs.Errors.{ending_of_make}
use Rattle.ig_stage.specs.Requests.{shown_request}
use Rattle.ig_stage.specs.Running.{ending_of}

-- that all tasks of the stage were run
abbrev pub ran_of : Stage → RanStage
ran_of s = record { kind = s.kind; tasks = task_count s }

-- Each own step only looked, and what was listed stood.
pub record OnlyLooked (old new : Log) : Type 0 where
  pub acts : List Act
  pub moments : moments_since old new ≡ moments_from (files_of old) acts
  pub quiet : AreQuiet acts
  pub truly : ListsTruly (files_of old) acts
  pub files : files_of new ≡ files_of old

-- The own steps planned the stage, and those after that are a run of it, which ended so. Only own puts changed the files.
pub record WasRun (request : meaning.Request) (old new : Log) (s : Stage) (ending : Ending) : Type 0 where
  pub planned : stage_of_found [] request (file_at (files_of old) (info_path request.source)) ≡ Some s
  pub after : List Moment
  pub made : making_of_request [] Planned request (moments_since old new) ≡ Planned s after
  pub run : HasRun s (files_of old) after ending
  pub puts : puts_of (moments_since old new) ≡ puts_of after
  pub files : files_of new ≡ put_all (files_of old) (puts_of after)

-- The copy was not made; or it was made and run.
pub data RanLocal (want : List Request) (old new : Log) (result : Result (List RanStage) LocalError) : Type 0 where
  not_made : (request : Request) (e : MakeError) → want ≡ request ∷ [] → result ≡ Err (Make e) → OnlyLooked old new
      → IsErrorOf (making_of_request [] Planned (shown_request request)) (moments_since old new) (ending_of_make e) → RanLocal want old new result
  was_run : (request : Request) (s : Stage) → want ≡ request ∷ [] → WasRun (shown_request request) old new s (ending_of result)
      → IfOk result (λ ran. ran ≡ ran_of s ∷ []) → RanLocal want old new result
