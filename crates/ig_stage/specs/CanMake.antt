-- Nothing keeps a stage from being made in a queue: this project's own.
use Rattle.std.specs.Prelude.{◌≡◌, ◌<◌, ◌^◌, ℕ, true, List, [], ◌∷◌, None, Some, length}
use Rattle.ig_defs.specs.declared.step.Step.{Step}
use Rattle.ig_defs.specs.Files.{Files, file_at}
use Rattle.ig_meaning.specs.Call.{AllEmpty}
use Rattle.ig_meaning.specs.Ending.{Ending, Finished, Refuses, StoreFailed, NoMemory}
use Rattle.ig_meaning.specs.Plan.{info_path, stage_of_found}
use Rattle.ig_meaning.specs.Taken.{unfit_after}
use Rattle.ig_meaning.specs.Words.{Request}
use Rattle.ig_record.specs.declared.stage.Stage.{Stage}
use Rattle.ig_record.specs.Columns.{output_dirs}
use Rattle.ig_rule.specs.QueueFiles.{queue_of}
use Rattle.ig_rule.specs.Stages.{Sealed}
use Rattle.ig_stage.specs.Free.{HasNoInfo}
use Rattle.ig_stage.specs.Recorded.{LacksSeal}
use Rattle.ig_task.specs.Maker.{KnowsStages}

-- nobody else steps
abbrev pub AllOwn : List Step → Type 0
AllOwn [] = Unit {0}
AllOwn (step ∷ steps) = (step.mine ≡ true) × AllOwn steps

-- All these stages are sealed, there is room for one more, it is planned from the source's info, no file stands at the path of its
-- info, where that has to be new, or lies in its output directories, none of these has one of its directories, and it fits.
pub record CanMakeNew (q : List ℕ) (request : Request) (stages : List Stage) (files : Files) : Type 0 where
  pub sealed : (n : ℕ) → n < length stages → Sealed (queue_of q files) n
  pub few : length stages < 10 ^ 4
  pub stage : Stage
  pub planned : stage_of_found stages request (file_at files (info_path request.source)) ≡ Some stage
  pub no_info : HasNoInfo stage files
  pub no_names : AllEmpty files (output_dirs stage)
  pub fits : unfit_after stages stage ≡ None

-- These stages are recorded, and either the last of them lacks its seal, or a new one can be made after them.
pub data CanMake (q : List ℕ) (request : Request) (files : Files) : Type 0 where
  continues_last : (stages : List Stage) → KnowsStages q stages files → LacksSeal q stages files → CanMake q request files
  makes_new : (stages : List Stage) → KnowsStages q stages files → CanMakeNew q request stages files → CanMake q request files

-- the making was not refused
abbrev pub IsNoRefusal : Ending → Type 0
IsNoRefusal (Refuses r) = ⊥
IsNoRefusal Finished = Unit {0}
IsNoRefusal StoreFailed = Unit {0}
IsNoRefusal NoMemory = Unit {0}
