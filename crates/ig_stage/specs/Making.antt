-- What the steps of a making tell.
use Rattle.std.specs.Prelude.{◌≡◌, ℕ, List, [], ◌∷◌, All, Option, None, Some, Result, Ok, Err}
use Rattle.ig_info.specs.declared.error.InfoError.{InfoError}
use Rattle.ig_info.specs.declared.error.InfoError.TheVariants as info
use Rattle.ig_defs.specs.declared.step.Act.{Act}
use Rattle.ig_defs.specs.declared.step.Act.TheVariants as act
use Rattle.ig_defs.specs.Files.{Files}
use Rattle.ig_defs.specs.Names.{Stands}
use Rattle.ig_meaning.specs.Refusal as refusal
use Rattle.ig_record.specs.declared.stage.Stage as meaning
use Rattle.ig_meaning.specs.Ending.{Ending, Finished, Refuses, StoreFailed, NoMemory}
use Rattle.ig_stage.specs.declared.error.MakeError.{MakeError}
use Rattle.ig_stage.specs.declared.error.MakeError.TheVariants.{BadInfo, Memory}
use Rattle.ig_stage.specs.Errors.{ending_of_make}

-- the error of an info that is refused, or that memory did not suffice to read
abbrev pub info_error_of : List ℕ → InfoError → MakeError
info_error_of path info.Memory = Memory
info_error_of path info.NotJson = BadInfo path info.NotJson
info_error_of path (info.Member member) = BadInfo path (info.Member member)
info_error_of path (info.Unsupported member) = BadInfo path (info.Unsupported member)

-- a plan refuses so, where a call ends so
abbrev pub Explains : Ending → Result meaning.Stage refusal.Refusal → Type 0
Explains (Refuses r) planned = planned ≡ Err r
Explains NoMemory planned = Unit {0}
Explains StoreFailed planned = ⊥
Explains Finished planned = ⊥

-- a stage is refused so, where a call ends so
abbrev pub IsJudged : Ending → Option refusal.Refusal → Type 0
IsJudged (Refuses r) unfit = unfit ≡ Some r
IsJudged NoMemory unfit = ⊥
IsJudged StoreFailed unfit = ⊥
IsJudged Finished unfit = ⊥

abbrev pub JudgesFit : Option refusal.Refusal → Result (Unit {0}) MakeError → Type 0
JudgesFit unfit (Ok done) = unfit ≡ None
JudgesFit unfit (Err e) = IsJudged (ending_of_make e) unfit

-- each act that lists gives files that stand
abbrev pub ListsTruly : Files → List Act → Type 0
ListsTruly files [] = Unit {0}
ListsTruly files (act.List dir given ∷ acts) = All (Stands files dir) given × ListsTruly files acts
ListsTruly files (act.Read path ∷ acts) = ListsTruly files acts
ListsTruly files (act.Put path bytes ∷ acts) = ListsTruly files acts
ListsTruly files (act.Move from to ∷ acts) = ListsTruly files acts
ListsTruly files (act.Remove path ∷ acts) = ListsTruly files acts
