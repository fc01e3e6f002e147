-- What reading the source's info and planning tell of the making.
use Rattle.std.proofs.Common.{◌≡◌, ℕ, Bool, List, [], ◌∷◌, Option, None, Some, Result, Ok, Err, ap, sym, ◌∙◌}
use Rattle.ig_defs.specs.declared.step.Act.{Act}
use Rattle.ig_defs.specs.declared.step.Act.TheVariants as act
use Rattle.ig_defs.specs.Files.{Files, file_at}
use Rattle.ig_defs.specs.Log.{Log, files_of}
use Rattle.ig_defs.specs.Own.{Moment}
use Rattle.ig_meaning.specs.Ending.{Ending, Finished, Refuses, StoreFailed, NoMemory}
use Rattle.ig_meaning.specs.Making.{Making, Refused, fresh_info, making_of_request, making_of_info, making_of_plan, making_of_source, where_it_looks}
use Rattle.ig_meaning.specs.Plan.{info_path, planned}
use Rattle.ig_meaning.specs.Refusal as refusal
use Rattle.ig_meaning.specs.Words.{Request}
use Rattle.ig_record.specs.declared.stage.Stage.{Stage}
use Rattle.ig_defs.specs.Turns.{Acted}
use Rattle.ig_stage.specs.Errors.{ending_of_make}
use Rattle.ig_stage.specs.Looking.{IsErrorOf, Looks}
use Rattle.ig_stage.specs.Making.{Explains}
use Rattle.ig_stage.specs.declared.error.MakeError.{MakeError}
use Rattle.ig_stage.specs.declared.error.MakeError.TheVariants.{Missing}
use Rattle.ig_stage.proofs.Lookings.{looks_nowhere, looks_once, reads_it}

module _ (allows : Bool → Files → Act → Type 0) (earlier : List Stage) (planned_as : Stage → List Moment → Making) where
  -- what comes once the source's info was read
  abbrev pub plans : Request → List ℕ → List Moment → Making
  plans request bytes = making_of_plan earlier planned_as (planned earlier request bytes)

  -- what comes once the stage is planned
  abbrev pub infos : Stage → List Moment → Making
  infos s = making_of_info earlier planned_as s (fresh_info s)

  looks_at : (request : Request) (path : List ℕ) (files : Files) (rest : List Moment) (found : Option (List ℕ)) → path ≡ info_path request.source → found ≡ file_at files path
      → making_of_request earlier planned_as request (record { files = files; act = act.Read path } ∷ rest) ≡ making_of_source earlier planned_as request found rest
  looks_at request path files rest found is finds =
      ap (λ b. where_it_looks b (making_of_source earlier planned_as request (file_at files (info_path request.source)) rest)) (reads_it (info_path request.source) path is)
      ∙ ap (λ f. making_of_source earlier planned_as request f rest) (ap (file_at files) (sym is) ∙ sym finds)

  -- the source's info was found
  pub found_source : (old new : Log) (request : Request) (path bytes : List ℕ) → path ≡ info_path request.source → Acted allows old new (act.Read path) → Some bytes ≡ file_at (files_of new) path
      → Looks allows (making_of_request earlier planned_as request) (plans request) old new (Ok bytes)
  found_source old new request path bytes is acted found =
      looks_once allows (making_of_request earlier planned_as request) (plans request) old new (Ok bytes) path acted
      (λ rest. looks_at request path (files_of new) rest (Some bytes) is found)

  -- it isn't there
  pub missed_source : (old new : Log) (request : Request) (path : List ℕ) → path ≡ info_path request.source → Acted allows old new (act.Read path) → None ≡ file_at (files_of new) path
      → Looks allows (making_of_request earlier planned_as request) (plans request) old new (Err (Missing path))
  missed_source old new request path is acted none =
      looks_once allows (making_of_request earlier planned_as request) (plans request) old new (Err (Missing path)) path acted
      (λ rest. looks_at request path (files_of new) rest None is none ∙ ap (λ p. Refused (refusal.Missing p)) (sym is))

  -- a plan takes no step
  plan_refused : (plan : Result Stage refusal.Refusal) (ending : Ending) → Explains ending plan → IsErrorOf (making_of_plan earlier planned_as plan) [] ending
  plan_refused plan (Refuses r) e = λ rest. ap (λ p. making_of_plan earlier planned_as p rest) e
  plan_refused plan NoMemory e = tt
  plan_refused plan StoreFailed e = absurd e
  plan_refused plan Finished e = absurd e

  pub looks_refused : {U : Type 0} (plan : Result Stage refusal.Refusal) (last : U → List Moment → Making) (log : Log) (e : MakeError)
      → Explains (ending_of_make e) plan → Looks allows (making_of_plan earlier planned_as plan) last log log (Err e)
  looks_refused plan last log e explains =
      looks_nowhere allows (making_of_plan earlier planned_as plan) last log (Err e) (plan_refused plan (ending_of_make e) explains)

  pub looks_planned : (plan : Result Stage refusal.Refusal) (log : Log) (s : Stage) → plan ≡ Ok s → Looks allows (making_of_plan earlier planned_as plan) infos log log (Ok s)
  looks_planned plan log s e =
      looks_nowhere allows (making_of_plan earlier planned_as plan) infos log (Ok s) (λ rest. ap (λ p. making_of_plan earlier planned_as p rest) e)
