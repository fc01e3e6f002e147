-- The making of a stage, part by part.
use Rattle.std.proofs.Common.{◌≡◌, ℕ, Bool, List, Result, Ok, Err, None, sym, subst}
use Rattle.ig_defs.specs.declared.step.Act.{Act}
use Rattle.ig_defs.specs.Files.{Files}
use Rattle.ig_defs.specs.Log.{Log}
use Rattle.ig_defs.specs.Own.{Moment}
use Rattle.ig_meaning.specs.Making.{Making, fresh_info, making_of_request, making_of_dirs, making_of_info}
use Rattle.ig_meaning.specs.Plan.{planned}
use Rattle.ig_meaning.specs.Taken.{unfit_after}
use Rattle.ig_meaning.specs.Words.{Request}
use Rattle.ig_record.specs.declared.stage.Stage.{Stage}
use Rattle.ig_record.specs.Columns.{output_dirs}
use Rattle.ig_stage.specs.Errors.{ending_of_make}
use Rattle.ig_stage.specs.Looking.{Looks}
use Rattle.ig_stage.specs.Making.{Explains, JudgesFit}
use Rattle.ig_stage.specs.declared.error.MakeError.{MakeError}
use Rattle.ig_stage.specs.declared.error.MakeError.TheVariants.{Memory}
use Rattle.ig_stage.proofs.Lookings.{looks_error, looks_memory, looks_then}
use Rattle.ig_stage.proofs.Makings.{infos, looks_planned, looks_refused, plans}
use Rattle.ig_stage.proofs.NewLayers.{dirs, fit, looks_fit, looks_unfit}

module _ (allows : Bool → Files → Act → Type 0) (earlier : List Stage) (planned_as : Stage → List Moment → Making) (request : Request) where
  abbrev making : List Moment → Making
  making = making_of_request earlier planned_as request

  abbrev pub Reads : Log → Log → Result (List ℕ) MakeError → Type 0
  Reads = Looks allows making (plans allows earlier planned_as request)

  abbrev pub Plans : Log → Log → Result Stage MakeError → Type 0
  Plans = Looks allows making (infos allows earlier planned_as)

  abbrev pub Makes : Log → Log → Result Stage MakeError → Type 0
  Makes = Looks allows making planned_as

  pub plan_made : (old mid : Log) (bytes : List ℕ) (s : Stage) → Reads old mid (Ok bytes) → planned earlier request bytes ≡ Ok s → Plans old mid (Ok s)
  plan_made old mid bytes s a e =
      looks_then allows making (plans allows earlier planned_as request) (infos allows earlier planned_as) old mid mid bytes (Ok s) a
      (looks_planned allows earlier planned_as (planned earlier request bytes) mid s e)

  -- the directories that were listed are the stage's
  pub of_stage : (s : Stage) (dirs : List (List ℕ)) (old new : Log) (result : Result (Unit {0}) MakeError) → dirs ≡ output_dirs s
      → Looks allows (making_of_dirs earlier planned_as s dirs) (fit allows earlier planned_as s) old new result
      → Looks allows (making_of_dirs earlier planned_as s (output_dirs s)) (fit allows earlier planned_as s) old new result
  of_stage s dirs old new result are = subst (λ (ds : List (List ℕ)). Looks allows (making_of_dirs earlier planned_as s ds) (fit allows earlier planned_as s) old new result) are

  pub plan_not_made : (old mid : Log) (bytes : List ℕ) (e : MakeError) (result : Result Stage MakeError) → result ≡ Err e → Reads old mid (Ok bytes)
      → Explains (ending_of_make e) (planned earlier request bytes) → Makes old mid result
  plan_not_made old mid bytes e result is a explains =
      subst (Makes old mid) (sym is)
      (looks_then allows making (plans allows earlier planned_as request) planned_as old mid mid bytes (Err e) a
      (looks_refused allows earlier planned_as (planned earlier request bytes) planned_as mid e explains))

  module _ (s : Stage) where
    abbrev pub Checks : Log → Log → Result (Unit {0}) MakeError → Type 0
    Checks = Looks allows (making_of_info earlier planned_as s (fresh_info s)) (dirs allows earlier planned_as s)

    abbrev pub Lists : Log → Log → Result (Unit {0}) MakeError → Type 0
    Lists = Looks allows (making_of_dirs earlier planned_as s (output_dirs s)) (fit allows earlier planned_as s)

    -- the info is not there
    abbrev pub IsAbsent : Log → Log → Result (Unit {0}) MakeError → Type 0
    IsAbsent = Looks allows making (dirs allows earlier planned_as s)

    -- and the directory is empty
    abbrev pub IsEmpty : Log → Log → Result (Unit {0}) MakeError → Type 0
    IsEmpty = Looks allows making (fit allows earlier planned_as s)

    -- memory ran out before its directories were looked at
    pub plan_forgotten : (old mid : Log) (e : MakeError) (result : Result Stage MakeError) → result ≡ Err e → e ≡ Memory → Plans old mid (Ok s) → Makes old mid result
    plan_forgotten old mid e result is memory a = looks_memory allows making (infos allows earlier planned_as) planned_as old mid s e result is memory a

    pub info_not_absent : (old mid new : Log) (e : MakeError) (result : Result Stage MakeError) → result ≡ Err e → Plans old mid (Ok s) → Checks mid new (Err e) → Makes old new result
    info_not_absent old mid new e result is a b =
        looks_error allows making (dirs allows earlier planned_as s) planned_as old new e result is
        (looks_then allows making (infos allows earlier planned_as) (dirs allows earlier planned_as s) old mid new s (Err e) a b)

    pub info_is_absent : (old mid new : Log) (x : Unit {0}) → Plans old mid (Ok s) → Checks mid new (Ok x) → IsAbsent old new (Ok x)
    info_is_absent old mid new x a b =
        looks_then allows making (infos allows earlier planned_as) (dirs allows earlier planned_as s) old mid new s (Ok x) a b

    pub dir_not_empty : (old mid new : Log) (x : Unit {0}) (e : MakeError) (result : Result Stage MakeError) → result ≡ Err e
        → IsAbsent old mid (Ok x) → Lists mid new (Err e) → Makes old new result
    dir_not_empty old mid new x e result is a b =
        looks_error allows making (fit allows earlier planned_as s) planned_as old new e result is
        (looks_then allows making (dirs allows earlier planned_as s) (fit allows earlier planned_as s) old mid new x (Err e) a b)

    pub dir_is_empty : (old mid new : Log) (x y : Unit {0}) → IsAbsent old mid (Ok x) → Lists mid new (Ok y) → IsEmpty old new (Ok y)
    dir_is_empty old mid new x y a b =
        looks_then allows making (dirs allows earlier planned_as s) (fit allows earlier planned_as s) old mid new x (Ok y) a b

    pub not_fit : (old new : Log) (x : Unit {0}) (e : MakeError) (result : Result Stage MakeError) → result ≡ Err e
        → IsEmpty old new (Ok x) → JudgesFit (unfit_after earlier s) (Err e) → Makes old new result
    not_fit old new x e result is a judged =
        subst (Makes old new) (sym is)
        (looks_then allows making (fit allows earlier planned_as s) planned_as old new new x (Err e) a (looks_unfit allows earlier planned_as new s e judged))

    pub stage_made : (old new : Log) (x : Unit {0}) → IsEmpty old new (Ok x) → unfit_after earlier s ≡ None → Makes old new (Ok s)
    stage_made old new x a e = looks_then allows making (fit allows earlier planned_as s) planned_as old new new x (Ok s) a (looks_fit allows earlier planned_as new s e)
