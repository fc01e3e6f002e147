-- A making is not refused where nothing of what it looks at is in its way, and each own step finds the same files.
use Rattle.std.proofs.Common.{◌≡◌, ℕ, zero, Bool, true, false, List, [], ◌∷◌, Option, None, Some, Result, Ok, Err, All, arith, refl, ap, sym, ◌∙◌, subst, is_some}
use Rattle.std.specs.Result.{result_ok}
use Rattle.std.specs.Str.{bytes_eq}
use Rattle.std.proofs.lemmas.Slice.Eq.{bytes_eq-Decides}
use Rattle.ig_defs.specs.declared.step.Act.{Act}
use Rattle.ig_defs.specs.declared.step.Act.TheVariants as act
use Rattle.ig_defs.specs.Files.{Files, file_at}
use Rattle.ig_defs.specs.Names.{Stands}
use Rattle.ig_defs.specs.Own.{Moment}
use Rattle.ig_meaning.specs.Call.{AllEmpty}
use Rattle.ig_meaning.specs.Making.{Making, Refused, Unfinished, Planned, New, Continues, fresh_info, given_by, lists, making_of_request, making_of_dirs, making_of_fit, making_of_found, making_of_info, making_of_names, making_of_plan, making_of_source, reads, where_it_looks}
use Rattle.ig_meaning.specs.Plan.{info_path, planned, stage_of_found}
use Rattle.ig_meaning.specs.Refusal.{Refusal}
use Rattle.ig_meaning.specs.Taken.{unfit_after}
use Rattle.ig_meaning.specs.Words.{Request}
use Rattle.ig_record.specs.declared.stage.InfoFile.{InfoFile}
use Rattle.ig_record.specs.declared.stage.Stage.{Stage}
use Rattle.ig_record.specs.Columns.{output_dirs}
use Rattle.ig_rule.specs.WentOn.{EachMoment}
use Rattle.ig_stage.specs.Free.{HasNoInfo}
use Rattle.ig_stage.specs.Looking.{AllListTruly, ListsTruly}

-- the making is not refused
abbrev pub IsFree : Making → Type 0
IsFree (Refused r) = ⊥
IsFree Unfinished = Unit {0}
IsFree (Planned s after) = Unit {0}
IsFree (New number s after) = Unit {0}
IsFree (Continues number s after) = Unit {0}

pub free_not_refused : (making : Making) (r : Refusal) → IsFree making → making ≡ Refused r → ⊥
free_not_refused making r free is = subst IsFree is free

-- each own step finds these files, and what it lists is true
abbrev pub Finds : Files → List Moment → Type 0
Finds files [] = Unit {0}
Finds files (m ∷ ms) = (m.files ≡ files) × ListsTruly m.files m.act × Finds files ms

pub finds_from : (files : Files) (ms : List Moment) → EachMoment (λ now a. now ≡ files) ms → AllListTruly ms → Finds files ms
finds_from files [] same truly = tt
finds_from files (m ∷ ms) same truly = (same.0, truly.0, finds_from files ms same.1 truly.1)

-- it goes on only where the step looks
pub free_where : (looks : Bool) (making : Making) → (looks ≡ true → IsFree making) → IsFree (where_it_looks looks making)
free_where true making free = free refl
free_where false making free = tt

-- a directory without files lists no name
free_names : (files : Files) (dir other : List ℕ) (given : List (List ℕ)) (making : Making) → dir ≡ other → ((name : List ℕ) → Stands files dir name → ⊥)
    → All (Stands files other) given → IsFree making → IsFree (making_of_names dir given making)
free_names files dir other [] making same empty stand free = free
free_names files dir other (name ∷ names) making same empty stand free =
    absurd (empty name (subst (λ d. Stands files d name) (sym same) (stand zero name (omega arith))))

free_listing : (files now : Files) (dir : List ℕ) (a : Act) (making : Making) → ((name : List ℕ) → Stands files dir name → ⊥) → now ≡ files → ListsTruly now a → IsFree making
    → IsFree (where_it_looks (lists dir a) (making_of_names dir (given_by a) making))
free_listing files now dir (act.List other given) making empty same truly free =
    free_where (bytes_eq dir other) (making_of_names dir given making)
    (λ looks. free_names files dir other given making ((bytes_eq-Decides dir other).0 looks) empty (subst (λ f. All (Stands f other) given) same truly.only) free)
free_listing files now dir (act.Read path) making empty same truly free = tt
free_listing files now dir (act.Put path bytes) making empty same truly free = tt
free_listing files now dir (act.Move from to) making empty same truly free = tt
free_listing files now dir (act.Remove path) making empty same truly free = tt

module _ (earlier : List Stage) (planned_as : Stage → List Moment → Making) (free_as : (s : Stage) (ms : List Moment) → IsFree (planned_as s ms)) (files : Files) where
  free_fit : (s : Stage) (bad : Option Refusal) (ms : List Moment) → bad ≡ None → IsFree (making_of_fit planned_as s bad ms)
  free_fit s None ms fits = free_as s ms
  free_fit s (Some r) ms fits = let no_way : ⊥ = cc in absurd no_way

  free_dirs : (s : Stage) (dirs : List (List ℕ)) (ms : List Moment) → unfit_after earlier s ≡ None → AllEmpty files dirs → Finds files ms → IsFree (making_of_dirs earlier planned_as s dirs ms)
  free_dirs s [] ms fits empty finds = free_fit s (unfit_after earlier s) ms fits
  free_dirs s (dir ∷ dirs) [] fits empty finds = tt
  free_dirs s (dir ∷ dirs) (m ∷ ms) fits empty finds =
      free_listing files m.files dir m.act (making_of_dirs earlier planned_as s dirs ms) empty.0 finds.0 finds.1 (free_dirs s dirs ms fits empty.1 finds.2)

  free_found : (s : Stage) (path : List ℕ) (found : Option (List ℕ)) (ms : List Moment) → found ≡ None → IsFree (making_of_dirs earlier planned_as s (output_dirs s) ms)
      → IsFree (making_of_found earlier planned_as s path (is_some found) ms)
  free_found s path None ms none free = free
  free_found s path (Some bytes) ms none free = let no_way : ⊥ = cc in absurd no_way

  free_info : (s : Stage) (info : Option InfoFile) (ms : List Moment) → ((file : InfoFile) → info ≡ Some file → file_at files file.path ≡ None)
      → unfit_after earlier s ≡ None → AllEmpty files (output_dirs s) → Finds files ms → IsFree (making_of_info earlier planned_as s info ms)
  free_info s None ms absent fits empty finds = free_dirs s (output_dirs s) ms fits empty finds
  free_info s (Some file) [] absent fits empty finds = tt
  free_info s (Some file) (m ∷ ms) absent fits empty finds =
      free_where (reads file.path m.act) (making_of_found earlier planned_as s file.path (is_some (file_at m.files file.path)) ms)
      (λ looks. free_found s file.path (file_at m.files file.path) ms (ap (λ now. file_at now file.path) finds.0 ∙ absent file refl) (free_dirs s (output_dirs s) ms fits empty finds.2))

  module _ (request : Request) (s : Stage) (absent : HasNoInfo s files) (fits : unfit_after earlier s ≡ None) (empty : AllEmpty files (output_dirs s)) where
    free_plan : (plan : Result Stage Refusal) (ms : List Moment) → result_ok plan ≡ Some s → Finds files ms → IsFree (making_of_plan earlier planned_as plan ms)
    free_plan (Ok other) ms is finds =
        let same : s ≡ other = cc in
        subst (λ stage. IsFree (making_of_plan earlier planned_as (Ok stage) ms)) same (free_info s (fresh_info s) ms absent fits empty finds)
    free_plan (Err r) ms is finds = let no_way : ⊥ = cc in absurd no_way

    free_source : (found : Option (List ℕ)) (ms : List Moment) → stage_of_found earlier request found ≡ Some s → Finds files ms → IsFree (making_of_source earlier planned_as request found ms)
    free_source None ms is finds = let no_way : ⊥ = cc in absurd no_way
    free_source (Some bytes) ms is finds = free_plan (planned earlier request bytes) ms is finds

    pub free_request : (ms : List Moment) → stage_of_found earlier request (file_at files (info_path request.source)) ≡ Some s → Finds files ms → IsFree (making_of_request earlier planned_as request ms)
    free_request [] is finds = tt
    free_request (m ∷ ms) is finds =
        let path = info_path request.source in
        free_where (reads path m.act) (making_of_source earlier planned_as request (file_at m.files path) ms)
        (λ looks. free_source (file_at m.files path) ms (ap (λ now. stage_of_found earlier request (file_at now path)) finds.0 ∙ is) finds.2)
