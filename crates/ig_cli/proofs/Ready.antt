-- Where nothing keeps a command from running, its making is not refused.
use Rattle.std.proofs.Common.{◌≡◌, ℕ, zero, Bool, true, false, List, [], ◌∷◌, Option, None, Some, Result, Ok, Err, All, arith, refl, ap, sym, ◌∙◌, subst, is_some}
use Rattle.std.specs.Result.{result_ok}
use Rattle.std.specs.Str.{bytes_eq}
use Rattle.std.proofs.lemmas.Slice.Eq.{bytes_eq-Decides}
use Rattle.ig_defs.specs.declared.step.Act.{Act}
use Rattle.ig_defs.specs.declared.step.Act.TheVariants as act
use Rattle.ig_defs.specs.Files.{Files, file_at}
use Rattle.ig_defs.specs.Log.{after}
use Rattle.ig_defs.specs.Names.{Stands}
use Rattle.ig_defs.specs.Own.{Moment}
use Rattle.ig_defs.specs.Replay.{AreQuiet, after-quiet}
use Rattle.ig_meaning.specs.Call.{AllEmpty, IsReady}
use Rattle.ig_meaning.specs.Making.{Making, Refused, Unfinished, Planned, New, Continues, fresh_info, given_by, lists, making_of_request, making_of_dirs, making_of_fit, making_of_found, making_of_info, making_of_names, making_of_plan, making_of_source, reads, where_it_looks}
use Rattle.ig_meaning.specs.Plan.{info_path, planned, stage_of_command, stage_of_found}
use Rattle.ig_meaning.specs.Refusal.{Refusal}
use Rattle.ig_record.specs.Columns.{output_dirs}
use Rattle.ig_record.specs.declared.stage.Stage.{Stage}
use Rattle.ig_record.specs.declared.stage.InfoFile.{InfoFile}
use Rattle.ig_meaning.specs.Stage.{unfit}
use Rattle.ig_meaning.specs.Words.{Local, Request, command_of}
use Rattle.ig_stage.specs.Did.{moments_from}
use Rattle.ig_stage.specs.Making.{ListsTruly}

-- the making is not refused
abbrev IsFree : Making → Type 0
IsFree (Refused r) = ⊥
IsFree Unfinished = Unit {0}
IsFree (Planned s after) = Unit {0}
IsFree (New number s after) = Unit {0}
IsFree (Continues number s after) = Unit {0}

pub free_not_refused : (making : Making) (r : Refusal) → IsFree making → making ≡ Refused r → ⊥
free_not_refused making r free is = subst IsFree is free

-- it goes on only where the step looks
free_where : (looks : Bool) (making : Making) → (looks ≡ true → IsFree making) → IsFree (where_it_looks looks making)
free_where true making free = free refl
free_where false making free = tt

-- after a quiet act the files are the same
free_after : (files : Files) (a : Act) (making : Files → Making) → AreQuiet (a ∷ []) → IsFree (making files) → IsFree (making (after files a))
free_after files a making quiet free = subst (λ now. IsFree (making now)) (sym (after-quiet files a quiet.0)) free

free_fit : (s : Stage) (bad : Option Refusal) (ms : List Moment) → bad ≡ None → IsFree (making_of_fit Planned s bad ms)
free_fit s None ms fits = tt
free_fit s (Some r) ms fits = let no_way : ⊥ = cc in absurd no_way

-- a directory without files lists no name
free_names : (files : Files) (dir other : List ℕ) (given : List (List ℕ)) (making : Making) → dir ≡ other → ((name : List ℕ) → Stands files dir name → ⊥)
    → All (Stands files other) given → IsFree making → IsFree (making_of_names dir given making)
free_names files dir other [] making same empty stand free = free
free_names files dir other (name ∷ names) making same empty stand free =
    absurd (empty name (subst (λ d. Stands files d name) (sym same) (stand zero name (omega arith))))

-- the acts that follow list truly
truly_after : (files : Files) (a : Act) (acts : List Act) → ListsTruly files (a ∷ acts) → ListsTruly files acts
truly_after files (act.List dir given) acts truly = truly.1
truly_after files (act.Read path) acts truly = truly
truly_after files (act.Put path bytes) acts truly = truly
truly_after files (act.Move from to) acts truly = truly
truly_after files (act.Remove path) acts truly = truly

free_listing : (files : Files) (dir : List ℕ) (a : Act) (acts : List Act) (making : Making) → ((name : List ℕ) → Stands files dir name → ⊥)
    → ListsTruly files (a ∷ acts) → IsFree making → IsFree (where_it_looks (lists dir a) (making_of_names dir (given_by a) making))
free_listing files dir (act.List other given) acts making empty truly free =
    free_where (bytes_eq dir other) (making_of_names dir given making)
    (λ same. free_names files dir other given making ((bytes_eq-Decides dir other).0 same) empty truly.0 free)
free_listing files dir (act.Read path) acts making empty truly free = tt
free_listing files dir (act.Put path bytes) acts making empty truly free = tt
free_listing files dir (act.Move from to) acts making empty truly free = tt
free_listing files dir (act.Remove path) acts making empty truly free = tt

free_dirs : (s : Stage) (dirs : List (List ℕ)) (files : Files) (acts : List Act) → unfit s ≡ None → AllEmpty files dirs → AreQuiet acts → ListsTruly files acts
    → IsFree (making_of_dirs [] Planned s dirs (moments_from files acts))
free_dirs s [] files acts fits empty quiet truly = free_fit s (unfit s) (moments_from files acts) fits
free_dirs s (dir ∷ dirs) files [] fits empty quiet truly = tt
free_dirs s (dir ∷ dirs) files (a ∷ acts) fits empty quiet truly =
    free_after files a (λ now. where_it_looks (lists dir a) (making_of_names dir (given_by a) (making_of_dirs [] Planned s dirs (moments_from now acts)))) (quiet.0, tt)
    (free_listing files dir a acts (making_of_dirs [] Planned s dirs (moments_from files acts)) empty.0 truly
    (free_dirs s dirs files acts fits empty.1 quiet.1 (truly_after files a acts truly)))

free_found : (s : Stage) (path : List ℕ) (found : Option (List ℕ)) (ms : List Moment) → found ≡ None → IsFree (making_of_dirs [] Planned s (output_dirs s) ms) → IsFree (making_of_found [] Planned s path (is_some found) ms)
free_found s path None ms none free = free
free_found s path (Some bytes) ms none free = let no_way : ⊥ = cc in absurd no_way

free_info : (s : Stage) (info : Option InfoFile) (files : Files) (acts : List Act) → ((file : InfoFile) → info ≡ Some file → file_at files file.path ≡ None)
    → unfit s ≡ None → AllEmpty files (output_dirs s) → AreQuiet acts → ListsTruly files acts → IsFree (making_of_info [] Planned s info (moments_from files acts))
free_info s None files acts absent fits empty quiet truly = free_dirs s (output_dirs s) files acts fits empty quiet truly
free_info s (Some file) files [] absent fits empty quiet truly = tt
free_info s (Some file) files (a ∷ acts) absent fits empty quiet truly =
    free_after files a (λ now. where_it_looks (reads file.path a) (making_of_found [] Planned s file.path (is_some (file_at files file.path)) (moments_from now acts))) (quiet.0, tt)
    (free_where (reads file.path a) (making_of_found [] Planned s file.path (is_some (file_at files file.path)) (moments_from files acts))
    (λ looks. free_found s file.path (file_at files file.path) (moments_from files acts) (absent file refl)
    (free_dirs s (output_dirs s) files acts fits empty quiet.1 (truly_after files a acts truly))))

-- what nothing keeps from being run
module _ (request : Request) (s : Stage) (files : Files) (absent : (file : InfoFile) → fresh_info s ≡ Some file → file_at files file.path ≡ None) (fits : unfit s ≡ None)
    (empty : AllEmpty files (output_dirs s)) where
  free_plan : (plan : Result Stage Refusal) (acts : List Act) → result_ok plan ≡ Some s → AreQuiet acts → ListsTruly files acts → IsFree (making_of_plan [] Planned plan (moments_from files acts))
  free_plan (Ok other) acts is quiet truly =
      let same : s ≡ other = cc in
      subst (λ stage. IsFree (making_of_plan [] Planned (Ok stage) (moments_from files acts))) same (free_info s (fresh_info s) files acts absent fits empty quiet truly)
  free_plan (Err r) acts is quiet truly = let no_way : ⊥ = cc in absurd no_way

  free_source : (found : Option (List ℕ)) (acts : List Act) → stage_of_found [] request found ≡ Some s → AreQuiet acts → ListsTruly files acts
      → IsFree (making_of_source [] Planned request found (moments_from files acts))
  free_source None acts is quiet truly = let no_way : ⊥ = cc in absurd no_way
  free_source (Some bytes) acts is quiet truly = free_plan (planned [] request bytes) acts is quiet truly

  free_request : (acts : List Act) → stage_of_found [] request (file_at files (info_path request.source)) ≡ Some s → AreQuiet acts → ListsTruly files acts
      → IsFree (making_of_request [] Planned request (moments_from files acts))
  free_request [] is quiet truly = tt
  free_request (a ∷ acts) is quiet truly =
      let path = info_path request.source in
      free_after files a (λ now. where_it_looks (reads path a) (making_of_source [] Planned request (file_at files path) (moments_from now acts))) (quiet.0, tt)
      (free_where (reads path a) (making_of_source [] Planned request (file_at files path) (moments_from files acts))
      (λ looks. free_source (file_at files path) acts is quiet.1 (truly_after files a acts truly)))

-- the making of a command that nothing keeps from running
pub ready_not_refused : (words : List (List ℕ)) (files : Files) (request : Request) (acts : List Act) (r : Refusal) → IsReady words files → command_of words ≡ Some (Local request)
    → AreQuiet acts → ListsTruly files acts → making_of_request [] Planned request (moments_from files acts) ≡ Refused r → ⊥
ready_not_refused words files request acts r ready asked quiet truly =
    let planned : stage_of_found [] request (file_at files (info_path request.source)) ≡ Some ready.stage = sym (ap (λ command. stage_of_command command files) asked) ∙ ready.planned in
    free_not_refused (making_of_request [] Planned request (moments_from files acts)) r (free_request request ready.stage files ready.no_info ready.fits ready.no_names acts planned quiet truly)
