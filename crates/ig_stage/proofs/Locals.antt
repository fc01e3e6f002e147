-- What is said of a command without a queue, from what it did.
use Rattle.std.proofs.Common.{◌≡◌, ℕ, Bool, List, [], ◌∷◌, ◌++◌, Option, Some, Result, Ok, Err, length, drop, refl, ap, sym, ◌∙◌, subst}
use Rattle.std.proofs.Math.Seq.{drop-append_seam}
use Rattle.ig_defs.specs.declared.step.Act.{Act}
use Rattle.ig_defs.specs.declared.step.Act.TheVariants as act
use Rattle.ig_defs.specs.Files.{Files, file_at}
use Rattle.ig_defs.specs.Log.{Log, files_of}
use Rattle.ig_defs.specs.Own.{moments_since, own_moments, put_all, puts_of}
use Rattle.ig_defs.specs.Replay.{AreQuiet}
use Rattle.ig_meaning.specs.Ending.{Ending, NoMemory, HasRun}
use Rattle.ig_meaning.specs.Making.{Planned, making_of_request}
use Rattle.ig_meaning.specs.Plan.{info_path, stage_of_found}
use Rattle.ig_meaning.specs.Words as meaning
use Rattle.ig_record.specs.declared.stage.Stage.{Stage}
use Rattle.ig_stage.specs.declared.error.LocalError.{LocalError}
use Rattle.ig_stage.specs.declared.error.LocalError.TheVariants.{Make}
use Rattle.ig_stage.specs.declared.error.MakeError.{MakeError}
use Rattle.ig_stage.specs.declared.local.RanStage.{RanStage}
use Rattle.ig_stage.specs.declared.request.Request.{Request}
use Rattle.ig_stage.specs.Did.{Did, moments_from}
use Rattle.ig_stage.specs.Drafts.{CanRun}
use Rattle.ig_stage.specs.Local.{OnlyLooked, RanLocal, WasRun, not_made, ran_of, was_run}
use Rattle.ig_stage.specs.Looking.{IsErrorOf, Looks}
use Rattle.ig_stage.specs.Pipeline.{local_rule}
use Rattle.ig_task.specs.Pipeline.{is_allowed}
use Rattle.ig_task.specs.declared.pipeline.Pipeline.{Pipeline}
use Rattle.ig_stage.proofs.LocalLooks.{LooksLocally, looks_locally}
use Rattle.ig_stage.specs.Making.{ListsTruly}
use Rattle.ig_stage.specs.Errors.{ending_of_make}
use Rattle.ig_stage.specs.Requests.{shown_request}
use Rattle.ig_stage.specs.Running.{Runs, ending_of, ending_of_local}
use Rattle.ig_stage.proofs.Dids.{did_then, moments_from-append, quiet_files}
use Rattle.ig_stage.proofs.RunEnds.{not_begun}
use Rattle.ig_stage.proofs.RunMoments.{puts_of-more}

moments_of_did : (old new : Log) (acts : List Act) → Did old new acts → moments_since old new ≡ moments_from (files_of old) acts
moments_of_did old new acts d =
    ap (λ steps. own_moments (files_of old) (drop (length old.steps) steps)) d.grown
    ∙ ap (own_moments (files_of old)) (drop-append_seam old.steps d.steps) ∙ d.moments

quiet_puts : (files : Files) (acts : List Act) → AreQuiet acts → puts_of (moments_from files acts) ≡ []
quiet_puts files [] quiet = refl
quiet_puts files (act.Read path ∷ acts) quiet = quiet_puts files acts quiet.1
quiet_puts files (act.List dir given ∷ acts) quiet = quiet_puts files acts quiet.1
quiet_puts files (act.Put path bytes ∷ acts) quiet = absurd quiet.0
quiet_puts files (act.Move from to ∷ acts) quiet = absurd quiet.0
quiet_puts files (act.Remove path ∷ acts) quiet = absurd quiet.0

-- what holds where only quiet acts were made
only_looked : (old new : Log) (acts : List Act) → Did old new acts → AreQuiet acts → ListsTruly (files_of old) acts → OnlyLooked old new
only_looked old new acts d quiet truly = record {
  acts = acts;
  moments = moments_of_did old new acts d;
  quiet = quiet;
  truly = truly;
  files = d.files ∙ quiet_files (files_of old) acts quiet;
}

-- what holds where the stage was made and run
was_run_as : (old mid new : Log) (request : meaning.Request) (s : Stage) (ending : Ending)
    → stage_of_found [] request (file_at (files_of old) (info_path request.source)) ≡ Some s
    → LooksLocally {T = Stage} (making_of_request [] Planned request) Planned old mid (Ok s) → Runs s mid new ending → WasRun request old new s ending
was_run_as old mid new request s ending planned a b =
    let first = moments_from (files_of old) a.acts in
    let then = moments_from (files_of mid) b.acts in
    let same : files_of mid ≡ files_of old = a.did.files ∙ quiet_files (files_of old) a.acts a.quiet in
    let all : moments_since old new ≡ first ++ then
    = moments_of_did old new (a.acts ++ b.acts) (did_then old mid new a.acts b.acts a.did b.did)
    ∙ moments_from-append (files_of old) a.acts b.acts ∙ ap (λ files. first ++ moments_from files b.acts) (sym a.did.files) in
    record {
      planned = planned;
      after = then;
      made = ap (making_of_request [] Planned request) all ∙ a.made then;
      run = subst (λ files. HasRun s files then ending) same b.run;
      puts = ap puts_of all ∙ puts_of-more first then ∙ ap (λ files. files ++ puts_of then) (quiet_puts (files_of old) a.acts a.quiet);
      files = b.did.files ∙ b.files ∙ ap (λ files. put_all files (puts_of then)) same;
    }

-- there is no earlier stage
pub looked : (allows : Bool → Files → Act → Type 0) (request : meaning.Request) (earlier : List Stage) (old new : Log) (result : Result Stage MakeError) → earlier ≡ []
    → Looks allows (making_of_request earlier Planned request) Planned old new result → Looks allows (making_of_request [] Planned request) Planned old new result
looked allows request earlier old new result none looks = subst (λ stages. Looks allows (making_of_request stages Planned request) Planned old new result) none looks

pub planned_alone : (request : meaning.Request) (earlier : List Stage) (found : Option (List ℕ)) (s : Stage) → earlier ≡ [] → stage_of_found earlier request found ≡ Some s
    → stage_of_found [] request found ≡ Some s
planned_alone request earlier found s none is = ap (λ stages. stage_of_found stages request found) (sym none) ∙ is

module _ (want : List Request) (request : Request) (one : want ≡ request ∷ []) (rule : Pipeline) (local : rule ≡ local_rule) (old : Log) where
  -- it was not made
  pub local_not_made : (new : Log) (e : MakeError) (result : Result (List RanStage) LocalError) → result ≡ Err (Make e)
      → Looks {T = Stage} (is_allowed rule) (making_of_request [] Planned (shown_request request)) Planned old new (Err e) → RanLocal want old new result
  local_not_made new e result is looks =
      let a = looks_locally {T = Stage} rule (making_of_request [] Planned (shown_request request)) Planned old new (Err e) local looks in
      not_made request e one is (only_looked old new a.acts a.did a.quiet a.truly)
      (subst (λ ms. IsErrorOf (making_of_request [] Planned (shown_request request)) ms (ending_of_make e)) (sym (moments_of_did old new a.acts a.did)) a.made)

  module _ (mid : Log) (s : Stage) (planned : stage_of_found [] (shown_request request) (file_at (files_of old) (info_path request.source)) ≡ Some s)
      (looks : Looks {T = Stage} (is_allowed rule) (making_of_request [] Planned (shown_request request)) Planned old mid (Ok s)) where
    a : LooksLocally {T = Stage} (making_of_request [] Planned (shown_request request)) Planned old mid (Ok s)
    a = looks_locally {T = Stage} rule (making_of_request [] Planned (shown_request request)) Planned old mid (Ok s) local looks

    -- its run failed
    pub local_failed : (new : Log) (e : LocalError) (result : Result (List RanStage) LocalError) → result ≡ Err e → Runs s mid new (ending_of_local e) → RanLocal want old new result
    local_failed new e result is b =
        subst (λ (r : Result (List RanStage) LocalError). RanLocal want old new r) (sym is) (was_run request s one (was_run_as old mid new (shown_request request) s (ending_of_local e) planned a b) tt)

    -- memory ran out before the run
    pub local_not_begun : (e : LocalError) (result : Result (List RanStage) LocalError) → result ≡ Err e → ending_of_local e ≡ NoMemory → CanRun s → RanLocal want old mid result
    local_not_begun e result is memory can =
        local_failed mid e result is (subst (Runs s mid mid) (sym memory) (not_begun s can mid))

    -- it was run
    pub local_done : (new : Log) (ran : List RanStage) → ran ≡ ran_of s ∷ [] → Runs s mid new (ending_of {T = List RanStage} (Ok ran)) → RanLocal want old new (Ok ran)
    local_done new ran is b = was_run request s one (was_run_as old mid new (shown_request request) s (ending_of {T = List RanStage} (Ok ran)) planned a b) is
