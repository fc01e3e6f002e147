-- Where nothing keeps a command from its end and no count of faults rises, it ends at 0 or 7.
use Rattle.std.proofs.Common.{◌≡◌, ℕ, List, [], Option, None, Some, Result, Err, refl, ap, sym, ◌∙◌, subst, inl, inr, ◌⊎◌}
use Rattle.ig_defs.specs.Causes.{Rose}
use Rattle.ig_defs.specs.Files.{Files}
use Rattle.ig_defs.specs.Log.{Log, files_of}
use Rattle.ig_defs.specs.Own.{moments_since, put_all}
use Rattle.ig_meaning.specs.Call.{IsReady}
use Rattle.ig_meaning.specs.Ending.{Finished, Refuses, StoreFailed, NoMemory}
use Rattle.ig_meaning.specs.Making.{Planned, making_of_request}
use Rattle.ig_meaning.specs.Plan.{stage_of_command}
use Rattle.ig_meaning.specs.Refusal.{Refusal}
use Rattle.ig_record.specs.declared.stage.Stage.{Stage}
use Rattle.ig_meaning.specs.Jobs.{jobs_of, sequential, with_info}
use Rattle.ig_meaning.specs.Words.{Command, Enqueue, Request, command_of}
use Rattle.ig_cli.specs.declared.report.CommandError.{CommandError}
use Rattle.ig_cli.specs.declared.report.CommandError.TheVariants.{Local}
use Rattle.ig_cli.specs.declared.done.Done.{Done}
use Rattle.ig_stage.specs.CanMake.{CanMake, IsNoRefusal}
use Rattle.ig_stage.specs.declared.error.LocalError.TheVariants.{Make}
use Rattle.ig_stage.specs.declared.error.MakeError.{MakeError}
use Rattle.ig_stage.specs.Errors.{ending_of_make}
use Rattle.ig_cli.specs.Performed.{Performed, JudgesWords, enqueued, not_words, not_read, not_made, was_run}
use Rattle.ig_cli.specs.Report.{Ended, Ends, NotWords, IsStatusOf, ended_of}
use Rattle.ig_cli.proofs.Performs.{HasWasRun, ends_same, refused_making, was_run_as}
use Rattle.ig_cli.proofs.Ready.{ready_not_refused}

-- the same stage has the same run
same_run : (s t : Stage) (files after : Files) → Some s ≡ Some t → sequential (jobs_of s) (with_info s.info files) ≡ None
    → sequential (jobs_of t) (with_info t.info files) ≡ Some after → ⊥
same_run s t files after same none some =
    let is : s ≡ t = cc in
    let no_run : sequential (jobs_of t) (with_info t.info files) ≡ None = subst (λ x. sequential (jobs_of x) (with_info x.info files) ≡ None) is none in
    let no_way : None ≡ Some after = sym no_run ∙ some in cc

run_not_refused : (words : List (List ℕ)) (old new : Log) (r : Refusal) → IsReady words (files_of old) → HasWasRun words old new (Refuses r) → ⊥
run_not_refused words old new r ready w = same_run w.stage ready.stage (files_of old) ready.after (sym w.planned ∙ ready.planned) w.run.refused ready.runs

-- a command with a queue runs no stage itself
queue_runs_none : (words : List (List ℕ)) (files : Files) (q : List ℕ) (request : Request) → IsReady words files → command_of words ≡ Some (Enqueue q request) → ⊥
queue_runs_none words files q request ready asked =
    let no_way : None ≡ Some ready.stage = sym (ap (λ command. stage_of_command command files) asked) ∙ ready.planned in cc

-- such a command does not refuse
never_refuses : (words : List (List ℕ)) (old new : Log) (result : Result Done CommandError) (r : Refusal) → IsReady words (files_of old) → Performed words old new result
    → ended_of result ≡ Ends (Refuses r) → ⊥
never_refuses words old new result r ready (not_words is none same) e = let no_way : NotWords ≡ Ends (Refuses r) = sym is ∙ e in cc
never_refuses words old new result r ready (not_read is same) e = let no_way : Ends NoMemory ≡ Ends (Refuses r) = sym is ∙ e in cc
never_refuses words old new result r ready (not_made request error is asked only fails) e =
    let ends : ending_of_make error ≡ Refuses r = ends_same (ending_of_make error) (Refuses r) (sym (ap ended_of is) ∙ e) in
    ready_not_refused words (files_of old) request only.acts r ready asked only.quiet only.truly
    (ap (making_of_request [] Planned request) (sym only.moments) ∙ refused_making (making_of_request [] Planned request) (moments_since old new) (ending_of_make error) r fails ends)
never_refuses words old new result r ready (was_run request stage ending is asked w done) e =
    run_not_refused words old new r ready
    (subst (HasWasRun words old new) (ends_same ending (Refuses r) (sym is ∙ e)) (was_run_as words old new request asked stage ending w))
never_refuses words old new result r ready (enqueued q request made is asked m) e = absurd (queue_runs_none words (files_of old) q request ready asked)

-- and its words are a command's
has_command : (command : Option Command) (files : Files) (s : Stage) → stage_of_command command files ≡ Some s → command ≡ None → ⊥
has_command None files s planned none = let no_way : ⊥ = cc in absurd no_way
has_command (Some command) files s planned none = let no_way : ⊥ = cc in absurd no_way

-- the statuses that are left
left : (ended : Ended) (status : ℕ) → IsStatusOf ended status → (ended ≡ NotWords → ⊥) → ((r : Refusal) → ended ≡ Ends (Refuses r) → ⊥) → (ended ≡ Ends StoreFailed → ⊥)
    → (status ≡ 9 → ⊥) → (status ≡ 0) ⊎ (status ≡ 7)
left NotWords status is words refuses store out = absurd (words refl)
left (Ends Finished) status (inl is) words refuses store out = inl is
left (Ends Finished) status (inr (inl is)) words refuses store out = inr is
left (Ends Finished) status (inr (inr is)) words refuses store out = absurd (out is)
left (Ends (Refuses r)) status is words refuses store out = absurd (refuses r refl)
left (Ends StoreFailed) status is words refuses store out = absurd (store refl)
left (Ends NoMemory) status is words refuses store out = inr is

pub complete : (words : List (List ℕ)) (old new : Log) (result : Result Done CommandError) (status store_before store_now out_before out_now : ℕ)
    → IsStatusOf (ended_of result) status → JudgesWords words (ended_of result) → Performed words old new result
    → (ended_of result ≡ Ends StoreFailed → Rose store_before store_now) → (status ≡ 9 → Rose out_before out_now)
    → IsReady words (files_of old) → ¬ Rose store_before store_now → ¬ Rose out_before out_now → (status ≡ 0) ⊎ (status ≡ 7)
complete words old new result status store_before store_now out_before out_now is judges performed store_failed out_failed ready store_quiet out_quiet =
    left (ended_of result) status is
    (λ not_words. has_command (command_of words) (files_of old) ready.stage ready.planned (judges.not_words not_words))
    (λ r. never_refuses words old new result r ready performed)
    (λ failed. store_quiet (store_failed failed))
    (λ nine. out_quiet (out_failed nine))

-- ---- in a queue

-- the error of a making that is no refusal
making_goes_on : (e : MakeError) (r : Refusal) → IsNoRefusal (ending_of_make e) → Ends (ending_of_make e) ≡ Ends (Refuses r) → ⊥
making_goes_on e r well is = subst IsNoRefusal (ends_same (ending_of_make e) (Refuses r) is) well

-- by what the making gave
pub enqueue_goes_on : (result : Result Done CommandError) (e : MakeError) (r : Refusal) → result ≡ Err (Local (Make e)) → IsNoRefusal (ending_of_make e) → ended_of result ≡ Ends (Refuses r) → ⊥
enqueue_goes_on result e r is well ended = making_goes_on e r well (sym (ap ended_of is) ∙ ended)

-- one command, two ways to name it
pub can_as : (p q : List ℕ) (asked request : Request) (files : Files) → Some (Enqueue p asked) ≡ Some (Enqueue q request) → CanMake q request files → CanMake p asked files
can_as p q asked request files same can =
    let queue : p ≡ q = cc in
    let wanted : asked ≡ request = cc in
    subst (λ d. CanMake d asked files) (sym queue) (subst (λ w. CanMake q w files) (sym wanted) can)

pub complete_made : (words : List (List ℕ)) (ended : Ended) (status store_before store_now out_before out_now : ℕ) (q : List ℕ) (request : Request)
    → IsStatusOf ended status → JudgesWords words ended → (ended ≡ Ends StoreFailed → Rose store_before store_now) → (status ≡ 9 → Rose out_before out_now)
    → command_of words ≡ Some (Enqueue q request) → ((r : Refusal) → ended ≡ Ends (Refuses r) → ⊥) → ¬ Rose store_before store_now → ¬ Rose out_before out_now → (status ≡ 0) ⊎ (status ≡ 7)
complete_made words ended status store_before store_now out_before out_now q request is judges store_failed out_failed asked refuses store_quiet out_quiet =
    left ended status is
    (λ not_words. let no_way : None ≡ Some (Enqueue q request) = sym (judges.not_words not_words) ∙ asked in cc)
    refuses
    (λ failed. store_quiet (store_failed failed))
    (λ nine. out_quiet (out_failed nine))
