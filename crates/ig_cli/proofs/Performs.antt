-- What is said of a command, from what it did.
use Rattle.std.proofs.Common.{◌≡◌, ℕ, List, [], ◌∷◌, Option, None, Some, Result, Ok, Err, length, drop, refl, ap, sym, ◌∙◌, subst, append-nil}
use Rattle.std.proofs.Math.Seq.{drop-append_seam}
use Rattle.ig_defs.specs.declared.step.Act.{Act}
use Rattle.ig_defs.specs.declared.step.Act.TheVariants as act
use Rattle.ig_defs.specs.Files.{Files}
use Rattle.ig_defs.specs.Log.{Log, after, files_of}
use Rattle.ig_defs.specs.Own.{Moment, moments_since, own_moments, put_all, puts_of}
use Rattle.ig_defs.specs.Replay.{AreQuiet}
use Rattle.ig_meaning.specs.Call.{AllLook}
use Rattle.ig_meaning.specs.Ending.{Ending, Finished, Refuses, StoreFailed, NoMemory, HasRun, IsFaultOf}
use Rattle.ig_meaning.specs.Making.{Making, Refused, Unfinished, Planned, New, Continues, making_of_request}
use Rattle.ig_meaning.specs.Fault.{fault_of, fault_of_making, making_of, making_of_command}
use Rattle.ig_meaning.specs.Plan.{stage_of, stage_of_command}
use Rattle.ig_meaning.specs.QueueActs.{HasMade}
use Rattle.ig_meaning.specs.QueueMaking.{making_of_enqueue}
use Rattle.ig_rule.specs.Went.{Went}
use Rattle.ig_task.specs.Pipeline.{is_allowed}
use Rattle.ig_stage.specs.Open.{maker_rule}
use Rattle.ig_meaning.specs.Refusal as refusal
use Rattle.ig_meaning.specs.Words.{Local, Enqueue, Request, command_of, queue_of_command, queue_of_words}
use Rattle.ig_record.specs.declared.stage.Stage.{Stage}
use Rattle.ig_stage.specs.declared.error.LocalError.{LocalError}
use Rattle.ig_stage.specs.declared.error.LocalError.TheVariants.{Make}
use Rattle.ig_stage.specs.declared.error.MakeError.{MakeError}
use Rattle.ig_stage.specs.declared.error.MakeError.TheVariants.{Absent, BadRecord, TooManyStages, Missing, BadInfo, NoScale, NoStage, DestNotEmpty, Taken, ShapeUnfit, TooManyTasks, TaskTooLarge, Failed, Memory}
use Rattle.ig_stage.specs.declared.enqueuing.Made as queue
use Rattle.ig_stage.specs.declared.local.RanStage.{RanStage}
use Rattle.ig_stage.specs.declared.request.Request as reading
use Rattle.ig_stage.specs.Did.{moments_from}
use Rattle.ig_stage.specs.Local as local
use Rattle.ig_stage.specs.Local.{OnlyLooked, RanLocal, WasRun, ran_of}
use Rattle.ig_stage.specs.Looking.{IsErrorOf}
use Rattle.ig_stage.specs.Errors.{ending_of_make}
use Rattle.ig_stage.specs.Made.{AreMaking, EndsSo, LooksFirst, MakesIn}
use Rattle.ig_stage.specs.Requests.{shown_request}
use Rattle.ig_stage.specs.Running.{ending_of_local}
use Rattle.ig_cli.specs.declared.done.Done.{Done}
use Rattle.ig_cli.specs.declared.done.Done.TheVariants.{Ran}
use Rattle.ig_cli.specs.declared.report.CommandError.{CommandError}
use Rattle.ig_cli.specs.declared.report.CommandError.TheVariants.{Local}
use Rattle.ig_cli.specs.Performed.{Performed, enqueued, given_by, not_words, not_read, not_made, was_run}
use Rattle.ig_cli.specs.Report.{Ended, Ends, NotWords, ended_of}

-- ---- the end of a call is that of its command
module _ (words : List (List ℕ)) (old new : Log) (request : reading.Request) (asked : command_of words ≡ Some (Local (shown_request request))) where
  same_one : (want : List reading.Request) (other : reading.Request) → want ≡ request ∷ [] → want ≡ other ∷ [] → other ≡ request
  same_one want other is one = let same : other ∷ [] ≡ request ∷ [] = sym one ∙ is in cc

  -- it ended by an error
  pub performed_error : (want : List reading.Request) → want ≡ request ∷ [] → (e : LocalError) (result : Result Done CommandError) → result ≡ Err (Local e)
      → RanLocal want old new (Err e) → Performed words old new result
  performed_error want is e result ends (local.not_made other m one same looked error) =
      let r = same_one want other is one in
      let e_is : e ≡ Make m = cc in
      not_made (shown_request request) m (ends ∙ ap (λ x. Err (Local x)) e_is) asked looked
      (subst (λ (q : reading.Request). IsErrorOf (making_of_request [] Planned (shown_request q)) (moments_since old new) (ending_of_make m)) r error)
  performed_error want is e result ends (local.was_run other s one ran done) =
      let r = same_one want other is one in
      subst (Performed words old new) (sym ends)
      (was_run (shown_request request) s (ending_of_local e) refl asked (subst (λ (q : reading.Request). WasRun (shown_request q) old new s (ending_of_local e)) r ran) tt)

  -- or did all
  pub performed_done : (want : List reading.Request) → want ≡ request ∷ [] → (ran : List RanStage) → RanLocal want old new (Ok ran) → Performed words old new (Ok (Ran ran))
  performed_done want is ran (local.not_made other m one same looked error) = let no_way : ⊥ = cc in absurd no_way
  performed_done want is ran (local.was_run other s one was done) =
      let r = same_one want other is one in
      was_run (shown_request request) s Finished refl asked (subst (λ (q : reading.Request). WasRun (shown_request q) old new s Finished) r was) done

-- ---- moments
nothing_since : (log : Log) → moments_since log log ≡ []
nothing_since log =
    ap (λ steps. own_moments (files_of log) (drop (length log.steps) steps)) (sym (append-nil log.steps)) ∙ ap (own_moments (files_of log)) (drop-append_seam log.steps [])

pub since_same : (old new : Log) → new ≡ old → moments_since old new ≡ []
since_same old new same = ap (moments_since old) same ∙ nothing_since old

quiet_puts : (files : Files) (acts : List Act) → AreQuiet acts → puts_of (moments_from files acts) ≡ []
quiet_puts files [] quiet = refl
quiet_puts files (act.Read path ∷ acts) quiet = quiet_puts files acts quiet.1
quiet_puts files (act.List dir given ∷ acts) quiet = quiet_puts files acts quiet.1
quiet_puts files (act.Put path bytes ∷ acts) quiet = absurd quiet.0
quiet_puts files (act.Move from to ∷ acts) quiet = absurd quiet.0
quiet_puts files (act.Remove path ∷ acts) quiet = absurd quiet.0

quiet_looks : (files : Files) (acts : List Act) → AreQuiet acts → AllLook (moments_from files acts)
quiet_looks files [] quiet = tt
quiet_looks files (a ∷ acts) quiet = (quiet.0, quiet_looks (after files a) acts quiet.1)

-- ---- what holds where only quiet acts were made
pub record HasLooked (old new : Log) : Type 0 where
  pub files : files_of new ≡ files_of old
  pub puts : puts_of (moments_since old new) ≡ []
  pub look : AllLook (moments_since old new)

has_looked : (old new : Log) → OnlyLooked old new → HasLooked old new
has_looked old new o = record {
  files = o.files;
  puts = ap puts_of o.moments ∙ quiet_puts (files_of old) o.acts o.quiet;
  look = subst AllLook (sym o.moments) (quiet_looks (files_of old) o.acts o.quiet);
}

has_idled : (old new : Log) → new ≡ old → HasLooked old new
has_idled old new same =
    let none = since_same old new same in
    record { files = ap files_of same; puts = ap puts_of none; look = subst AllLook (sym none) tt }

-- ---- what holds where the copy was made and run
pub record HasWasRun (words : List (List ℕ)) (old new : Log) (ending : Ending) : Type 0 where
  pub stage : Stage
  pub after : List Moment
  pub planned : stage_of words (files_of old) ≡ Some stage
  pub made : making_of words (moments_since old new) ≡ Planned stage after
  pub run : HasRun stage (files_of old) after ending
  pub puts : puts_of (moments_since old new) ≡ puts_of after
  pub files : files_of new ≡ put_all (files_of old) (puts_of after)

module _ (words : List (List ℕ)) (old new : Log) (request : Request) (asked : command_of words ≡ Some (Local request)) where
  pub making_is : making_of words (moments_since old new) ≡ making_of_request [] Planned request (moments_since old new)
  making_is = ap (λ command. making_of_command command (moments_since old new)) asked

  pub planned_of : (s : Stage) (ending : Ending) → WasRun request old new s ending → stage_of words (files_of old) ≡ Some s
  planned_of s ending w = ap (λ command. stage_of_command command (files_of old)) asked ∙ w.planned

  pub was_run_as : (s : Stage) (ending : Ending) → WasRun request old new s ending → HasWasRun words old new ending
  was_run_as s ending w = record {
    stage = s;
    after = w.after;
    planned = planned_of s ending w;
    made = making_is ∙ w.made;
    run = w.run;
    puts = w.puts;
    files = w.files;
  }

-- a making that ended by an error did not finish, and its fault is that error
pub made_never_finished : (e : MakeError) → ¬ (ending_of_make e ≡ Finished)
made_never_finished (Absent path) is = cc
made_never_finished (BadRecord path member) is = cc
made_never_finished (TooManyStages count) is = cc
made_never_finished (Missing path) is = cc
made_never_finished (BadInfo path cause) is = cc
made_never_finished (NoScale mip count) is = cc
made_never_finished (NoStage kind) is = cc
made_never_finished (DestNotEmpty path) is = cc
made_never_finished (Taken stage) is = cc
made_never_finished (ShapeUnfit axis) is = cc
made_never_finished (TooManyTasks count) is = cc
made_never_finished (TaskTooLarge voxels) is = cc
made_never_finished Failed is = cc
made_never_finished Memory is = cc

pub refused_making : (making : List Moment → Making) (ms : List Moment) (ending : Ending) (r : refusal.Refusal) → IsErrorOf making ms ending → ending ≡ Refuses r → making ms ≡ Refused r
refused_making making ms (Refuses q) r error is = let same : q ≡ r = cc in ap making (sym (append-nil ms)) ∙ error [] ∙ ap Refused same
refused_making making ms Finished r error is = absurd error
refused_making making ms StoreFailed r error is = let no_way : ⊥ = cc in absurd no_way
refused_making making ms NoMemory r error is = let no_way : ⊥ = cc in absurd no_way

error_fault : (making : List Moment → Making) (ms : List Moment) (ending : Ending) → IsErrorOf making ms ending → IsFaultOf ending (fault_of_making (making ms))
error_fault making ms (Refuses r) error = ap fault_of_making (refused_making making ms (Refuses r) r error refl)
error_fault making ms Finished error = absurd error
error_fault making ms StoreFailed error = ap fault_of_making error
error_fault making ms NoMemory error = tt

-- ---- what holds where its making went on in a queue
pub ends_same : (a b : Ending) → Ends a ≡ Ends b → a ≡ b
ends_same a b e = cc

went_moments : (q : List ℕ) (old new : Log) (ms : List Moment) → Went (is_allowed (maker_rule q)) old new ms → moments_since old new ≡ ms
went_moments q old new ms w =
    ap (λ steps. own_moments (files_of old) (drop (length old.steps) steps)) w.grown ∙ ap (own_moments (files_of old)) (drop-append_seam old.steps w.steps) ∙ w.moments

pub record HasEnqueued (words : List (List ℕ)) (old new : Log) (q : List ℕ) (made : Result queue.Made MakeError) : Type 0 where
  pub queue_is : queue_of_words words ≡ Some q
  pub are : AreMaking q made (making_of words (moments_since old new)) (moments_since old new)
  pub looks : LooksFirst (making_of words (moments_since old new)) (moments_since old new)

module _ (words : List (List ℕ)) (old new : Log) (q : List ℕ) (request : Request) (made : Result queue.Made MakeError) (asked : command_of words ≡ Some (Enqueue q request))
    (m : MakesIn q request old new made) where
  making_there : making_of words (moments_since old new) ≡ making_of_enqueue q request m.ms
  making_there =
      ap (λ command. making_of_command command (moments_since old new)) asked ∙ ap (making_of_enqueue q request) (went_moments q old new m.ms m.went)

  pub enqueued_as : HasEnqueued words old new q made
  enqueued_as =
      let same = sym (went_moments q old new m.ms m.went) in
      let is = sym making_there in
      record {
        queue_is = ap queue_of_command asked;
        are = subst (λ making. AreMaking q made making (moments_since old new)) is (subst (AreMaking q made (making_of_enqueue q request m.ms)) same m.are);
        looks = subst (λ making. LooksFirst making (moments_since old new)) is (subst (LooksFirst (making_of_enqueue q request m.ms)) same m.looks);
      }

-- its fault
ends_fault : (ending : Ending) (making : Making) (ms : List Moment) → EndsSo ending making ms → IsFaultOf ending (fault_of_making making)
ends_fault (Refuses r) making ms ends = ap fault_of_making ends.0
ends_fault StoreFailed making ms ends = ends
ends_fault NoMemory making ms ends = tt
ends_fault Finished making ms ends = absurd ends

made_no_fault : (q : List ℕ) (making : Making) → HasMade q making → fault_of_making making ≡ None
made_no_fault q (New n s after) has = refl
made_no_fault q (Continues n s after) has = refl
made_no_fault q (Planned s after) has = absurd has
made_no_fault q (Refused r) has = absurd has
made_no_fault q Unfinished has = absurd has

-- it is refused where the command refuses
refused_there : (q : List ℕ) (made : Result queue.Made MakeError) (making : Making) (ms : List Moment) (r : refusal.Refusal) → AreMaking q made making ms
    → ended_of (given_by made) ≡ Ends (Refuses r) → making ≡ Refused r
refused_there q (Ok m) making ms r are e = let no_way : Finished ≡ Refuses r = ends_same Finished (Refuses r) e in cc
refused_there q (Err e) making ms r are refuses =
    (subst (λ ending. EndsSo ending making ms) (ends_same (ending_of_make e) (Refuses r) refuses) are).0

-- ---- both, by how the command ended
pub data Outcome (words : List (List ℕ)) (old new : Log) (ended : Ended) : Type 0 where
  looked : HasLooked old new → ¬ (ended ≡ Ends Finished) → ((r : refusal.Refusal) → ended ≡ Ends (Refuses r) → making_of words (moments_since old new) ≡ Refused r)
      → Outcome words old new ended
  ran : (ending : Ending) → ended ≡ Ends ending → HasWasRun words old new ending → Outcome words old new ended
  queued : (q : List ℕ) → queue_of_words words ≡ Some q → LooksFirst (making_of words (moments_since old new)) (moments_since old new)
      → ((r : refusal.Refusal) → ended ≡ Ends (Refuses r) → making_of words (moments_since old new) ≡ Refused r) → Outcome words old new ended

module _ (words : List (List ℕ)) (old new : Log) (request : Request) (e : MakeError) (asked : command_of words ≡ Some (Local request))
    (error : IsErrorOf (making_of_request [] Planned request) (moments_since old new) (ending_of_make e)) where
  pub not_made_fault : IsFaultOf (ending_of_make e) (fault_of words (moments_since old new))
  not_made_fault =
      subst (λ m. IsFaultOf (ending_of_make e) (fault_of_making m)) (sym (making_is words old new request asked))
      (error_fault (making_of_request [] Planned request) (moments_since old new) (ending_of_make e) error)

  pub not_made_refused : (r : refusal.Refusal) → ending_of_make e ≡ Refuses r → making_of words (moments_since old new) ≡ Refused r
  not_made_refused r is = making_is words old new request asked ∙ refused_making (making_of_request [] Planned request) (moments_since old new) (ending_of_make e) r error is

pub outcome : (words : List (List ℕ)) (old new : Log) (result : Result Done CommandError) → Performed words old new result → Outcome words old new (ended_of result)
outcome words old new result (not_words is none same) =
    looked (has_idled old new same) (λ finished. let no_way : NotWords ≡ Ends Finished = sym is ∙ finished in cc) (λ r refused. let no_way : NotWords ≡ Ends (Refuses r) = sym is ∙ refused in cc)
outcome words old new result (not_read is same) =
    looked (has_idled old new same) (λ finished. let no_way : Ends NoMemory ≡ Ends Finished = sym is ∙ finished in cc) (λ r refused. let no_way : Ends NoMemory ≡ Ends (Refuses r) = sym is ∙ refused in cc)
outcome words old new result (not_made request e is asked only error) =
    let ends : ended_of result ≡ Ends (ending_of_make e) = ap ended_of is in
    looked (has_looked old new only)
    (λ finished. made_never_finished e (ends_same (ending_of_make e) Finished (sym ends ∙ finished)))
    (λ r refused. not_made_refused words old new request e asked error r (ends_same (ending_of_make e) (Refuses r) (sym ends ∙ refused)))
outcome words old new result (was_run request stage ending is asked w done) = ran ending is (was_run_as words old new request asked stage ending w)
outcome words old new result (enqueued q request made is asked m) =
    let h = enqueued_as words old new q request made asked m in
    queued q h.queue_is h.looks
    (λ r refused. refused_there q made (making_of words (moments_since old new)) (moments_since old new) r h.are (sym (ap ended_of is) ∙ refused))

-- ---- the fault
abbrev pub IsFaultAt : Ended → Option refusal.Refusal → Type 0
IsFaultAt NotWords fault = fault ≡ None
IsFaultAt (Ends ending) fault = IsFaultOf ending fault

fault_there : (q : List ℕ) (made : Result queue.Made MakeError) (making : Making) (ms : List Moment) → AreMaking q made making ms → IsFaultAt (ended_of (given_by made)) (fault_of_making making)
fault_there q (Ok m) making ms are = made_no_fault q making are.0
fault_there q (Err e) making ms are = ends_fault (ending_of_make e) making ms are

pub fault_at : (words : List (List ℕ)) (old new : Log) (result : Result Done CommandError) → Performed words old new result → IsFaultAt (ended_of result) (fault_of words (moments_since old new))
fault_at words old new result (not_words is none same) = subst (λ ended. IsFaultAt ended (fault_of words (moments_since old new))) (sym is) (ap (λ command. fault_of_making (making_of_command command (moments_since old new))) none)
fault_at words old new result (not_read is same) = subst (λ ended. IsFaultAt ended (fault_of words (moments_since old new))) (sym is) tt
fault_at words old new result (not_made request e is asked only error) = subst (λ ended. IsFaultAt ended (fault_of words (moments_since old new))) (sym (ap ended_of is)) (not_made_fault words old new request e asked error)
fault_at words old new result (was_run request stage ending is asked w done) =
    let h = was_run_as words old new request asked stage ending w in
    subst (λ ended. IsFaultAt ended (fault_of words (moments_since old new))) (sym is) (subst (IsFaultOf ending) (sym (ap fault_of_making h.made)) h.run.fault)
fault_at words old new result (enqueued q request made is asked m) =
    subst (λ ended. IsFaultAt ended (fault_of words (moments_since old new))) (sym (ap ended_of is))
    (fault_there q made (making_of words (moments_since old new)) (moments_since old new) (enqueued_as words old new q request made asked m).are)

-- nothing is done where the words are no command's
no_command : (words : List (List ℕ)) (request : Request) → command_of words ≡ None → command_of words ≡ Some (Local request) → ⊥
no_command words request none asked = let no_way : None ≡ Some (Local request) = sym none ∙ asked in cc

no_queue : (words : List (List ℕ)) (q : List ℕ) (request : Request) → command_of words ≡ None → command_of words ≡ Some (Enqueue q request) → ⊥
no_queue words q request none asked = let no_way : None ≡ Some (Enqueue q request) = sym none ∙ asked in cc

pub idle : (words : List (List ℕ)) (old new : Log) (result : Result Done CommandError) → Performed words old new result → command_of words ≡ None → moments_since old new ≡ []
idle words old new result (not_words is none same) nothing = since_same old new same
idle words old new result (not_read is same) nothing = since_same old new same
idle words old new result (not_made request e is asked only error) nothing = absurd (no_command words request nothing asked)
idle words old new result (was_run request stage ending is asked w done) nothing = absurd (no_command words request nothing asked)
idle words old new result (enqueued q request made is asked m) nothing = absurd (no_queue words q request nothing asked)
