-- The clauses of the top call, each from what the command did, how it ended and its status.
use Rattle.std.proofs.Common.{◌≡◌, ◌≢◌, ◌↔◌, ◌<◌, ℕ, List, [], ◌∷◌, ◌++◌, Option, None, Some, Result, Ok, Err, IsSome, length, slice_index_or, refl, ap, sym, ◌∙◌, subst, inl, inr, arith, append-nil, Contains}
use Rattle.std.proofs.Math.Seq.{take-length}
use Rattle.ig_defs.specs.Causes.{Rose}
use Rattle.ig_defs.specs.Files.{Files}
use Rattle.ig_defs.specs.declared.step.Act.{Act}
use Rattle.ig_defs.specs.declared.step.Act.TheVariants as act
use Rattle.ig_defs.specs.Log.{Log, IsQuiet, files_of}
use Rattle.ig_defs.specs.Own.{File, Moment, moments_since, put_all, puts_of, with_put}
use Rattle.ig_store.specs.Sink.{TakesPrefix}
use Rattle.ig_meaning.specs.Call.{AllLook, IsCopied, IsSequential, PutsAll, PutsInOrder}
use Rattle.ig_meaning.specs.Ending.{Ending, Finished, Refuses, StoreFailed, NoMemory, AreFirst, AreAsFar}
use Rattle.ig_meaning.specs.Making.{Making, Refused, Unfinished, Planned, New, Continues}
use Rattle.ig_meaning.specs.Fault.{fault_of, making_of}
use Rattle.ig_meaning.specs.Lines.{fault_line, memory_text, stage_line, store_text, words_text}
use Rattle.ig_meaning.specs.Plan.{stage_of}
use Rattle.ig_meaning.specs.Refusal.{Refusal}
use Rattle.ig_record.specs.declared.stage.Stage.{Stage}
use Rattle.ig_stage.specs.Made.{LooksFirst}
use Rattle.ig_meaning.specs.Jobs.{planned_puts}
use Rattle.ig_meaning.specs.Words.{command_of, queue_of_command, queue_of_words}
use Rattle.ig_stage.specs.declared.error.MakeError.TheVariants.{Absent, BadRecord, TooManyStages, Missing as make_missing, BadInfo, NoScale, NoStage, DestNotEmpty, Taken, ShapeUnfit, TooManyTasks, TaskTooLarge, Failed, Memory as make_memory}
use Rattle.ig_cli.specs.declared.done.Done.{Done}
use Rattle.ig_cli.specs.declared.done.Done.TheVariants.{Ran, Made}
use Rattle.ig_cli.specs.declared.report.CommandError.{CommandError}
use Rattle.ig_cli.specs.declared.report.CommandError.TheVariants.{Words, Local}
use Rattle.ig_stage.specs.declared.error.LocalError.{LocalError}
use Rattle.ig_stage.specs.declared.error.LocalError.TheVariants.{Make, Run}
use Rattle.ig_task.specs.declared.error.RunError.TheVariants.{Missing, Malformed, TooManyParts, Memory}
use Rattle.ig_cli.specs.Performed.{Performed, IsRun, JudgesWords, enqueued, not_words, not_read, not_made, was_run}
use Rattle.ig_cli.specs.Printed.{HasComplained, HasPrinted, HasPrintedPart}
use Rattle.ig_stage.specs.Running.{ending_of_local}
use Rattle.ig_cli.specs.Report.{Ended, Ends, NotWords, HasTaken, HasTold, IsStatusOf, ended_of, err_line, out_line, ran_text}
use Rattle.ig_cli.proofs.Performs.{HasWasRun, IsFaultAt, Outcome, looked, planned_of, queued, ran}

-- ---- the status tells how the command ended
pub at_0 : (ended : Ended) (status : ℕ) → IsStatusOf ended status → status ≡ 0 → ended ≡ Ends Finished
at_0 NotWords status is e = absurd (omega (arith, is, e))
at_0 (Ends Finished) status is e = refl
at_0 (Ends (Refuses r)) status (inl is) e = absurd (omega (arith, is, e))
at_0 (Ends (Refuses r)) status (inr is) e = absurd (omega (arith, is, e))
at_0 (Ends StoreFailed) status is e = absurd (omega (arith, is, e))
at_0 (Ends NoMemory) status is e = absurd (omega (arith, is, e))

pub at_9 : (ended : Ended) (status : ℕ) → IsStatusOf ended status → status ≡ 9 → ended ≡ Ends Finished
at_9 NotWords status is e = absurd (omega (arith, is, e))
at_9 (Ends Finished) status is e = refl
at_9 (Ends (Refuses r)) status (inl is) e = absurd (omega (arith, is, e))
at_9 (Ends (Refuses r)) status (inr is) e = absurd (omega (arith, is, e))
at_9 (Ends StoreFailed) status is e = absurd (omega (arith, is, e))
at_9 (Ends NoMemory) status is e = absurd (omega (arith, is, e))

pub at_2 : (ended : Ended) (status : ℕ) → IsStatusOf ended status → status ≡ 2 → ended ≡ NotWords
at_2 NotWords status is e = refl
at_2 (Ends Finished) status (inl is) e = absurd (omega (arith, is, e))
at_2 (Ends Finished) status (inr (inl is)) e = absurd (omega (arith, is, e))
at_2 (Ends Finished) status (inr (inr is)) e = absurd (omega (arith, is, e))
at_2 (Ends (Refuses r)) status (inl is) e = absurd (omega (arith, is, e))
at_2 (Ends (Refuses r)) status (inr is) e = absurd (omega (arith, is, e))
at_2 (Ends StoreFailed) status is e = absurd (omega (arith, is, e))
at_2 (Ends NoMemory) status is e = absurd (omega (arith, is, e))

pub at_5 : (ended : Ended) (status : ℕ) → IsStatusOf ended status → status ≡ 5 → (r : Refusal) × (ended ≡ Ends (Refuses r))
at_5 NotWords status is e = absurd (omega (arith, is, e))
at_5 (Ends Finished) status (inl is) e = absurd (omega (arith, is, e))
at_5 (Ends Finished) status (inr (inl is)) e = absurd (omega (arith, is, e))
at_5 (Ends Finished) status (inr (inr is)) e = absurd (omega (arith, is, e))
at_5 (Ends (Refuses r)) status is e = (r, refl)
at_5 (Ends StoreFailed) status is e = absurd (omega (arith, is, e))
at_5 (Ends NoMemory) status is e = absurd (omega (arith, is, e))

pub at_6 : (ended : Ended) (status : ℕ) → IsStatusOf ended status → status ≡ 6 → ended ≡ Ends StoreFailed
at_6 NotWords status is e = absurd (omega (arith, is, e))
at_6 (Ends Finished) status (inl is) e = absurd (omega (arith, is, e))
at_6 (Ends Finished) status (inr (inl is)) e = absurd (omega (arith, is, e))
at_6 (Ends Finished) status (inr (inr is)) e = absurd (omega (arith, is, e))
at_6 (Ends (Refuses r)) status (inl is) e = absurd (omega (arith, is, e))
at_6 (Ends (Refuses r)) status (inr is) e = absurd (omega (arith, is, e))
at_6 (Ends StoreFailed) status is e = refl
at_6 (Ends NoMemory) status is e = absurd (omega (arith, is, e))

at : (xs : List ℕ) (x k : ℕ) → k < length xs → slice_index_or xs k x ≡ x → Contains xs x
at xs x k below is = (k, below, is)

abbrev statuses : List ℕ
statuses = 0 ∷ 2 ∷ 5 ∷ 6 ∷ 7 ∷ 9 ∷ []

among : (status n k : ℕ) → status ≡ n → k < 6 → slice_index_or statuses k status ≡ n → Contains statuses status
among status n k is below found = (k, below, found ∙ sym is)

pub is_a_status : (ended : Ended) (status : ℕ) → IsStatusOf ended status → Contains statuses status
is_a_status NotWords status is = among status 2 1 is (omega arith) refl
is_a_status (Ends Finished) status (inl is) = among status 0 0 is (omega arith) refl
is_a_status (Ends Finished) status (inr (inl is)) = among status 7 4 is (omega arith) refl
is_a_status (Ends Finished) status (inr (inr is)) = among status 9 5 is (omega arith) refl
is_a_status (Ends (Refuses r)) status (inl is) = among status 5 2 is (omega arith) refl
is_a_status (Ends (Refuses r)) status (inr is) = among status 7 4 is (omega arith) refl
is_a_status (Ends StoreFailed) status is = among status 6 3 is (omega arith) refl
is_a_status (Ends NoMemory) status is = among status 7 4 is (omega arith) refl

-- ---- 2 exactly where the words are no command's, unless memory ran out
pub words_judged : (words : List (List ℕ)) (ended : Ended) (status : ℕ) → IsStatusOf ended status → JudgesWords words ended
    → (status ≡ 2) ↔ ((command_of words ≡ None) × (status ≢ 7))
words_judged words ended status is judges = (forth, back ended is judges)
  where
    forth : status ≡ 2 → (command_of words ≡ None) × (status ≢ 7)
    forth e = (judges.not_words (at_2 ended status is e), λ seven. omega (arith, e, seven))

    back : (ended : Ended) → IsStatusOf ended status → JudgesWords words ended → (command_of words ≡ None) × (status ≢ 7) → status ≡ 2
    back NotWords is judges h = is
    back (Ends ending) is judges h =
        let memory : Ends ending ≡ Ends NoMemory = judges.none h.0 (λ same. cc) in
        absurd (h.1 (subst (λ e. IsStatusOf e status) memory is))

-- ---- 5 exactly where the fault isn't none, unless memory ran out
some_is : (fault : Option Refusal) (r : Refusal) → fault ≡ Some r → IsSome fault
some_is fault r e = subst IsSome (sym e) refl

none_is : (fault : Option Refusal) → fault ≡ None → IsSome fault → ⊥
none_is fault e some = let no_way : IsSome {T = Refusal} None = subst IsSome e some in cc

pub refused_judged : (ended : Ended) (status : ℕ) (fault : Option Refusal) → IsStatusOf ended status → IsFaultAt ended fault
    → (status ≡ 5) ↔ (IsSome fault × (status ≢ 7))
refused_judged ended status fault is at = (forth ended is at, back ended is at)
  where
    forth : (ended : Ended) → IsStatusOf ended status → IsFaultAt ended fault → status ≡ 5 → IsSome fault × (status ≢ 7)
    forth ended is at e =
        let p = at_5 ended status is e in
        (some_is fault p.0 (subst (λ x. IsFaultAt x fault) p.1 at), λ seven. omega (arith, e, seven))

    back : (ended : Ended) → IsStatusOf ended status → IsFaultAt ended fault → IsSome fault × (status ≢ 7) → status ≡ 5
    back NotWords is at h = absurd (none_is fault at h.0)
    back (Ends Finished) is at h = absurd (none_is fault at h.0)
    back (Ends (Refuses r)) (inl is) at h = is
    back (Ends (Refuses r)) (inr is) at h = absurd (h.1 is)
    back (Ends StoreFailed) is at h = absurd (none_is fault at h.0)
    back (Ends NoMemory) is at h = absurd (h.1 is)

-- ---- the files
ends_same : (a b : Ending) → Ends a ≡ Ends b → a ≡ b
ends_same a b e = cc

-- a command without a queue has none
not_both : (words : List (List ℕ)) (q : List ℕ) → queue_of_words words ≡ None → queue_of_words words ≡ Some q → ⊥
not_both words q none some = let no_way : None ≡ Some q = sym none ∙ some in cc

finished_run : (words : List (List ℕ)) (old new : Log) (ended : Ended) → Outcome words old new ended → queue_of_words words ≡ None → ended ≡ Ends Finished → HasWasRun words old new Finished
finished_run words old new ended (looked only unfinished refused) none e = absurd (unfinished e)
finished_run words old new ended (ran ending is w) none e = subst (HasWasRun words old new) (ends_same ending Finished (sym is ∙ e)) w
finished_run words old new ended (queued q some looks refused) none e = absurd (not_both words q none some)

copied_of : (words : List (List ℕ)) (old new : Log) → HasWasRun words old new Finished → IsCopied words old new
copied_of words old new w = record {
  stage = w.stage;
  planned = w.planned;
  sound = w.run.wanted.sound;
  outputs = w.run.wanted.outputs;
  wanted = w.run.wanted.wanted;
  files = w.files ∙ w.run.wanted.put;
}

sequential_of : (words : List (List ℕ)) (old new : Log) → HasWasRun words old new Finished → IsSequential words old new
sequential_of words old new w = record {
  stage = w.stage;
  after = w.after;
  made = w.made;
  files = w.run.sequential ∙ ap Some (sym w.files);
  reads = w.run.reads;
}

pub copied : (words : List (List ℕ)) (old new : Log) (ended : Ended) (status : ℕ) → IsStatusOf ended status → Outcome words old new ended → status ≡ 0 → queue_of_words words ≡ None → IsCopied words old new
copied words old new ended status is o e none = copied_of words old new (finished_run words old new ended o none (at_0 ended status is e))

pub in_sequence : (words : List (List ℕ)) (old new : Log) (ended : Ended) (status : ℕ) → IsStatusOf ended status → Outcome words old new ended → status ≡ 0 → queue_of_words words ≡ None → IsSequential words old new
in_sequence words old new ended status is o e none = sequential_of words old new (finished_run words old new ended o none (at_0 ended status is e))

pub only_puts : (words : List (List ℕ)) (old new : Log) (ended : Ended) → Outcome words old new ended → queue_of_words words ≡ None → files_of new ≡ put_all (files_of old) (puts_of (moments_since old new))
only_puts words old new ended (looked only unfinished refused) none = only.files ∙ ap (put_all (files_of old)) (sym only.puts)
only_puts words old new ended (ran ending is w) none = w.files ∙ ap (put_all (files_of old)) (sym w.puts)
only_puts words old new ended (queued q some looks refused) none = absurd (not_both words q none some)

quiet_in_order : (making : Making) (files : Files) (ms : List Moment) → AllLook ms → puts_of ms ≡ [] → PutsInOrder making files ms
quiet_in_order (Refused r) files ms look none = look
quiet_in_order Unfinished files ms look none = look
quiet_in_order (Planned s after) files ms look none = record { number = 0; are = none }
quiet_in_order (New number s after) files ms look none = tt
quiet_in_order (Continues number s after) files ms look none = tt

-- own steps that only look put nothing
quiet_put : (a : Act) (files : List File) → IsQuiet a → with_put a files ≡ files
quiet_put (act.Read path) files quiet = refl
quiet_put (act.List dir given) files quiet = refl
quiet_put (act.Put path bytes) files quiet = absurd quiet
quiet_put (act.Move from to) files quiet = absurd quiet
quiet_put (act.Remove path) files quiet = absurd quiet

looks_put_none : (ms : List Moment) → AllLook ms → puts_of ms ≡ []
looks_put_none [] look = refl
looks_put_none (m ∷ ms) look = quiet_put m.act (puts_of ms) look.0 ∙ looks_put_none ms look.1

first_in_order : (making : Making) (files : Files) (ms : List Moment) → LooksFirst making ms → PutsInOrder making files ms
first_in_order (Refused r) files ms look = look
first_in_order Unfinished files ms look = look
first_in_order (Planned s after) files ms look = record { number = 0; are = looks_put_none ms look }
first_in_order (New number s after) files ms look = tt
first_in_order (Continues number s after) files ms look = tt

as_far_first : {A : Type 0} (ending : Ending) (xs all : List A) → AreAsFar ending xs all → AreFirst xs all
as_far_first Finished xs all is = record { number = length all; are = is ∙ sym (take-length all) }
as_far_first (Refuses r) xs all is = record { number = length all; are = is ∙ sym (take-length all) }
as_far_first StoreFailed xs all is = is
as_far_first NoMemory xs all is = is

pub in_order : (words : List (List ℕ)) (old new : Log) (ended : Ended) → Outcome words old new ended
    → PutsInOrder (making_of words (moments_since old new)) (files_of old) (moments_since old new)
in_order words old new ended (looked only unfinished refused) = quiet_in_order (making_of words (moments_since old new)) (files_of old) (moments_since old new) only.look only.puts
in_order words old new ended (ran ending is w) =
    subst (λ making. PutsInOrder making (files_of old) (moments_since old new)) (sym w.made)
    (subst (λ puts. AreFirst puts (planned_puts w.stage (files_of old))) (sym w.puts) (as_far_first ending (puts_of w.after) (planned_puts w.stage (files_of old)) w.run.puts))
in_order words old new ended (queued q some looks refused) = first_in_order (making_of words (moments_since old new)) (files_of old) (moments_since old new) looks

refused_all : (words : List (List ℕ)) (old new : Log) (r : Refusal) → HasWasRun words old new (Refuses r) → PutsAll (making_of words (moments_since old new)) (files_of old) (moments_since old new)
refused_all words old new r w =
    subst (λ making. PutsAll making (files_of old) (moments_since old new)) (sym w.made) (w.puts ∙ w.run.puts)

pub to_the_refusal : (words : List (List ℕ)) (old new : Log) (ended : Ended) (status : ℕ) → IsStatusOf ended status → Outcome words old new ended → status ≡ 5
    → PutsAll (making_of words (moments_since old new)) (files_of old) (moments_since old new)
to_the_refusal words old new ended status is (looked only unfinished refused) e =
    let p = at_5 ended status is e in
    subst (λ making. PutsAll making (files_of old) (moments_since old new)) (sym (refused p.0 p.1)) tt
to_the_refusal words old new ended status is (queued q some looks refused) e =
    let p = at_5 ended status is e in
    subst (λ making. PutsAll making (files_of old) (moments_since old new)) (sym (refused p.0 p.1)) tt
to_the_refusal words old new ended status is (ran ending same w) e =
    let p = at_5 ended status is e in
    refused_all words old new p.0 (subst (HasWasRun words old new) (ends_same ending (Refuses p.0) (sym same ∙ p.1)) w)

-- ---- what is printed
never_finished : (e : LocalError) → ¬ (ending_of_local e ≡ Finished)
never_finished (Make (Absent path)) is = cc
never_finished (Make (BadRecord path member)) is = cc
never_finished (Make (TooManyStages count)) is = cc
never_finished (Make (make_missing path)) is = cc
never_finished (Make (BadInfo path cause)) is = cc
never_finished (Make (NoScale mip count)) is = cc
never_finished (Make (NoStage kind)) is = cc
never_finished (Make (DestNotEmpty path)) is = cc
never_finished (Make (Taken stage)) is = cc
never_finished (Make (ShapeUnfit axis)) is = cc
never_finished (Make (TooManyTasks count)) is = cc
never_finished (Make (TaskTooLarge voxels)) is = cc
never_finished (Make Failed) is = cc
never_finished (Make make_memory) is = cc
never_finished (Run (Missing path)) is = cc
never_finished (Run (Malformed path cause)) is = cc
never_finished (Run (TooManyParts count)) is = cc
never_finished (Run Memory) is = cc

ran_text_of : (result : Result Done CommandError) (s : Stage) → ended_of result ≡ Ends Finished → IsRun s result → out_line result ≡ stage_line s
ran_text_of (Ok (Ran all)) s e one = ap ran_text one ∙ append-nil (stage_line s)
ran_text_of (Ok (Made made)) s e one = absurd one
ran_text_of (Err Words) s e one = let no_way : NotWords ≡ Ends Finished = e in cc
ran_text_of (Err (Local error)) s e one = absurd (never_finished error (ends_same (ending_of_local error) Finished e))

-- the line of a command that did all
record HasLine (words : List (List ℕ)) (old : Log) (text : List ℕ) : Type 0 where
  stage : Stage
  planned : stage_of words (files_of old) ≡ Some stage
  line : text ≡ stage_line stage

line_of : (words : List (List ℕ)) (old new : Log) (result : Result Done CommandError) → Performed words old new result → queue_of_words words ≡ None → ended_of result ≡ Ends Finished
    → HasLine words old (out_line result)
line_of words old new result (not_words is none same) no_queue e = let no_way : NotWords ≡ Ends Finished = sym is ∙ e in cc
line_of words old new result (not_read is same) no_queue e = let no_way : Ends NoMemory ≡ Ends Finished = sym is ∙ e in cc
line_of words old new result (not_made request error is asked only fails) no_queue e =
    absurd (never_finished (Make error) (ends_same (ending_of_local (Make error)) Finished (sym (ap ended_of is) ∙ e)))
line_of words old new result (was_run request stage ending is asked w done) no_queue e =
    record { stage = stage; planned = planned_of words old new request asked stage ending w; line = ran_text_of result stage e done }
line_of words old new result (enqueued q request made is asked m) no_queue e = absurd (not_both words q no_queue (ap queue_of_command asked))

pub printed : (words : List (List ℕ)) (old new : Log) (result : Result Done CommandError) (status : ℕ) (before now : List ℕ)
    → Performed words old new result → IsStatusOf (ended_of result) status → HasTaken (out_line result) status before now → status ≡ 0 → queue_of_words words ≡ None → HasPrinted words old before now
printed words old new result status before now p is taken e none =
    let l = line_of words old new result p none (at_0 (ended_of result) status is e) in
    record { stage = l.stage; planned = l.planned; line = taken.all e ∙ ap (λ text. before ++ text) l.line }

pub printed_part : (words : List (List ℕ)) (old new : Log) (result : Result Done CommandError) (status : ℕ) (before now : List ℕ)
    → Performed words old new result → IsStatusOf (ended_of result) status → HasTaken (out_line result) status before now → status ≡ 9 → queue_of_words words ≡ None → HasPrintedPart words old before now
printed_part words old new result status before now p is taken e none =
    let l = line_of words old new result p none (at_9 (ended_of result) status is e) in
    record { stage = l.stage; planned = l.planned; part = subst (λ text. TakesPrefix before text now) l.line (taken.part e) }

-- ---- on standard error
module _ (ended : Ended) (status faults_before faults_now : ℕ) (before now : List ℕ) (is : IsStatusOf ended status)
    (told : HasTold (err_line ended status) faults_before faults_now before now) (quiet : ¬ Rose faults_before faults_now) where
  line_at : (e : Ended) (n : ℕ) → ended ≡ e → status ≡ n → now ≡ before ++ err_line e n
  line_at e n same at = told.all quiet ∙ ap (λ x. before ++ err_line x status) same ∙ ap (λ x. before ++ err_line e x) at

  pub told_words : status ≡ 2 → now ≡ before ++ fault_line words_text
  told_words e = line_at NotWords 2 (at_2 ended status is e) e

  pub told_store : status ≡ 6 → now ≡ before ++ fault_line store_text
  told_store e = line_at (Ends StoreFailed) 6 (at_6 ended status is e) e

  pub told_memory : status ≡ 7 → now ≡ before ++ fault_line memory_text
  told_memory e = line_at ended 7 refl e

  pub told_refusal : (words : List (List ℕ)) (old new : Log) → IsFaultAt ended (fault_of words (moments_since old new)) → status ≡ 5 → HasComplained words old new before now
  told_refusal words old new fault e =
      let p = at_5 ended status is e in
      record { refusal = p.0; fault = subst (λ x. IsFaultAt x (fault_of words (moments_since old new))) p.1 fault; line = line_at (Ends (Refuses p.0)) 5 p.1 e }
