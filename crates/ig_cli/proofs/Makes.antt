-- The clauses of the top call on a stage that was made in a queue.
use Rattle.std.proofs.Common.{◌≡◌, ℕ, List, ◌++◌, None, Some, Result, Ok, Err, ap, sym, ◌∙◌, subst}
use Rattle.ig_defs.specs.Log.{Log}
use Rattle.ig_defs.specs.Own.{moments_since}
use Rattle.ig_store.specs.Sink.{TakesPrefix}
use Rattle.ig_meaning.specs.Ending.{Finished, NoMemory}
use Rattle.ig_meaning.specs.Fault.{making_of}
use Rattle.ig_meaning.specs.Lines.{made_line}
use Rattle.ig_meaning.specs.Making.{Making, Refused, Unfinished, Planned, New, Continues}
use Rattle.ig_meaning.specs.QueueActs.{HasMade}
use Rattle.ig_meaning.specs.Words.{Local, Enqueue, Request, command_of, queue_of_command, queue_of_words}
use Rattle.ig_stage.specs.declared.enqueuing.Made as queue
use Rattle.ig_stage.specs.declared.error.MakeError.{MakeError}
use Rattle.ig_stage.specs.Errors.{ending_of_make}
use Rattle.ig_stage.specs.Made.{AreMaking, made_of}
use Rattle.ig_cli.specs.declared.done.Done.{Done}
use Rattle.ig_cli.specs.declared.report.CommandError.{CommandError}
use Rattle.ig_cli.specs.Performed.{Performed, enqueued, given_by, not_words, not_read, not_made, was_run}
use Rattle.ig_cli.specs.Report.{Ends, NotWords, HasTaken, IsStatusOf, ended_of, made_text, out_line}
use Rattle.ig_cli.proofs.Performs.{enqueued_as, ends_same, made_never_finished}
use Rattle.ig_cli.proofs.Promises.{at_0, at_9}

-- its line is that of the making
text_is : (making : Making) (m : queue.Made) → made_of making ≡ Some m → made_text m ≡ made_line making
text_is (New n s after) m is = cc
text_is (Continues n s after) m is = cc
text_is (Planned s after) m is = let no_way : ⊥ = cc in absurd no_way
text_is (Refused r) m is = let no_way : ⊥ = cc in absurd no_way
text_is Unfinished m is = let no_way : ⊥ = cc in absurd no_way

-- what holds of a making in this queue that did all
record DidMake (words : List (List ℕ)) (old new : Log) (q text : List ℕ) : Type 0 where
  made : HasMade q (making_of words (moments_since old new))
  line : text ≡ made_line (making_of words (moments_since old new))

did_make : (words : List (List ℕ)) (old new : Log) (q : List ℕ) (made : Result queue.Made MakeError)
    → AreMaking q made (making_of words (moments_since old new)) (moments_since old new) → ended_of (given_by made) ≡ Ends Finished → DidMake words old new q (out_line (given_by made))
did_make words old new q (Ok m) are e = record { made = are.0; line = text_is (making_of words (moments_since old new)) m are.1 }
did_make words old new q (Err error) are e = absurd (made_never_finished error (ends_same (ending_of_make error) Finished e))

copies_alone : (words : List (List ℕ)) (q : List ℕ) (request : Request) → command_of words ≡ Some (Local request) → queue_of_words words ≡ Some q → ⊥
copies_alone words q request asked some = let no_way : None ≡ Some q = sym (ap queue_of_command asked) ∙ some in cc

one_queue : (words : List (List ℕ)) (q other : List ℕ) (request : Request) → command_of words ≡ Some (Enqueue other request) → queue_of_words words ≡ Some q → other ≡ q
one_queue words q other request asked some = let same : Some other ≡ Some q = sym (ap queue_of_command asked) ∙ some in cc

made_in : (words : List (List ℕ)) (old new : Log) (result : Result Done CommandError) (q : List ℕ) → Performed words old new result → queue_of_words words ≡ Some q
    → ended_of result ≡ Ends Finished → DidMake words old new q (out_line result)
made_in words old new result q (not_words is none same) some e = let no_way : NotWords ≡ Ends Finished = sym is ∙ e in cc
made_in words old new result q (not_read is same) some e = let no_way : Ends NoMemory ≡ Ends Finished = sym is ∙ e in cc
made_in words old new result q (not_made request error is asked only fails) some e = absurd (copies_alone words q request asked some)
made_in words old new result q (was_run request stage ending is asked w done) some e = absurd (copies_alone words q request asked some)
made_in words old new result q (enqueued other request made is asked m) some e =
    let same = one_queue words q other request asked some in
    subst (λ r. DidMake words old new q (out_line r)) (sym is)
    (subst (λ p. DidMake words old new p (out_line (given_by made))) same
    (did_make words old new other made (enqueued_as words old new other request made asked m).are (sym (ap ended_of is) ∙ e)))

module _ (words : List (List ℕ)) (old new : Log) (result : Result Done CommandError) (status : ℕ) (p : Performed words old new result) (is : IsStatusOf (ended_of result) status)
    (q : List ℕ) (some : queue_of_words words ≡ Some q) where
  pub made : status ≡ 0 → HasMade q (making_of words (moments_since old new))
  made e = (made_in words old new result q p some (at_0 (ended_of result) status is e)).made

  pub printed_made : (before now : List ℕ) → HasTaken (out_line result) status before now → status ≡ 0 → now ≡ before ++ made_line (making_of words (moments_since old new))
  printed_made before now taken e =
      taken.all e ∙ ap (λ text. before ++ text) (made_in words old new result q p some (at_0 (ended_of result) status is e)).line

  pub printed_made_part : (before now : List ℕ) → HasTaken (out_line result) status before now → status ≡ 9 → TakesPrefix before (made_line (making_of words (moments_since old new))) now
  printed_made_part before now taken e =
      subst (λ text. TakesPrefix before text now) (made_in words old new result q p some (at_9 (ended_of result) status is e)).line (taken.part e)
