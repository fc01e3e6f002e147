-- A worker that has stopped at an error.
use Rattle.std.proofs.Common.{◌≡◌, ◌≤◌, ◌⊎◌, ℕ, Bool, true, false, List, [], ◌∷◌, ◌++◌, length, Result, Err, refl, ap, sym, subst, ◌∙◌, append-nil, inl, inr, true≢false}
use Rattle.ig_defs.specs.declared.step.Act.{Act}
use Rattle.ig_defs.specs.Files.{Files}
use Rattle.ig_defs.specs.Log.{Log}
use Rattle.ig_defs.specs.TurnLaws.{idled_nothing}
use Rattle.ig_defs.specs.Turns.{Idled}
use Rattle.ig_worker.specs.declared.error.WorkerError.{WorkerError}
use Rattle.ig_worker.specs.declared.error.WorkerError.TheVariants.{Absent, BadRecord, Failed, Memory}
use Rattle.ig_worker.specs.declared.notes.Notes.{Notes}
use Rattle.ig_worker.specs.declared.phase.Phase.{Phase}
use Rattle.ig_worker.specs.declared.phase.Phase.TheVariants.{Starting, Learning, Asking, Trying, Fetching, Running, Finishing, Closing, ListingDead, ListingDone, Telling, Over, Broken}
use Rattle.ig_worker.specs.declared.plan.Plan.{Plan}
use Rattle.ig_worker.specs.declared.turn.Line.{Line}
use Rattle.ig_worker.specs.declared.turn.Turn.{Turn}
use Rattle.ig_worker.specs.Course.{Course, fresh, said_of}
use Rattle.ig_worker.specs.Left.{is_over}
use Rattle.ig_worker.specs.Moves.{Move}
use Rattle.ig_worker.specs.Places.{State, stands}
use Rattle.ig_worker.specs.Steps.{Called, Rests, Stepped, StopsBy, calls, may_call, rests, stops}
use Rattle.ig_cli.specs.declared.working.Stop.TheVariants as stop
use Rattle.ig_cli.specs.Worked.{EndsByMove, MovesFile, SaysAtFault, SaysLines, SaysToLast, but_last}
use Rattle.ig_cli.specs.Working.{SaysTill, StopsAt}
use Rattle.ig_cli.proofs.WorkerCourses.{course_later}
use Rattle.ig_cli.proofs.WorkerSpeaks.{Quiet, Says, Speaks, leads_speak, unsaid}
use Rattle.ig_cli.proofs.WorkerSteps.{but_last-append, said_of-append}
use Rattle.ig_cli.proofs.WorkerGoes.{Stands, all_told, course_on}
use Rattle.ig_cli.proofs.WorkerTold.{but_last_lines, says_same, told_of, whole_lines}
use Rattle.ig_cli.proofs.WorkerChanges.{changes_say}

-- the worker's moves till the error, where these lines were told
pub record Halts (allows : Bool → Files → Act → Type 0) (plan : Plan) (from to : ℕ) (old new : Log) (said : List Line) (e : WorkerError) : Type 0 where
  pub ms : List Move
  pub place : State
  pub last : Log
  pub course : Course allows from (fresh plan) old ms to place last
  pub rest : Idled allows last new
  pub stops_at : StopsAt place (Err (stop.Worker e))
  pub says : (before now : List ℕ) → SaysLines said before now → SaysTill ms place (Err (stop.Worker e)) before now

-- ---- what is told of it
-- where it may make a call, all that it has to say was told
nothing_unsaid : (phase : Phase) → may_call phase ≡ true → unsaid phase ≡ []
nothing_unsaid (Telling letters count) may = absurd cc
nothing_unsaid phase may = refl

-- no call was made
fault_before : (ms : List Move) (phase : Phase) (said : List Line) (before now : List ℕ) → said ++ unsaid phase ≡ said_of ms → may_call phase ≡ true → SaysLines said before now → SaysAtFault ms before now
fault_before ms phase said before now is may told =
    inl (says_same said (said_of ms) before now (sym (append-nil said) ∙ ap (λ ls. said ++ ls) (sym (nothing_unsaid phase may)) ∙ is) told)

stops_before : (ms : List Move) (phase : Phase) (said : List Line) (before now : List ℕ) → said ++ unsaid phase ≡ said_of ms → length (said_of (but_last ms)) ≤ length said → SaysLines said before now
    → SaysToLast ms [] before now
stops_before ms phase said before now is most told =
    let s = told_of ms said (unsaid phase) is most in
    whole_lines ms [] before now s.told (unsaid phase) s.rest (says_same said (said_of (but_last ms) ++ s.told) before now s.is told)

-- this call was made, and its line was not told
lines_before : (ms : List Move) (m : Move) (said : List Line) (before now : List ℕ) → said ≡ said_of ms → SaysLines said before now → SaysLines (said_of (but_last (ms ++ m ∷ []))) before now
lines_before ms m said before now all told = says_same said (said_of (but_last (ms ++ m ∷ []))) before now (all ∙ ap said_of (sym (but_last-append ms m))) told

ends_by : (ms : List Move) (m : Move) → MovesFile m.call m.answer → EndsByMove (ms ++ m ∷ [])
ends_by [] m moved = moved
ends_by (first ∷ []) m moved = moved
ends_by (first ∷ next ∷ ms) m moved = ends_by (next ∷ ms) m moved

quiet_said : (ms : List Move) (m : Move) → m.said ≡ [] → said_of (ms ++ m ∷ []) ≡ said_of ms
quiet_said ms m nothing = said_of-append ms (m ∷ []) ∙ ap (λ ls. said_of ms ++ (ls ++ [])) nothing ∙ append-nil (said_of ms)

-- this call was made, though it failed: it moved a file, or it has nothing to say
fault_after : (ms : List Move) (m : Move) (said : List Line) (before now : List ℕ) → said ≡ said_of ms → MovesFile m.call m.answer ⊎ (m.said ≡ []) → SaysLines said before now → SaysAtFault (ms ++ m ∷ []) before now
fault_after ms m said before now all (inl moved) told = inr (ends_by ms m moved, lines_before ms m said before now all told)
fault_after ms m said before now all (inr nothing) told = inl (says_same said (said_of (ms ++ m ∷ [])) before now (all ∙ sym (quiet_said ms m nothing)) told)

-- the answer of a step that stops at this error
abbrev fails : WorkerError → Result Turn WorkerError
fails e = Err e

broken_quiet : (m : Move) (s : Notes) (e : WorkerError) → Speaks m → m.next ≡ stands s (Broken e) → m.said ≡ []
broken_quiet m s e (Quiet nothing none) is = nothing
broken_quiet m s e (Says l says more) is = absurd (true≢false (sym (ap (λ n. is_over n.phase) is) ∙ more))

same_error : (e error : WorkerError) → fails e ≡ fails error → error ≡ e
same_error e error is = cc

no_rest : (notes : Notes) (phase : Phase) (next : State) (e : WorkerError) → is_over phase ≡ false → Rests notes phase next (Err e) → ⊥
no_rest notes (Trying names) next e going rested = let is = rested.2 in absurd cc
no_rest notes (Telling [] count) next e going rested = let is = rested.1 in absurd cc
no_rest notes (Telling (id ∷ letters) count) next e going rested = let is = rested.1 in absurd cc
no_rest notes (Over end) next e going rested = true≢false going
no_rest notes (Broken error) next e going rested = true≢false going
no_rest notes Starting next e going rested = rested
no_rest notes (Learning unread later) next e going rested = rested
no_rest notes Asking next e going rested = rested
no_rest notes (Fetching name paths given names) next e going rested = rested
no_rest notes (Running name given names) next e going rested = rested
no_rest notes (Finishing name outputs names) next e going rested = rested
no_rest notes Closing next e going rested = rested
no_rest notes ListingDead next e going rested = rested
no_rest notes (ListingDone letters) next e going rested = rested

module _ (allows : Bool → Files → Act → Type 0) (plan : Plan) (from to later : ℕ) (after : to ≤ later) (old mid new : Log) (ms : List Move) (place : State) (said : List Line)
    (w : State) (h : Stands allows plan from to old mid w ms place said) where
  failed : StopsBy allows to later w mid new Failed → Halts allows plan from later old new said Failed
  failed (may, inl idled) = record {
    ms = ms;
    place = place;
    last = mid;
    course = course_later allows from (fresh plan) old ms to later place mid after h.course;
    rest = idled;
    stops_at = tt;
    says = λ before now told. fault_before ms w.phase said before now h.is may told;
  }
  failed (may, inr (m, called, changes)) = record {
    ms = ms ++ m ∷ [];
    place = m.next;
    last = new;
    course = course_on allows plan from to later after old mid new ms place said w m h called;
    rest = idled_nothing allows new;
    stops_at = tt;
    says = λ before now told.
        fault_after ms m said before now (all_told allows plan from to later after old mid new ms place said w m h called) (changes_say to later w.notes w.phase m called.leads changes) told;
  }

  no_memory : StopsBy allows to later w mid new Memory → Halts allows plan from later old new said Memory
  no_memory (inl idled) = record {
    ms = ms;
    place = place;
    last = mid;
    course = course_later allows from (fresh plan) old ms to later place mid after h.course;
    rest = idled;
    stops_at = tt;
    says = λ before now told. stops_before ms w.phase said before now h.is h.most told;
  }
  no_memory (inr (m, called)) = record {
    ms = ms ++ m ∷ [];
    place = m.next;
    last = new;
    course = course_on allows plan from to later after old mid new ms place said w m h called;
    rest = idled_nothing allows new;
    stops_at = tt;
    says = λ before now told. but_last_lines (ms ++ m ∷ []) [] before now (lines_before ms m said before now (all_told allows plan from to later after old mid new ms place said w m h called) told);
  }

  said_broken : (m : Move) (e : WorkerError) → Called allows to later w mid new m → m.next ≡ stands w.notes (Broken e) → said ≡ said_of (ms ++ m ∷ [])
  said_broken m e called is =
      all_told allows plan from to later after old mid new ms place said w m h called
      ∙ sym (quiet_said ms m (broken_quiet m w.notes e (leads_speak to later w.notes m w.phase called.leads) is))

  absent : (path : List ℕ) → StopsBy allows to later w mid new (Absent path) → Halts allows plan from later old new said (Absent path)
  absent path by = record {
    ms = ms ++ by.0 ∷ [];
    place = by.0.next;
    last = new;
    course = course_on allows plan from to later after old mid new ms place said w by.0 h by.1;
    rest = idled_nothing allows new;
    stops_at = ap (λ n. n.phase) by.2;
    says = λ before now told. says_same said (said_of (ms ++ by.0 ∷ [])) before now (said_broken by.0 (Absent path) by.1 by.2) told;
  }

  bad_record : (path member : List ℕ) → StopsBy allows to later w mid new (BadRecord path member) → Halts allows plan from later old new said (BadRecord path member)
  bad_record path member by = record {
    ms = ms ++ by.0 ∷ [];
    place = by.0.next;
    last = new;
    course = course_on allows plan from to later after old mid new ms place said w by.0 h by.1;
    rest = idled_nothing allows new;
    stops_at = ap (λ n. n.phase) by.2;
    says = λ before now told. says_same said (said_of (ms ++ by.0 ∷ [])) before now (said_broken by.0 (BadRecord path member) by.1 by.2) told;
  }

  halts_by : (e : WorkerError) → StopsBy allows to later w mid new e → Halts allows plan from later old new said e
  halts_by (Absent path) by = absent path by
  halts_by (BadRecord path member) by = bad_record path member by
  halts_by Failed by = failed by
  halts_by Memory by = no_memory by

  -- a step that answered so
  pub halts : (next : State) (e : WorkerError) → is_over w.phase ≡ false → Stepped allows to later w mid new next (Err e) → Halts allows plan from later old new said e
  halts next e going (calls m called is answer ok answered) = absurd cc
  halts next e going (rests same rested) = absurd (no_rest w.notes w.phase next e going rested)
  halts next e going (stops error is by stopped) = subst (λ o. Halts allows plan from later old new said o) (same_error e error is) (halts_by error by)
