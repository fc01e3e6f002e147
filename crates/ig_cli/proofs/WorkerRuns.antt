-- The run of a worker: turn after turn, with what the output took, and how it stops.
use Rattle.std.proofs.Common.{◌≡◌, ◌≤◌, ℕ, Bool, false, List, [], ◌∷◌, ◌++◌, Option, None, Some, Result, Ok, Err, refl, ap, sym, subst, ◌∙◌, append_assoc, append-nil, arith}
use Rattle.ig_defs.specs.declared.step.Act.{Act}
use Rattle.ig_defs.specs.Files.{Files}
use Rattle.ig_defs.specs.Log.{Log}
use Rattle.ig_defs.specs.TurnLaws.{idled_nothing}
use Rattle.ig_worker.specs.declared.error.WorkerError.{WorkerError}
use Rattle.ig_worker.specs.declared.plan.Plan.{Plan}
use Rattle.ig_worker.specs.declared.turn.End.{End}
use Rattle.ig_worker.specs.declared.turn.Line.{Line}
use Rattle.ig_worker.specs.declared.turn.Turn.{Turn}
use Rattle.ig_worker.specs.declared.turn.Turn.TheVariants.{On, Said, Ended}
use Rattle.ig_worker.specs.Course.{fresh, said_of}
use Rattle.ig_worker.specs.Left.{is_over}
use Rattle.ig_worker.specs.Lines.{line_text, lines_text}
use Rattle.ig_worker.specs.Moves.{Move}
use Rattle.ig_worker.specs.Places.{State}
use Rattle.ig_worker.specs.Steps.{Stepped, is_last}
use Rattle.ig_cli.specs.declared.working.Stop.{Stop}
use Rattle.ig_cli.specs.declared.working.Stop.TheVariants as stop
use Rattle.ig_cli.specs.Worked.{but_last, said_last}
use Rattle.ig_cli.specs.Working.{Answers, Ran, TakesLine, Turned}
use Rattle.ig_cli.proofs.WorkerSpeaks.{unsaid}
use Rattle.ig_cli.proofs.WorkerSteps.{Same, said_by}
use Rattle.ig_cli.proofs.WorkerGoes.{Advances, Stands, more_said, steps_on}
use Rattle.ig_cli.proofs.WorkerHalts.{Halts, halts}
use Rattle.ig_cli.proofs.WorkerTexts.{lines_text-append}
use Rattle.ig_cli.proofs.WorkerTold.{Splits, all_lines, cut_line, says_same, told_of, whole_lines}

-- A worker of this plan, its moves so far, and what the output took.
pub record Along (allows : Bool → Files → Act → Type 0) (plan : Plan) (from to : ℕ) (old new : Log) (w : State) (tells : Type 0) (before now : List ℕ) : Type 0 where
  pub ms : List Move
  pub place : State
  pub said : List Line
  pub stands : Stands allows plan from to old new w ms place said
  pub taken : tells → now ≡ before ++ lines_text said

pub begins : (allows : Bool → Files → Act → Type 0) (plan : Plan) (from : ℕ) (old : Log) (w : State) (tells : Type 0) (before : List ℕ) → w ≡ fresh plan
    → Along allows plan from from old old w tells before before
begins allows plan from old w tells before is = subst (λ s. Along allows plan from from old old s tells before before) (sym is) (record {
  ms = [];
  place = fresh plan;
  said = [];
  stands = record { course = (omega arith, refl, refl); at = Same refl; is = refl; most = omega arith };
  taken = λ t. sym (append-nil before);
})

-- no memory for the worker itself
pub not_begun : (allows : Bool → Files → Act → Type 0) (plan : Plan) (from : ℕ) (old : Log) (tells : Type 0) (before : List ℕ) → Ran allows plan from from old old tells before before (Err stop.Memory)
not_begun allows plan from old tells before = record {
  ms = [];
  place = fresh plan;
  last = old;
  course = (omega arith, refl, refl);
  rest = idled_nothing allows old;
  stops = tt;
  said = λ t. all_lines [] [] before before (sym (append-nil before));
}

-- results of a turn
abbrev turn_ended : End → Result (Option End) Stop
turn_ended e = Ok (Some e)

abbrev turn_failed : Stop → Result (Option End) Stop
turn_failed e = Err e

same_end : (e f : End) → turn_ended e ≡ turn_ended f → f ≡ e
same_end e f is = cc

same_stop : (e : Stop) (f : WorkerError) → turn_failed e ≡ turn_failed (stop.Worker f) → stop.Worker f ≡ e
same_stop e f is = cc

same_line : (l : Line) → lines_text (l ∷ []) ≡ line_text l
same_line l = append-nil (line_text l)

module _ (allows : Bool → Files → Act → Type 0) (plan : Plan) (from to later : ℕ) (after : to ≤ later) (old mid new : Log) (w next : State) (tells : Type 0) (before now then : List ℕ)
    (h : Along allows plan from to old mid w tells before now) (going : is_over w.phase ≡ false) where
  step : (turn : Turn) → Stepped allows to later w mid new next (Ok turn) → Advances allows plan from later old new next h.said turn
  step turn stepped = steps_on allows plan from to later after old mid new h.ms h.place h.said w next turn h.stands going stepped

  -- ---- it goes on
  more : (turn : Turn) → is_last (Ok turn) ≡ false → Advances allows plan from later old new next h.said turn → (tells → then ≡ now ++ lines_text (said_by turn))
      → Along allows plan from later old new next tells before then
  more turn goes a took = record {
    ms = a.ms;
    place = a.place;
    said = h.said ++ said_by turn;
    stands = record { course = a.course; at = a.at goes; is = a.is; most = more_said _ h.said (said_by turn) a.most };
    taken = λ t. took t ∙ ap (λ xs. xs ++ lines_text (said_by turn)) (h.taken t) ∙ append_assoc before (lines_text h.said) (lines_text (said_by turn))
        ∙ ap (λ xs. before ++ xs) (sym (lines_text-append h.said (said_by turn)));
  }

  more_by : (answer : Result Turn WorkerError) → Stepped allows to later w mid new next answer → Answers tells answer now then (Ok None) → Along allows plan from later old new next tells before then
  more_by (Ok On) stepped a = more On refl (step On stepped) (λ t. a.1 t ∙ sym (append-nil now))
  more_by (Ok (Said l)) stepped a = more (Said l) refl (step (Said l) stepped) (λ t. a.1 t ∙ ap (λ xs. now ++ xs) (sym (same_line l)))
  more_by (Ok (Ended e)) stepped a = let is = a.0 in absurd cc
  more_by (Err e) stepped a = let is = a.0 in absurd cc

  pub goes_on : Turned allows to later w mid new next tells now then (Ok None) → Along allows plan from later old new next tells before then
  goes_on t = more_by t.answer t.stepped t.answers

  -- ---- it ends
  ended : (e : End) → Advances allows plan from later old new next h.said (Ended e) → (tells → then ≡ now) → Ran allows plan from later old new tells before then (Ok e)
  ended e a took =
      let last = a.ended e refl in
      let all : h.said ≡ said_of a.ms = sym (append-nil h.said) ∙ sym (append-nil (h.said ++ [])) ∙ ap (λ ls. (h.said ++ []) ++ ls) (sym last.1) ∙ a.is in
      record {
        ms = a.ms;
        place = a.place;
        last = new;
        course = a.course;
        rest = idled_nothing allows new;
        stops = last.0;
        said = λ t. took t ∙ h.taken t ∙ ap (λ ls. before ++ lines_text ls) all;
      }

  ended_by : (answer : Result Turn WorkerError) (e : End) → Stepped allows to later w mid new next answer → Answers tells answer now then (Ok (Some e)) → Ran allows plan from later old new tells before then (Ok e)
  ended_by (Ok On) e stepped a = let is = a.0 in absurd cc
  ended_by (Ok (Said l)) e stepped a = absurd (a.0 e refl)
  ended_by (Ok (Ended f)) e stepped a =
      let same : f ≡ e = same_end e f a.0 in
      subst (λ g. Ran allows plan from later old new tells before then (Ok g)) same (ended f (step (Ended f) stepped) a.1)
  ended_by (Err f) e stepped a = let is = a.0 in absurd cc

  pub ends : (e : End) → Turned allows to later w mid new next tells now then (Ok (Some e)) → Ran allows plan from later old new tells before then (Ok e)
  ends e t = ended_by t.answer e t.stepped t.answers

  -- ---- it stops
  stopped : (e : WorkerError) → Halts allows plan from later old new h.said e → (tells → then ≡ now) → Ran allows plan from later old new tells before then (Err (stop.Worker e))
  stopped e a took = record {
    ms = a.ms;
    place = a.place;
    last = a.last;
    course = a.course;
    rest = a.rest;
    stops = a.stops_at;
    said = λ t. a.says before then (took t ∙ h.taken t);
  }

  told_of_last : (l : Line) → (a : Advances allows plan from later old new next h.said (Said l)) → Splits (said_of (but_last a.ms)) (said_last a.ms) h.said (l ∷ unsaid next.phase)
  told_of_last l a = told_of a.ms h.said (l ∷ unsaid next.phase) (sym (append_assoc h.said (l ∷ []) (unsaid next.phase)) ∙ a.is) a.most

  cut : (l : Line) (e : Stop) → Advances allows plan from later old new next h.said (Said l) → TakesLine tells l now then (Err e) → Ran allows plan from later old new tells before then (Err e)
  cut l (stop.Worker e) a took = absurd took
  cut l stop.Output a took =
      let s = told_of_last l a in
      record {
        ms = a.ms;
        place = a.place;
        last = new;
        course = a.course;
        rest = idled_nothing allows new;
        stops = tt;
        said = λ t. cut_line a.ms [] before now then s.told (unsaid next.phase) l s.rest (says_same h.said (said_of (but_last a.ms) ++ s.told) before now s.is (h.taken t)) (took t);
      }
  cut l stop.Memory a took =
      let s = told_of_last l a in
      record {
        ms = a.ms;
        place = a.place;
        last = new;
        course = a.course;
        rest = idled_nothing allows new;
        stops = tt;
        said = λ t. whole_lines a.ms [] before then s.told (l ∷ unsaid next.phase) s.rest (says_same h.said (said_of (but_last a.ms) ++ s.told) before then s.is (took t ∙ h.taken t));
      }

  stopped_by : (answer : Result Turn WorkerError) (e : Stop) → Stepped allows to later w mid new next answer → Answers tells answer now then (Err e) → Ran allows plan from later old new tells before then (Err e)
  stopped_by (Ok On) e stepped a = let is = a.0 in absurd cc
  stopped_by (Ok (Said l)) e stepped a = cut l e (step (Said l) stepped) a.1
  stopped_by (Ok (Ended f)) e stepped a = let is = a.0 in absurd cc
  stopped_by (Err f) e stepped a =
      let same : stop.Worker f ≡ e = same_stop e f a.0 in
      subst (λ g. Ran allows plan from later old new tells before then (Err g)) same
      (stopped f (halts allows plan from to later after old mid new h.ms h.place h.said w h.stands next f going stepped) a.1)

  pub stops_by : (e : Stop) → Turned allows to later w mid new next tells now then (Err e) → Ran allows plan from later old new tells before then (Err e)
  stops_by e t = stopped_by t.answer e t.stepped t.answers
