-- Along a worker's course each put and each removal follows a lease of its task, whatever the log is.
use Rattle.std.specs.Prelude.{◌≡◌, ◌≤◌, ◌<◌, ◌^◌, ℕ, Bool, List, [], ◌∷◌, ◌++◌, drop, length, map}
use Rattle.std.proofs.Common.{arith, ap, sym, subst, append_assoc, append-nil, ◌∙◌}
use Rattle.std.proofs.Math.Seq.{drop-append_seam}
use Rattle.ig_defs.specs.declared.step.Act.{Act}
use Rattle.ig_defs.specs.Files.{Files}
use Rattle.ig_defs.specs.Log.{Log, files_of, replay}
use Rattle.ig_defs.specs.Own.{Moment, moments_since, own_moments}
use Rattle.ig_defs.specs.Turns.{Idled}
use Rattle.ig_rule.specs.Went.{Went}
use Rattle.ig_rule.specs.WentOn.{went_nothing, went_of, went_then, went_then_nothing}
use Rattle.ig_worker.specs.declared.notes.Notes.{Notes}
use Rattle.ig_worker.specs.declared.phase.Phase.{Phase}
use Rattle.ig_worker.specs.declared.phase.Phase.TheVariants.{Starting, Learning, Asking, Trying, Fetching, Running, Finishing, Closing, ListingDead, ListingDone, Telling, Over, Broken}
use Rattle.ig_worker.specs.declared.plan.Plan.{Plan}
use Rattle.ig_worker.specs.Course.{Course, fresh}
use Rattle.ig_worker.specs.Ending.Course.{course_later}
use Rattle.ig_worker.specs.Ending.Fit.{HasMade, leads_fit}
use Rattle.ig_worker.specs.Ending.Places.{fresh_fits}
use Rattle.ig_worker.specs.Fit.{AreFitNotes, IsFitPhase}
use Rattle.ig_worker.specs.Keeping.Lists.{none_in}
use Rattle.ig_worker.specs.Leasing.Leases.{FollowLeases, FollowsLease, IsWrite, OwnStep, Rises, act_of, moment_of}
use Rattle.ig_worker.specs.Leasing.Moves.{GoesOn, goes_on}
use Rattle.ig_worker.specs.Leasing.Places.{Follows}
use Rattle.ig_worker.specs.Leasing.Tasks.{ran_finishing}
use Rattle.ig_worker.specs.Moves.{Move}
use Rattle.ig_worker.specs.Places.{State}
use Rattle.ig_worker.specs.Plans.{HasLimits}
use Rattle.ig_worker.specs.Ending.Standing.{Fits}
use Rattle.ig_worker.specs.Steps.{Called}

-- ---- steps one after the other
-- the clock's answers may begin earlier
rises_earlier : (from mid : ℕ) (steps : List OwnStep) (to : ℕ) → from ≤ mid → Rises mid steps to → Rises from steps to
rises_earlier from mid [] to before rises = omega (arith, before, rises)
rises_earlier from mid (step ∷ steps) to before rises = let first = rises.0 in (omega (arith, before, first), rises.1)

-- each of these that is a put or a removal follows a lease among those before it
abbrev AllFollow : Plan → List OwnStep → List OwnStep → Type 0
AllFollow plan earlier [] = Unit {0}
AllFollow plan earlier (step ∷ steps) = (IsWrite (act_of step) → FollowsLease plan earlier step) × AllFollow plan (earlier ++ step ∷ []) steps

follows_at : (plan : Plan) (before earlier : List OwnStep) (step : OwnStep) (later : List OwnStep) → AllFollow plan before (earlier ++ step ∷ later) → IsWrite (act_of step) → FollowsLease plan (before ++ earlier) step
follows_at plan before [] step later all write = subst (λ own. FollowsLease plan own step) (sym (append-nil before)) (all.0 write)
follows_at plan before (first ∷ earlier) step later all write =
    subst (λ own. FollowsLease plan own step) (append_assoc before (first ∷ []) earlier) (follows_at plan (before ++ first ∷ []) earlier step later all.1 write)

-- ---- one call
made_at : (notes : Notes) (phase : Phase) → AreFitNotes notes → IsFitPhase notes phase → HasMade notes phase
made_at notes (Running name given names) fit ready = λ stage is outputs comes. ran_finishing notes name given names fit ready stage is outputs comes
made_at notes Starting fit ready = tt
made_at notes (Learning unread goal) fit ready = tt
made_at notes Asking fit ready = tt
made_at notes (Trying names) fit ready = tt
made_at notes (Fetching name paths given names) fit ready = tt
made_at notes (Finishing name outputs names) fit ready = tt
made_at notes Closing fit ready = tt
made_at notes ListingDead fit ready = tt
made_at notes (ListingDone letters) fit ready = tt
made_at notes (Telling letters count) fit ready = tt
made_at notes (Over end) fit ready = tt
made_at notes (Broken error) fit ready = tt

module _ (allows : Bool → Files → Act → Type 0) where
  -- the own moment of a call
  abbrev moment_in : (from to : ℕ) (s : State) (old new : Log) (m : Move) → Called allows from to s old new m → Moment
  moment_in from to s old new m called = record { files = replay (files_of old) called.answered.acted.others; act = called.answered.act }

  -- what a worker of this plan keeps fits after it, and it goes on
  pub record CallGoes (plan : Plan) (from to : ℕ) (steps : List OwnStep) (s : State) (old new : Log) (m : Move) (called : Called allows from to s old new m) : Type 0 where
    pub fits : Fits plan to m.next
    pub goes : GoesOn from to plan steps (moment_in from to s old new m called) m.next

  call_goes : (plan : Plan) (from to : ℕ) (s : State) (old new : Log) (m : Move) (steps : List OwnStep) → from ≤ to → to < 10 ^ 10 → Fits plan from s → Follows steps s → (called : Called allows from to s old new m)
      → CallGoes plan from to steps s old new m called
  call_goes plan from to s old new m steps before small f follows called =
      let fit = f.fit in
      subst (λ p. CallGoes p from to steps s old new m called) f.of_plan (record {
        fits = leads_fit from to s.notes fit.notes f.later before small s.phase m fit.phase (made_at s.notes s.phase fit.notes fit.phase) called.leads;
        goes = goes_on from to before s.notes steps follows.read (files_of old) called.answered.acted.others called.answered.act s.phase m fit.notes f.later fit.phase follows.place called.leads called.answered.takes;
      })

  -- ---- a course
  -- the own steps of a course, after earlier ones
  record HasFollowed (plan : Plan) (from to : ℕ) (earlier : List OwnStep) (old new : Log) : Type 0 where
    pub steps : List OwnStep
    pub went : Went allows old new (map moment_of steps)
    pub clock : Rises from steps to
    pub all : AllFollow plan earlier steps

  course_follows : (plan : Plan) (from : ℕ) (s : State) (old : Log) (ms : List Move) (to : ℕ) (next : State) (new : Log) (earlier : List OwnStep) → to < 10 ^ 10 → Fits plan from s → Follows earlier s
      → Course allows from s old ms to next new → HasFollowed plan from to earlier old new
  course_follows plan from s old [] to next new earlier small fits follows c =
      record { steps = []; went = subst (λ log. Went allows old log []) (sym c.2) (went_nothing allows old); clock = c.0; all = tt }
  course_follows plan from s old (m ∷ ms) to next new earlier small fits follows c =
      let later = course_later allows c.0 m.next c.1 ms to next new c.4 in
      let call = call_goes plan from c.0 s old c.1 m earlier c.2 (omega (arith, later, small)) fits follows c.3 in
      let g = call.goes in
      let rest = course_follows plan c.0 m.next c.1 ms to next new (earlier ++ g.step ∷ []) small call.fits g.follows c.4 in
      let own = moment_in from c.0 s old c.1 m c.3 in
      record {
        steps = g.step ∷ rest.steps;
        went = subst (λ (first : Moment). Went allows old new (first ∷ map moment_of rest.steps)) (sym g.is)
            (went_then allows old c.1 new (own ∷ []) (map moment_of rest.steps) (went_of c.3.answered.acted) rest.went);
        clock = (g.after, rises_earlier g.step.clock c.0 rest.steps to g.before rest.clock);
        all = (λ write. g.writes (subst (λ (first : Moment). IsWrite first.act) g.is write), rest.all);
      }

  went_since : (old new : Log) (ms : List Moment) → Went allows old new ms → moments_since old new ≡ ms
  went_since old new ms w =
      ap (λ steps. own_moments (files_of old) (drop (length old.steps) steps)) w.grown ∙ ap (own_moments (files_of old)) (drop-append_seam old.steps w.steps) ∙ w.moments

  fresh_follows : (plan : Plan) → Follows [] (fresh plan)
  fresh_follows plan = record { read = λ r among. absurd (none_in r among); place = tt }

  -- Each put and each removal of a fresh worker follows a lease.
  pub course_leases : (plan : Plan) (from : ℕ) (old : Log) (ms : List Move) (to : ℕ) (next : State) (last new : Log) → HasLimits plan → to < 10 ^ 10 → Course allows from (fresh plan) old ms to next last → Idled allows last new
      → FollowLeases plan from to (moments_since old new)
  course_leases plan from old ms to next last new limits small c rest =
      let h = course_follows plan from (fresh plan) old ms to next last [] small (fresh_fits plan from limits) (fresh_follows plan) c in
      let moments = map moment_of h.steps in
      record {
        steps = h.steps;
        are = sym (went_since old new moments (went_then_nothing allows old last new moments h.went (went_of rest)));
        clock = h.clock;
        each = λ earlier step later together. follows_at plan [] earlier step later (subst (AllFollow plan []) together h.all);
      }
