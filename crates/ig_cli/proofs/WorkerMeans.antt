-- What the end of a worker's run means in a legal log.
use Rattle.std.proofs.Common.{◌≡◌, ◌<◌, ◌^◌, ℕ, List, Option, None, Some, option_map, refl, arith, inl, inr}
use Rattle.std.proofs.lemmas.Option.{same_Some}
use Rattle.ig_defs.specs.Files.{Files}
use Rattle.ig_defs.specs.Log.{Log, files_of}
use Rattle.ig_defs.specs.TurnLaws.{prefix_of}
use Rattle.ig_rule.specs.declared.role.Role.TheVariants.{Worker}
use Rattle.ig_rule.specs.Facts.{Facts}
use Rattle.ig_rule.specs.QueueFiles.{queue_of}
use Rattle.ig_rule.specs.Sound.{Legal}
use Rattle.ig_rule.specs.Stages.{Finished as AllDone}
use Rattle.ig_rule.specs.Stages.{task_id}
use Rattle.ig_rule.specs.WentOn.{idled_legal}
use Rattle.ig_task.specs.Facts.{stage_reader}
use Rattle.ig_task.specs.Pipeline.{is_allowed}
use Rattle.ig_worker.specs.declared.error.WorkerError.{WorkerError}
use Rattle.ig_worker.specs.declared.error.WorkerError.TheVariants.{Absent, BadRecord}
use Rattle.ig_worker.specs.declared.notes.Notes.{Notes}
use Rattle.ig_worker.specs.declared.phase.Phase.{Phase}
use Rattle.ig_worker.specs.declared.phase.Phase.TheVariants.{Broken}
use Rattle.ig_worker.specs.declared.plan.Plan.{Plan}
use Rattle.ig_worker.specs.declared.turn.End.{End}
use Rattle.ig_worker.specs.declared.turn.End.TheVariants as end
use Rattle.ig_worker.specs.Course.{end_at}
use Rattle.ig_worker.specs.Ending.Ends.{finished, letters, waiting}
use Rattle.ig_worker.specs.Ending.Lasts.{lasts_later}
use Rattle.ig_worker.specs.Ending.Places.{course_keeps}
use Rattle.ig_worker.specs.Ending.Records.{never_broken}
use Rattle.ig_worker.specs.Moves.{Move}
use Rattle.ig_worker.specs.Places.{State}
use Rattle.ig_worker.specs.Plans.{HasLimits}
use Rattle.ig_worker.specs.Ending.Standing.{AllowsFor, Lasts}
use Rattle.ig_cli.specs.Rules.{worker_rule}
use Rattle.ig_cli.specs.Worked.{EndsSo, HasSaid, HasWorked, IsStatusAt, Worked, status_at, status_of_end}

-- ---- the end, from the status
-- an end that has this status
record HasEnd (status : ℕ) (o : Option End) : Type 0 where
  how : End
  is : o ≡ Some how
  by : status ≡ status_of_end how

has_end : (o : Option End) (status : ℕ) → Some status ≡ option_map status_of_end o → HasEnd status o
has_end None status is = absurd cc
has_end (Some e) status is = record { how = e; is = refl; by = same_Some status (status_of_end e) is }

-- a place whose status is that of no error has an end
end_of_place : (notes : Notes) (phase : Phase) (status : ℕ) → ¬ (status ≡ 5) → Some status ≡ status_at notes phase → HasEnd status (end_at notes phase)
end_of_place notes (Broken (Absent path)) status five is = absurd (five (same_Some status 5 is))
end_of_place notes (Broken (BadRecord path member)) status five is = absurd (five (same_Some status 5 is))
end_of_place notes phase status five is = has_end (end_at notes phase) status is

-- a status under 5 is that of the place, and so of an end
end_below : (place : State) (status : ℕ) → IsStatusAt place status → status < 5 → HasEnd status (end_at place.notes place.phase)
end_below place status (inl is) below = end_of_place place.notes place.phase status (λ five. omega (arith, five, below)) is
end_below place status (inr (inl is)) below = absurd (omega (arith, is, below))
end_below place status (inr (inr (inl is))) below = absurd (omega (arith, is, below))
end_below place status (inr (inr (inr is))) below = absurd (omega (arith, is, below))

at_0 : (o : Option End) (e : End) (status : ℕ) → o ≡ Some e → status ≡ status_of_end e → status ≡ 0 → (tasks : ℕ) × (o ≡ Some (end.Finished tasks))
at_0 o (end.Finished tasks) status is by none = (tasks, is)
at_0 o (end.Waiting tasks) status is by none = absurd (omega (arith, by, none))
at_0 o (end.Letters count) status is by none = absurd (omega (arith, by, none))
at_0 o (end.Spent turns) status is by none = absurd (omega (arith, by, none))

at_3 : (o : Option End) (e : End) (status : ℕ) → o ≡ Some e → status ≡ status_of_end e → status ≡ 3 → (tasks : ℕ) × (o ≡ Some (end.Waiting tasks))
at_3 o (end.Finished tasks) status is by three = absurd (omega (arith, by, three))
at_3 o (end.Waiting tasks) status is by three = (tasks, is)
at_3 o (end.Letters count) status is by three = absurd (omega (arith, by, three))
at_3 o (end.Spent turns) status is by three = absurd (omega (arith, by, three))

at_4 : (o : Option End) (e : End) (status : ℕ) → o ≡ Some e → status ≡ status_of_end e → status ≡ 4 → (count : ℕ) × (o ≡ Some (end.Letters count))
at_4 o (end.Finished tasks) status is by four = absurd (omega (arith, by, four))
at_4 o (end.Waiting tasks) status is by four = absurd (omega (arith, by, four))
at_4 o (end.Letters count) status is by four = (count, is)
at_4 o (end.Spent turns) status is by four = absurd (omega (arith, by, four))

module _ (place : State) (status : ℕ) (ended : IsStatusAt place status) where
  finished_end : status ≡ 0 → (tasks : ℕ) × (end_at place.notes place.phase ≡ Some (end.Finished tasks))
  finished_end none = let h = end_below place status ended (omega (arith, none)) in at_0 (end_at place.notes place.phase) h.how status h.is h.by none

  waiting_end : status ≡ 3 → (tasks : ℕ) × (end_at place.notes place.phase ≡ Some (end.Waiting tasks))
  waiting_end three = let h = end_below place status ended (omega (arith, three)) in at_3 (end_at place.notes place.phase) h.how status h.is h.by three

  letters_end : status ≡ 4 → (count : ℕ) × (end_at place.notes place.phase ≡ Some (end.Letters count))
  letters_end four = let h = end_below place status ended (omega (arith, four)) in at_4 (end_at place.notes place.phase) h.how status h.is h.by four

-- ---- no error, where the place is none's
end_not_five : (e : End) (status : ℕ) → status ≡ status_of_end e → status ≡ 5 → ⊥
end_not_five (end.Finished tasks) status by five = absurd (omega (arith, by, five))
end_not_five (end.Waiting tasks) status by five = absurd (omega (arith, by, five))
end_not_five (end.Letters count) status by five = absurd (omega (arith, by, five))
end_not_five (end.Spent turns) status by five = absurd (omega (arith, by, five))

abbrev IsNoError : Phase → Type 0
IsNoError phase = (error : WorkerError) → phase ≡ Broken error → ⊥

place_not_five : (notes : Notes) (phase : Phase) (status : ℕ) → IsNoError phase → Some status ≡ status_at notes phase → status ≡ 5 → ⊥
place_not_five notes (Broken (Absent path)) status never is five = never (Absent path) refl
place_not_five notes (Broken (BadRecord path member)) status never is five = never (BadRecord path member) refl
place_not_five notes phase status never is five = let h = has_end (end_at notes phase) status is in end_not_five h.how status h.by five

not_five : (place : State) (status : ℕ) → IsNoError place.phase → IsStatusAt place status → status ≡ 5 → ⊥
not_five place status never (inl is) five = place_not_five place.notes place.phase status never is five
not_five place status never (inr (inl is)) five = absurd (omega (arith, is, five))
not_five place status never (inr (inr (inl is))) five = absurd (omega (arith, is, five))
not_five place status never (inr (inr (inr is))) five = absurd (omega (arith, is, five))

-- ---- what it means
-- a finished stage stays so
done_still : (q : List ℕ) (old new : Files) → Lasts q old new → (n : ℕ) (t : Facts) → AllDone (queue_of q old) n t → AllDone (queue_of q new) n t
done_still q old new lasts n t all = λ k below. lasts.done (task_id n k) (all k below)

means : (plan : Plan) (from to : ℕ) (old new : Log) (ms : List Move) (place : State) (status : ℕ) (out_tells : Type 0) (out_before out_now : List ℕ) → Worked (AllowsFor Worker plan) plan from to old new ms place status
    → (out_tells → HasSaid ms place status out_before out_now) → HasLimits plan → to < 10 ^ 10 → Legal stage_reader plan.queue old → EndsSo plan from to old new status out_tells out_before out_now
means plan from to old new ms place status out_tells out_before out_now w said limits small legal =
    let q = plan.queue in
    let at_last = course_keeps Worker plan from old ms to place w.last limits small legal w.course in
    let at_new = idled_legal stage_reader Worker q w.last new w.rest at_last.legal in
    let lasts = lasts_later q w.last new (prefix_of w.rest) at_last.legal at_new in
    record {
      ms = ms;
      place = place;
      last = w.last;
      course = w.course;
      rest = w.rest;
      said = said;
      no_fault = not_five place status (never_broken Worker plan from old ms to place w.last limits small legal w.course) w.ended;
      finished = λ none.
          let e = finished_end place status w.ended none in
          let h = finished Worker plan from old ms to place w.last new limits small legal w.course (prefix_of w.rest) e.0 e.1 in
          record { tasks = e.0; said = e.1; ended = h.0; means = h.1; all = λ n t is. done_still q (files_of w.last) (files_of new) lasts n t (h.1.all n t is) };
      waiting = λ three.
          let e = waiting_end place status w.ended three in
          let h = waiting Worker plan from old ms to place w.last new limits small legal w.course (prefix_of w.rest) e.0 e.1 in
          record { tasks = e.0; said = e.1; ended = h.0; means = h.1 };
      letters = λ four.
          let e = letters_end place status w.ended four in
          let h = letters Worker plan from old ms to place w.last new limits small legal w.course (prefix_of w.rest) e.0 e.1 in
          record { count = e.0; said = e.1; ended = h.0; means = h.1 };
    }

-- The end of a worker's run, as it was printed, means so in a legal log.
pub ends_so : (plan : Plan) (from to : ℕ) (old new : Log) (status : ℕ)
    (out_tells : Type 0) (out_before out_now : List ℕ) (err_tells : Type 0) (faults_before faults_now : ℕ) (err_before err_now : List ℕ)
    → HasWorked (is_allowed (worker_rule plan.queue)) plan from to old new status out_tells out_before out_now err_tells faults_before faults_now err_before err_now
    → HasLimits plan → to < 10 ^ 10 → Legal stage_reader plan.queue old → EndsSo plan from to old new status out_tells out_before out_now
ends_so plan from to old new status out_tells out_before out_now err_tells faults_before faults_now err_before err_now h limits small legal =
    means plan from to old new h.ms h.place status out_tells out_before out_now h.worked h.said limits small legal
