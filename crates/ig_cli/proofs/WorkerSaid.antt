-- What was printed of a worker's run.
use Rattle.std.proofs.Common.{◌≡◌, ◌⊎◌, ℕ, Bool, List, [], ◌++◌, Some, option_map, Result, Ok, Err, refl, ap, sym, subst, ◌∙◌, append_assoc, append-nil, arith, inl, inr}
use Rattle.ig_defs.specs.Causes.{Rose}
use Rattle.ig_defs.specs.declared.step.Act.{Act}
use Rattle.ig_defs.specs.Files.{Files}
use Rattle.ig_defs.specs.Log.{Log}
use Rattle.ig_worker.specs.declared.error.WorkerError.{WorkerError}
use Rattle.ig_worker.specs.declared.error.WorkerError.TheVariants.{Absent, BadRecord, Failed, Memory}
use Rattle.ig_worker.specs.declared.notes.Notes.{Notes}
use Rattle.ig_worker.specs.declared.phase.Phase.{Phase}
use Rattle.ig_worker.specs.declared.phase.Phase.TheVariants.{Trying, Telling, Over, Broken}
use Rattle.ig_worker.specs.declared.plan.Plan.{Plan}
use Rattle.ig_worker.specs.declared.turn.End.{End}
use Rattle.ig_worker.specs.Course.{end_at, said_of}
use Rattle.ig_worker.specs.Lines.{end_text, lines_text}
use Rattle.ig_worker.specs.Moves.{Move}
use Rattle.ig_worker.specs.Places.{State}
use Rattle.ig_cli.specs.declared.working.Stop.{Stop}
use Rattle.ig_cli.specs.declared.working.Stop.TheVariants as stop
use Rattle.ig_cli.specs.Report.{Ends, HasTold, err_line, own_line}
use Rattle.ig_cli.specs.Worked.{HasSaid, HasWarned, HasWorked, IsStatusAt, SaysAtFault, SaysLines, SaysToLast, complaint_at, last_text, status_at, status_of_end}
use Rattle.ig_cli.specs.Working.{IsStatusOfRun, Ran, SaysEnd, SaysTill, StopsAt, TakesEnd, ending_of_run}
use Rattle.ig_cli.proofs.WorkerTold.{all_lines, cut_text, fault_lines, with_text}
use Rattle.ig_cli.proofs.WorkerEnds.{ok_no_fault, own_line_at, told_memory, told_store}

-- ---- the status is that of the place
status_by_end : (notes : Notes) (phase : Phase) (e : End) → end_at notes phase ≡ Some e → status_at notes phase ≡ Some (status_of_end e)
status_by_end notes (Broken (Absent path)) e is = absurd cc
status_by_end notes (Broken (BadRecord path member)) e is = absurd cc
status_by_end notes (Broken Failed) e is = absurd cc
status_by_end notes (Broken Memory) e is = absurd cc
status_by_end notes (Over end) e is = ap (option_map status_of_end) is
status_by_end notes (Trying names) e is = ap (option_map status_of_end) is
status_by_end notes (Telling letters count) e is = ap (option_map status_of_end) is
status_by_end notes phase e is = absurd cc

broken_status : (place : State) (e : WorkerError) (status : ℕ) → place.phase ≡ Broken e → status_at place.notes (Broken e) ≡ Some 5 → (status ≡ 5) ⊎ (status ≡ 7) → IsStatusAt place status
broken_status place e status at five (inl is) = inl (ap Some is ∙ sym five ∙ ap (status_at place.notes) (sym at))
broken_status place e status at five (inr is) = inr (inr (inl is))

pub status_at_place : (ran : Result End Stop) (place : State) (status : ℕ) → StopsAt place ran → IsStatusOfRun ran status → IsStatusAt place status
status_at_place (Ok e) place status stops (inl is) = inl (ap Some is ∙ sym (status_by_end place.notes place.phase e stops))
status_at_place (Ok e) place status stops (inr (inl is)) = inr (inr (inl is))
status_at_place (Ok e) place status stops (inr (inr is)) = inr (inr (inr is))
status_at_place (Err (stop.Worker (Absent path))) place status stops is = broken_status place (Absent path) status stops refl is
status_at_place (Err (stop.Worker (BadRecord path member))) place status stops is = broken_status place (BadRecord path member) status stops refl is
status_at_place (Err (stop.Worker Failed)) place status stops is = inr (inl is)
status_at_place (Err (stop.Worker Memory)) place status stops is = inr (inr (inl is))
status_at_place (Err stop.Output) place status stops is = inr (inr (inr is))
status_at_place (Err stop.Memory) place status stops is = inr (inr (inl is))

-- ---- on standard output
module _ (ms : List Move) (place : State) (before mid now : List ℕ) where
  -- at 7 or 9 a first part is enough
  part_said : (status : ℕ) → (status ≡ 7) ⊎ (status ≡ 9) → SaysToLast ms [] before now → HasSaid ms place status before now
  part_said status (inl is) p = record { all = λ six seven nine. absurd (seven is); failed = λ six. absurd (omega (arith, is, six)); part = with_text ms (last_text (end_at place.notes place.phase)) before now p }
  part_said status (inr is) p = record { all = λ six seven nine. absurd (nine is); failed = λ six. absurd (omega (arith, is, six)); part = with_text ms (last_text (end_at place.notes place.phase)) before now p }

  fault_said : (status : ℕ) → status ≡ 6 → SaysAtFault ms before now → HasSaid ms place status before now
  fault_said status is h = record {
    all = λ six seven nine. absurd (six is);
    failed = λ six. h;
    part = fault_lines ms (last_text (end_at place.notes place.phase)) before now h;
  }

  broken_said : (status : ℕ) (e : WorkerError) → place.phase ≡ Broken e → (status ≡ 5) ⊎ (status ≡ 7) → SaysLines (said_of ms) before now → HasSaid ms place status before now
  broken_said status e at (inl is) told = record {
    all = λ six seven nine. told ∙ ap (λ xs. before ++ xs) (sym (append-nil (lines_text (said_of ms)))) ∙ ap (λ p. before ++ (lines_text (said_of ms) ++ last_text (end_at place.notes p))) (sym at);
    failed = λ six. absurd (omega (arith, is, six));
    part = all_lines ms (last_text (end_at place.notes place.phase)) before now told;
  }
  broken_said status e at (inr is) told = part_said status (inl is) (all_lines ms [] before now told)

  ended_said : (status : ℕ) (e : End) → ¬ (status ≡ 6) → end_at place.notes place.phase ≡ Some e → SaysLines (said_of ms) before mid → TakesEnd (end_text e) status mid now
      → HasSaid ms place status before now
  ended_said status e other at told took =
      let last : end_text e ≡ last_text (end_at place.notes place.phase) = ap last_text (sym at) in
      record {
        all = λ six seven nine. took.all seven nine ∙ ap (λ xs. xs ++ end_text e) told ∙ append_assoc before (lines_text (said_of ms)) (end_text e)
            ∙ ap (λ text. before ++ (lines_text (said_of ms) ++ text)) last;
        failed = λ six. absurd (other six);
        part = subst (λ text. SaysToLast ms text before now) last (cut_text ms (end_text e) before mid now told took.part);
      }

pub said : (ran : Result End Stop) (ms : List Move) (place : State) (status : ℕ) (before mid now : List ℕ) → StopsAt place ran → IsStatusOfRun ran status → SaysTill ms place ran before mid → SaysEnd ran status mid now
    → HasSaid ms place status before now
said (Ok e) ms place status before mid now stops is told took = ended_said ms place before mid now status e (ok_no_fault e status is).six stops told took
said (Err (stop.Worker (Absent path))) ms place status before mid now stops is told same = broken_said ms place before mid now status (Absent path) stops is (same ∙ told)
said (Err (stop.Worker (BadRecord path member))) ms place status before mid now stops is told same = broken_said ms place before mid now status (BadRecord path member) stops is (same ∙ told)
said (Err (stop.Worker Failed)) ms place status before mid now stops is told same = fault_said ms place before mid now status is (subst (SaysAtFault ms before) (sym same) told)
said (Err (stop.Worker Memory)) ms place status before mid now stops is told same = part_said ms place before mid now status (inl is) (subst (SaysToLast ms [] before) (sym same) told)
said (Err stop.Output) ms place status before mid now stops is told same = part_said ms place before mid now status (inr is) (subst (SaysToLast ms [] before) (sym same) told)
said (Err stop.Memory) ms place status before mid now stops is told same = part_said ms place before mid now status (inl is) (subst (SaysToLast ms [] before) (sym same) told)

-- ---- on standard error
complaint : (ran : Result End Stop) (place : State) (status : ℕ) → StopsAt place ran → IsStatusOfRun ran status → status ≡ 5 → own_line (Ends (ending_of_run ran)) ≡ complaint_at place.phase
complaint (Ok e) place status stops is five = absurd ((ok_no_fault e status is).five five)
complaint (Err (stop.Worker (Absent path))) place status stops is five = ap complaint_at (sym stops)
complaint (Err (stop.Worker (BadRecord path member))) place status stops is five = ap complaint_at (sym stops)
complaint (Err (stop.Worker Failed)) place status stops is five = absurd (omega (arith, is, five))
complaint (Err (stop.Worker Memory)) place status stops is five = absurd (omega (arith, is, five))
complaint (Err stop.Output) place status stops is five = absurd (omega (arith, is, five))
complaint (Err stop.Memory) place status stops is five = absurd (omega (arith, is, five))

is_silent : (ran : Result End Stop) (status : ℕ) → IsStatusOfRun ran status → ¬ (status ≡ 5) → ¬ (status ≡ 6) → ¬ (status ≡ 7) → own_line (Ends (ending_of_run ran)) ≡ []
is_silent (Ok e) status is five six seven = refl
is_silent (Err (stop.Worker (Absent path))) status (inl is) five six seven = absurd (five is)
is_silent (Err (stop.Worker (Absent path))) status (inr is) five six seven = absurd (seven is)
is_silent (Err (stop.Worker (BadRecord path member))) status (inl is) five six seven = absurd (five is)
is_silent (Err (stop.Worker (BadRecord path member))) status (inr is) five six seven = absurd (seven is)
is_silent (Err (stop.Worker Failed)) status is five six seven = absurd (six is)
is_silent (Err (stop.Worker Memory)) status is five six seven = absurd (seven is)
is_silent (Err stop.Output) status is five six seven = refl
is_silent (Err stop.Memory) status is five six seven = absurd (seven is)

warned : (ran : Result End Stop) (place : State) (status faults_before faults_now : ℕ) (before now : List ℕ) → StopsAt place ran → IsStatusOfRun ran status
    → HasTold (err_line (Ends (ending_of_run ran)) status) faults_before faults_now before now → ¬ Rose faults_before faults_now → HasWarned place status before now
warned ran place status a b before now stops is told quiet = record {
  refused = λ five. told.all quiet ∙ ap (λ text. before ++ text)
      (own_line_at (Ends (ending_of_run ran)) status (λ seven. omega (arith, five, seven)) ∙ complaint ran place status stops is five);
  failed = told_store ran status a b before now is told quiet;
  memory = told_memory ran status a b before now is told quiet;
  none = λ five six seven. told.all quiet ∙ ap (λ text. before ++ text) (own_line_at (Ends (ending_of_run ran)) status seven ∙ is_silent ran status is five six seven) ∙ append-nil before;
}

-- ---- all of it
pub worked : (allows : Bool → Files → Act → Type 0) (plan : Plan) (from to : ℕ) (old new : Log) (ran : Result End Stop) (status : ℕ)
    (out_tells : Type 0) (out_before out_mid out_now : List ℕ) (err_tells : Type 0) (faults_before faults_now : ℕ) (err_before err_now : List ℕ)
    → Ran allows plan from to old new out_tells out_before out_mid ran → IsStatusOfRun ran status → (out_tells → SaysEnd ran status out_mid out_now)
    → (err_tells → HasTold (err_line (Ends (ending_of_run ran)) status) faults_before faults_now err_before err_now)
    → HasWorked allows plan from to old new status out_tells out_before out_now err_tells faults_before faults_now err_before err_now
worked allows plan from to old new ran status out_tells out_before out_mid out_now err_tells a b err_before err_now h is out err = record {
  ms = h.ms;
  place = h.place;
  worked = record { last = h.last; course = h.course; rest = h.rest; ended = status_at_place ran h.place status h.stops is };
  said = λ t. said ran h.ms h.place status out_before out_mid out_now h.stops is (h.said t) (out t);
  warned = λ t quiet. warned ran h.place status a b err_before err_now h.stops is (err t) quiet;
}
