-- The clauses of a worker's run, from how it stopped and its status.
use Rattle.std.proofs.Common.{◌≡◌, ◌<◌, ◌==◌, if◌then◌else◌, ℕ, Bool, false, List, [], ◌∷◌, ◌++◌, length, slice_index_or, Contains, Result, Ok, Err, refl, ap, sym, ◌∙◌, arith, inl, inr}
use Rattle.std.proofs.lemmas.Bool.Decides.{nat_tests}
use Rattle.ig_defs.specs.Causes.{Rose}
use Rattle.ig_meaning.specs.Lines.{fault_line, memory_text, store_text}
use Rattle.ig_worker.specs.declared.error.WorkerError.TheVariants.{Absent, BadRecord, Failed, Memory}
use Rattle.ig_worker.specs.declared.turn.End.{End}
use Rattle.ig_worker.specs.declared.turn.End.TheVariants as end
use Rattle.ig_cli.specs.declared.working.Stop.{Stop}
use Rattle.ig_cli.specs.declared.working.Stop.TheVariants as stop
use Rattle.ig_cli.specs.Report.{Ended, Ends, HasTold, err_line, own_line}
use Rattle.ig_cli.specs.Worked.{status_of_end}
use Rattle.ig_cli.specs.Working.{IsStatusOfRun, ending_of_run}

-- ---- statuses
abbrev pub statuses : List ℕ
statuses = 0 ∷ 3 ∷ 4 ∷ 5 ∷ 6 ∷ 7 ∷ 8 ∷ 9 ∷ []

among : (status n k : ℕ) → status ≡ n → k < length statuses → slice_index_or statuses k status ≡ n → Contains statuses status
among status n k is below found = (k, below, found ∙ sym is)

end_status : (e : End) (status : ℕ) → status ≡ status_of_end e → Contains statuses status
end_status (end.Finished tasks) status is = among status 0 0 is (omega arith) refl
end_status (end.Waiting tasks) status is = among status 3 1 is (omega arith) refl
end_status (end.Letters count) status is = among status 4 2 is (omega arith) refl
end_status (end.Spent turns) status is = among status 8 6 is (omega arith) refl

pub is_a_status : (ran : Result End Stop) (status : ℕ) → IsStatusOfRun ran status → Contains statuses status
is_a_status (Ok e) status (inl is) = end_status e status is
is_a_status (Ok e) status (inr (inl is)) = among status 7 5 is (omega arith) refl
is_a_status (Ok e) status (inr (inr is)) = among status 9 7 is (omega arith) refl
is_a_status (Err (stop.Worker (Absent path))) status (inl is) = among status 5 3 is (omega arith) refl
is_a_status (Err (stop.Worker (Absent path))) status (inr is) = among status 7 5 is (omega arith) refl
is_a_status (Err (stop.Worker (BadRecord path member))) status (inl is) = among status 5 3 is (omega arith) refl
is_a_status (Err (stop.Worker (BadRecord path member))) status (inr is) = among status 7 5 is (omega arith) refl
is_a_status (Err (stop.Worker Failed)) status is = among status 6 4 is (omega arith) refl
is_a_status (Err (stop.Worker Memory)) status is = among status 7 5 is (omega arith) refl
is_a_status (Err stop.Output) status is = among status 9 7 is (omega arith) refl
is_a_status (Err stop.Memory) status is = among status 7 5 is (omega arith) refl

-- an end has neither the status of an error nor that of a fault
pub record IsNoFault (status : ℕ) : Type 0 where
  pub five : ¬ (status ≡ 5)
  pub six : ¬ (status ≡ 6)

no_fault : (status n : ℕ) → status ≡ n → ¬ (n ≡ 5) → ¬ (n ≡ 6) → IsNoFault status
no_fault status n is five six = record { five = λ e. five (sym is ∙ e); six = λ e. six (sym is ∙ e) }

end_no_fault : (e : End) (status : ℕ) → status ≡ status_of_end e → IsNoFault status
end_no_fault (end.Finished tasks) status is = no_fault status 0 is (λ e. omega (arith, e)) (λ e. omega (arith, e))
end_no_fault (end.Waiting tasks) status is = no_fault status 3 is (λ e. omega (arith, e)) (λ e. omega (arith, e))
end_no_fault (end.Letters count) status is = no_fault status 4 is (λ e. omega (arith, e)) (λ e. omega (arith, e))
end_no_fault (end.Spent turns) status is = no_fault status 8 is (λ e. omega (arith, e)) (λ e. omega (arith, e))

pub ok_no_fault : (e : End) (status : ℕ) → IsStatusOfRun (Ok e) status → IsNoFault status
ok_no_fault e status (inl is) = end_no_fault e status is
ok_no_fault e status (inr (inl is)) = no_fault status 7 is (λ e. omega (arith, e)) (λ e. omega (arith, e))
ok_no_fault e status (inr (inr is)) = no_fault status 9 is (λ e. omega (arith, e)) (λ e. omega (arith, e))

-- at 6 the store failed
pub at_6 : (ran : Result End Stop) (status : ℕ) → IsStatusOfRun ran status → status ≡ 6 → ran ≡ Err (stop.Worker Failed)
at_6 (Ok e) status is six = absurd ((ok_no_fault e status is).six six)
at_6 (Err (stop.Worker (Absent path))) status (inl is) six = absurd (omega (arith, is, six))
at_6 (Err (stop.Worker (Absent path))) status (inr is) six = absurd (omega (arith, is, six))
at_6 (Err (stop.Worker (BadRecord path member))) status (inl is) six = absurd (omega (arith, is, six))
at_6 (Err (stop.Worker (BadRecord path member))) status (inr is) six = absurd (omega (arith, is, six))
at_6 (Err (stop.Worker Failed)) status is six = refl
at_6 (Err (stop.Worker Memory)) status is six = absurd (omega (arith, is, six))
at_6 (Err stop.Output) status is six = absurd (omega (arith, is, six))
at_6 (Err stop.Memory) status is six = absurd (omega (arith, is, six))

-- ---- on standard error
line_at : (ended : Ended) (status n : ℕ) → status ≡ n → err_line ended status ≡ err_line ended n
line_at ended status n is = ap (err_line ended) is

choice_false : (b : Bool) (one other : List ℕ) → b ≡ false → (if b then one else other) ≡ other
choice_false b one other is = ap (λ c. if c then one else other) is

not_equal : (n m : ℕ) → ¬ (n ≡ m) → (n == m) ≡ false
not_equal n m other = grind (arith, nat_tests)

pub own_line_at : (ended : Ended) (status : ℕ) → ¬ (status ≡ 7) → err_line ended status ≡ own_line ended
own_line_at ended status other = choice_false (status == 7) (fault_line memory_text) (own_line ended) (not_equal status 7 other)

module _ (ran : Result End Stop) (status faults_before faults_now : ℕ) (before now : List ℕ) (is : IsStatusOfRun ran status)
    (told : HasTold (err_line (Ends (ending_of_run ran)) status) faults_before faults_now before now) where
  pub told_memory : ¬ Rose faults_before faults_now → status ≡ 7 → now ≡ before ++ fault_line memory_text
  told_memory quiet seven = told.all quiet ∙ ap (λ text. before ++ text) (line_at (Ends (ending_of_run ran)) status 7 seven)

  pub told_store : ¬ Rose faults_before faults_now → status ≡ 6 → now ≡ before ++ fault_line store_text
  told_store quiet six =
      told.all quiet ∙ ap (λ text. before ++ text)
      (line_at (Ends (ending_of_run ran)) status 6 six ∙ ap (λ r. err_line (Ends (ending_of_run r)) 6) (at_6 ran status is six))
