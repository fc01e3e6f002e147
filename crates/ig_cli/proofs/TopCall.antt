-- The clauses of the top call, by whether the words are a worker's.
use Rattle.std.proofs.Common.{◌≡◌, ◌⊎◌, ◌<◌, ◌^◌, ℕ, Bool, List, [], ◌∷◌, ◌++◌, Option, None, Some, refl, ap, sym, subst, ◌∙◌, arith, inl, inr, append-nil, Contains}
use Rattle.std.proofs.lemmas.List.Elements.{Contains-append_cases, Contains-append_left, Contains-append_right}
use Rattle.std.proofs.lemmas.Option.{none-some, same_Some}
use Rattle.ig_defs.specs.Causes.{Rose}
use Rattle.ig_defs.specs.declared.step.Act.{Act}
use Rattle.ig_defs.specs.Files.{Files}
use Rattle.ig_defs.specs.Log.{Log}
use Rattle.ig_meaning.specs.Call.{IsReady}
use Rattle.ig_meaning.specs.Lines.{fault_line, memory_text}
use Rattle.ig_meaning.specs.Plan.{stage_of_command}
use Rattle.ig_meaning.specs.Words.{Command, command_of, queue_of_command, queue_of_words}
use Rattle.ig_record.specs.declared.stage.Stage.{Stage}
use Rattle.ig_rule.specs.Sound.{Legal}
use Rattle.ig_defs.specs.TurnLaws.{idled_nothing}
use Rattle.ig_defs.specs.Turns.{Idled}
use Rattle.ig_task.specs.Facts.{stage_reader}
use Rattle.ig_task.specs.Pipeline.{is_allowed}
use Rattle.ig_task.specs.declared.pipeline.Pipeline.{Pipeline}
use Rattle.ig_worker.specs.declared.plan.Plan.{Plan}
use Rattle.ig_worker.specs.Course.{fresh}
use Rattle.ig_worker.specs.Plans.{HasLimits}
use Rattle.ig_worker.specs.Words.{plan_of_words}
use Rattle.ig_cli.specs.Rules.{queue_in_use, rule_for, rule_of_words, rule_with, worker_rule}
use Rattle.ig_cli.specs.Worked.{EndsSo, HasSaid, HasWorked}
use Rattle.ig_cli.proofs.PlanWords.{no_plan}
use Rattle.ig_cli.proofs.WorkerMeans.{ends_so}
use Rattle.ig_cli.proofs.WorkerTold.{all_lines}

-- ---- statuses
-- what is among a shorter list is among a longer one
more : (front xs ys : List ℕ) (x : ℕ) → (Contains xs x → Contains ys x) → Contains (front ++ xs) x → Contains (front ++ ys) x
more front xs ys x f there = by (Contains-append_cases front xs x there)
  where
    by : Contains front x ⊎ Contains xs x → Contains (front ++ ys) x
    by (inl is) = Contains-append_left front ys x is
    by (inr is) = Contains-append_right front ys x (f is)

abbrev statuses : List ℕ
statuses = 0 ∷ 2 ∷ 3 ∷ 4 ∷ 5 ∷ 6 ∷ 7 ∷ 8 ∷ 9 ∷ []

pub of_worker : (x : ℕ) → Contains (0 ∷ 3 ∷ 4 ∷ 5 ∷ 6 ∷ 7 ∷ 8 ∷ 9 ∷ []) x → Contains statuses x
of_worker x =
    more (0 ∷ []) (3 ∷ 4 ∷ 5 ∷ 6 ∷ 7 ∷ 8 ∷ 9 ∷ []) (2 ∷ 3 ∷ 4 ∷ 5 ∷ 6 ∷ 7 ∷ 8 ∷ 9 ∷ []) x
    (Contains-append_right (2 ∷ []) (3 ∷ 4 ∷ 5 ∷ 6 ∷ 7 ∷ 8 ∷ 9 ∷ []) x)

pub of_other : (x : ℕ) → Contains (0 ∷ 2 ∷ 5 ∷ 6 ∷ 7 ∷ 9 ∷ []) x → Contains statuses x
of_other x =
    more (0 ∷ 2 ∷ []) (5 ∷ 6 ∷ 7 ∷ 9 ∷ []) (3 ∷ 4 ∷ 5 ∷ 6 ∷ 7 ∷ 8 ∷ 9 ∷ []) x
    (λ last. Contains-append_right (3 ∷ 4 ∷ []) (5 ∷ 6 ∷ 7 ∷ 8 ∷ 9 ∷ []) x
    (more (5 ∷ 6 ∷ 7 ∷ []) (9 ∷ []) (8 ∷ 9 ∷ []) x (Contains-append_right (8 ∷ []) (9 ∷ []) x) last))

-- ---- words of a worker
asked_of : (o : Option Command) (files : Files) (s : Stage) → stage_of_command o files ≡ Some s → (command : Command) × (o ≡ Some command)
asked_of None files s is = absurd (none-some s is)
asked_of (Some command) files s is = (command, refl)

-- they are not those of another command, so of none that is ready
pub not_asked : (words : List (List ℕ)) (plan : Plan) (command : Command) → Some plan ≡ plan_of_words words → command_of words ≡ Some command → ⊥
not_asked words plan command some asked = none-some plan (sym (some ∙ no_plan words command asked))

pub not_ready : (words : List (List ℕ)) (plan : Plan) (files : Files) → Some plan ≡ plan_of_words words → IsReady words files → ⊥
not_ready words plan files some ready =
    let asked = asked_of (command_of words) files ready.stage ready.planned in
    not_asked words plan asked.0 some asked.1

queued_of : (o : Option Command) (q : List ℕ) → queue_of_command o ≡ Some q → (command : Command) × (o ≡ Some command)
queued_of None q is = absurd (none-some q is)
queued_of (Some command) q is = (command, refl)

-- nor of one that has a queue
pub not_queued : (words : List (List ℕ)) (plan : Plan) (q : List ℕ) → Some plan ≡ plan_of_words words → queue_of_words words ≡ Some q → ⊥
not_queued words plan q some is = let asked = queued_of (command_of words) q is in not_asked words plan asked.0 some asked.1

-- ---- the queue
-- that of the plan
plan_queue : (words : List (List ℕ)) (plan : Plan) (q : List ℕ) → Some plan ≡ plan_of_words words → queue_in_use words ≡ Some q → plan.queue ≡ q
plan_queue words plan q some in_use = same_Some plan.queue q (ap (λ o. (rule_for o (queue_of_words words)).queue) some ∙ in_use)

pub worker_legal : (words : List (List ℕ)) (plan : Plan) (q : List ℕ) (old new : Log) → Some plan ≡ plan_of_words words → queue_in_use words ≡ Some q
    → (Legal stage_reader plan.queue old → Legal stage_reader plan.queue new) → Legal stage_reader q old → Legal stage_reader q new
worker_legal words plan q old new some in_use = subst (λ d. Legal stage_reader d old → Legal stage_reader d new) (plan_queue words plan q some in_use)

with_queue : (o : Option (List ℕ)) → (rule_with o).queue ≡ o
with_queue None = refl
with_queue (Some q) = refl

-- without a plan, that of the words
pub queue_given : (words : List (List ℕ)) (o : Option (List ℕ)) → plan_of_words words ≡ None → queue_in_use words ≡ o → queue_of_words words ≡ o
queue_given words o none in_use = sym (ap (λ p. (rule_for p (queue_of_words words)).queue) none ∙ with_queue (queue_of_words words)) ∙ in_use

-- ---- where memory ran out before the words were read
pub stays_legal : {S : Type 0} (log : S → Log) (old new : S) (q : List ℕ) → new ≡ old → Legal stage_reader q (log old) → Legal stage_reader q (log new)
stays_legal log old new q same legal = subst (λ s. Legal stage_reader q (log s)) (sym same) legal

unread_said : (plan : Plan) (status : ℕ) (out_before out_now : List ℕ) → status ≡ 7 → (¬ (status ≡ 0) → ¬ (status ≡ 9) → out_now ≡ out_before) → HasSaid [] (fresh plan) status out_before out_now
unread_said plan status out_before out_now seven out = record {
  all = λ six other nine. absurd (other seven);
  failed = λ six. absurd (omega (arith, seven, six));
  part = all_lines [] [] out_before out_now (out (λ zero. omega (arith, seven, zero)) (λ nine. omega (arith, seven, nine)) ∙ sym (append-nil out_before));
}

pub unread_worked : (allows : Bool → Files → Act → Type 0) (plan : Plan) (at : ℕ) (old new : Log) (status : ℕ) (out_tells : Type 0) (out_before out_now : List ℕ)
    (err_tells : Type 0) (faults_before faults_now : ℕ) (err_before err_now : List ℕ) → new ≡ old → status ≡ 7
    → (out_tells → ¬ (status ≡ 0) → ¬ (status ≡ 9) → out_now ≡ out_before) → (err_tells → ¬ Rose faults_before faults_now → status ≡ 7 → err_now ≡ err_before ++ fault_line memory_text)
    → HasWorked allows plan at at old new status out_tells out_before out_now err_tells faults_before faults_now err_before err_now
unread_worked allows plan at old new status out_tells out_before out_now err_tells a b err_before err_now same seven out err = record {
  ms = [];
  place = fresh plan;
  worked = record { last = old; course = (omega arith, refl, refl); rest = subst (Idled allows old) (sym same) (idled_nothing allows old); ended = inr (inr (inl seven)) };
  said = λ t. unread_said plan status out_before out_now seven (out t);
  warned = λ t quiet. record {
    refused = λ five. absurd (omega (arith, seven, five));
    failed = λ six. absurd (omega (arith, seven, six));
    memory = err t quiet;
    none = λ five six other. absurd (other seven);
  };
}

pub unread_ends : (plan : Plan) (at : ℕ) (old new : Log) (status : ℕ) (out_tells : Type 0) (out_before out_now : List ℕ) → new ≡ old → status ≡ 7
    → (out_tells → ¬ (status ≡ 0) → ¬ (status ≡ 9) → out_now ≡ out_before) → EndsSo plan at at old new status out_tells out_before out_now
unread_ends plan at old new status out_tells out_before out_now same seven out = record {
  ms = [];
  place = fresh plan;
  last = old;
  course = (omega arith, refl, refl);
  rest = subst (Idled (is_allowed (worker_rule plan.queue)) old) (sym same) (idled_nothing (is_allowed (worker_rule plan.queue)) old);
  said = λ t. unread_said plan status out_before out_now seven (out t);
  no_fault = λ five. absurd (omega (arith, seven, five));
  finished = λ zero. absurd (omega (arith, seven, zero));
  waiting = λ three. absurd (omega (arith, seven, three));
  letters = λ four. absurd (omega (arith, seven, four));
}

-- ---- how a worker ends
pub worker_ends : (words : List (List ℕ)) (rule : Pipeline) (plan asked : Plan) (from to : ℕ) (old new : Log) (status : ℕ) (out_tells : Type 0) (out_before out_now : List ℕ)
    (err_tells : Type 0) (faults_before faults_now : ℕ) (err_before err_now : List ℕ) → Some plan ≡ plan_of_words words → rule ≡ rule_of_words words → HasLimits plan → to < 10 ^ 10
    → HasWorked (is_allowed rule) plan from to old new status out_tells out_before out_now err_tells faults_before faults_now err_before err_now
    → plan_of_words words ≡ Some asked → Legal stage_reader asked.queue old → EndsSo asked from to old new status out_tells out_before out_now
worker_ends words rule plan asked from to old new status out_tells out_before out_now err_tells a b err_before err_now some is limits small worked asks =
    let by_plan : rule ≡ worker_rule plan.queue = is ∙ ap (λ o. rule_for o (queue_of_words words)) (sym some) in
    let h = subst (λ r. HasWorked (is_allowed r) plan from to old new status out_tells out_before out_now err_tells a b err_before err_now) by_plan worked in
    subst (λ p. Legal stage_reader p.queue old → EndsSo p from to old new status out_tells out_before out_now) (same_Some plan asked (some ∙ asks))
    (ends_so plan from to old new status out_tells out_before out_now err_tells a b err_before err_now h limits small)
