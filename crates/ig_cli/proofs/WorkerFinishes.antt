-- A worker by itself ends with status 0, where nothing keeps it from finishing all tasks, unless memory runs out.
use Rattle.std.proofs.Common.{◌≡◌, ◌⊎◌, ◌<◌, ◌^◌, ℕ, true, List, [], ◌∷◌, Option, None, Some, All, option_map, refl, inl, inr, ap, sym, subst, ◌∙◌}
use Rattle.std.proofs.lemmas.List.Elements.{All-cons, All-nil}
use Rattle.std.proofs.lemmas.Option.{none-some, same_Some}
use Rattle.ig_defs.specs.declared.step.Step.{Step}
use Rattle.ig_defs.specs.Log.{Log, files_of}
use Rattle.ig_defs.specs.Own.{steps_since}
use Rattle.ig_meaning.specs.Words.{queue_of_words}
use Rattle.ig_rule.specs.declared.role.Role.TheVariants.{Worker}
use Rattle.ig_rule.specs.Sound.{Legal}
use Rattle.ig_stage.specs.CanMake.{AllOwn}
use Rattle.ig_task.specs.Facts.{stage_reader}
use Rattle.ig_task.specs.Pipeline.{is_allowed}
use Rattle.ig_task.specs.declared.pipeline.Pipeline.{Pipeline}
use Rattle.ig_worker.specs.declared.error.WorkerError.TheVariants.{Absent, BadRecord}
use Rattle.ig_worker.specs.declared.notes.Notes.{Notes}
use Rattle.ig_worker.specs.declared.phase.Phase.{Phase}
use Rattle.ig_worker.specs.declared.phase.Phase.TheVariants.{Broken}
use Rattle.ig_worker.specs.declared.plan.Plan.{Plan}
use Rattle.ig_worker.specs.declared.turn.End.{End}
use Rattle.ig_worker.specs.declared.turn.End.TheVariants.{Finished}
use Rattle.ig_worker.specs.Finishing.Alone.{IsOnItsWay, alone_finishes}
use Rattle.ig_worker.specs.Finishing.CanFinish.{CanFinish}
use Rattle.ig_worker.specs.Places.{State, stands}
use Rattle.ig_worker.specs.Plans.{HasLimits}
use Rattle.ig_worker.specs.Words.{plan_of_words}
use Rattle.ig_cli.specs.Rules.{rule_for, rule_of_words, worker_rule}
use Rattle.ig_cli.specs.Worked.{HasWorked, IsStatusAt, status_at, status_of_end}

-- ---- the status, from the place
end_zero : (o : Option End) (status : ℕ) → ((e : End) → o ≡ Some e → (tasks : ℕ) × (e ≡ Finished tasks)) → Some status ≡ option_map status_of_end o → status ≡ 0
end_zero None status ends is = absurd (none-some status (sym is))
end_zero (Some e) status ends is = same_Some status (status_of_end e) is ∙ ap status_of_end (ends e refl).1

place_zero : (notes : Notes) (phase : Phase) (status : ℕ) → IsOnItsWay (stands notes phase) → Some status ≡ status_at notes phase → status ≡ 0
place_zero notes (Broken (Absent path)) status way is = absurd (way.never_broken (Absent path) refl)
place_zero notes (Broken (BadRecord path member)) status way is = absurd (way.never_broken (BadRecord path member) refl)
place_zero notes phase status way is = end_zero _ status way.finishes is

by_status : (place : State) (status : ℕ) → IsOnItsWay place → (status ≡ 6 → ⊥) → (status ≡ 9 → ⊥) → IsStatusAt place status → (status ≡ 0) ⊎ (status ≡ 7)
by_status place status way six nine (inl is) = inl (place_zero place.notes place.phase status way is)
by_status place status way six nine (inr (inl is)) = absurd (six is)
by_status place status way six nine (inr (inr (inl is))) = inr is
by_status place status way six nine (inr (inr (inr is))) = absurd (nine is)

-- ---- nobody else steps
abbrev IsMine : Step → Type 0
IsMine step = step.mine ≡ true

each_own : (steps : List Step) → AllOwn steps → All IsMine steps
each_own [] own = All-nil IsMine
each_own (step ∷ steps) own = All-cons IsMine step steps own.0 (each_own steps own.1)

module _ (plan : Plan) (from to : ℕ) (old new : Log) (status : ℕ) (out_tells : Type 0) (out_before out_now : List ℕ) (err_tells : Type 0) (faults_before faults_now : ℕ) (err_before err_now : List ℕ) where
  abbrev Worked_by : Pipeline → Type 0
  Worked_by rule = HasWorked (is_allowed rule) plan from to old new status out_tells out_before out_now err_tells faults_before faults_now err_before err_now

  finishes_by : Worked_by (worker_rule plan.queue) → HasLimits plan → to < 10 ^ 10 → Legal stage_reader plan.queue old → CanFinish plan from (files_of old) → AllOwn (steps_since old new)
      → (status ≡ 6 → ⊥) → (status ≡ 9 → ⊥) → (status ≡ 0) ⊎ (status ≡ 7)
  finishes_by h limits small legal can own six nine =
      let w = h.worked in
      by_status h.place status (alone_finishes Worker plan from old h.ms to h.place w.last new limits small legal can w.course w.rest (each_own (steps_since old new) own)) six nine w.ended

  -- A worker by itself that can finish ends with status 0, unless memory runs out.
  pub worker_finishes : (words : List (List ℕ)) (rule : Pipeline) (asked : Plan) → Some plan ≡ plan_of_words words → rule ≡ rule_of_words words → HasLimits plan → to < 10 ^ 10 → Worked_by rule
      → plan_of_words words ≡ Some asked → Legal stage_reader asked.queue old → CanFinish asked from (files_of old) → AllOwn (steps_since old new) → (status ≡ 6 → ⊥) → (status ≡ 9 → ⊥) → (status ≡ 0) ⊎ (status ≡ 7)
  worker_finishes words rule asked some is limits small worked asks legal can own six nine =
      let by_plan : rule ≡ worker_rule plan.queue = is ∙ ap (λ o. rule_for o (queue_of_words words)) (sym some) in
      let same : asked ≡ plan = same_Some asked plan (sym asks ∙ sym some) in
      finishes_by (subst Worked_by by_plan worked) limits small (subst (λ p. Legal stage_reader p.queue old) same legal) (subst (λ p. CanFinish p from (files_of old)) same can) own six nine
