-- A legal log stays so in a worker's run, and what the worker keeps is so in its files.
use Rattle.std.proofs.Common.{◌≡◌, ℕ, List, Option, Some, ap, sym, subst, ◌∙◌}
use Rattle.ig_defs.specs.Log.{Log, files_of}
use Rattle.ig_rule.specs.Sound.{Legal}
use Rattle.ig_task.specs.Facts.{stage_reader}
use Rattle.ig_worker.specs.declared.plan.Plan.{Plan}
use Rattle.ig_worker.specs.Course.{fresh}
use Rattle.ig_worker.specs.Knows.{Knows}
use Rattle.ig_worker.specs.Places.{State}
use Rattle.ig_cli.proofs.WorkerCourses.{fresh_knows}

pub record KeepsLegal (q : List ℕ) (log : Log) (w : State) : Type 0 where
  pub legal : Legal stage_reader q log
  pub known : Knows w (files_of log)

pub legal_at_first : (plan : Plan) (log : Log) (w : State) → w ≡ fresh plan → Legal stage_reader plan.queue log → KeepsLegal plan.queue log w
legal_at_first plan log w is legal = record { legal = legal; known = subst (λ s. Knows s (files_of log)) (sym is) (fresh_knows plan (files_of log)) }

-- of a turn, what its clause says of the plan that the worker keeps
abbrev pub LegalAfter : Option (List ℕ) → State → Log → Log → Type 0
LegalAfter queue w old new = queue ≡ Some w.notes.plan.queue → Legal stage_reader w.notes.plan.queue old → Knows w (files_of old) → Legal stage_reader w.notes.plan.queue new

abbrev pub KnownAfter : Option (List ℕ) → State → Log → Log → State → Type 0
KnownAfter queue w old new next = queue ≡ Some w.notes.plan.queue → Legal stage_reader w.notes.plan.queue old → Knows w (files_of old) → Knows next (files_of new)

module _ (queue : Option (List ℕ)) (plan : Plan) (w : State) (old new : Log) (is : queue ≡ Some plan.queue) (same : w.notes.plan ≡ plan) (h : KeepsLegal plan.queue old w) where
  own_queue : queue ≡ Some w.notes.plan.queue
  own_queue = is ∙ ap (λ p. Some p.queue) (sym same)

  own_legal : Legal stage_reader w.notes.plan.queue old
  own_legal = subst (λ p. Legal stage_reader p.queue old) (sym same) h.legal

  pub legal_then : LegalAfter queue w old new → Legal stage_reader plan.queue new
  legal_then after = subst (λ p. Legal stage_reader p.queue new) same (after own_queue own_legal h.known)

  pub keeps_on : (next : State) → LegalAfter queue w old new → KnownAfter queue w old new next → KeepsLegal plan.queue new next
  keeps_on next after known = record { legal = legal_then after; known = known own_queue own_legal h.known }
