-- What one step of a worker keeps.
use Rattle.std.specs.Prelude.{◌⊎◌, ℕ, Some, IfOk, Result, Ok, Err}
use Rattle.std.proofs.Common.{inl, inr, sym, subst}
use Rattle.ig_defs.specs.Log.{Log, files_of}
use Rattle.ig_rule.specs.Roles.{Allows}
use Rattle.ig_rule.specs.declared.role.Role.{Role}
use Rattle.ig_rule.specs.Sound.{Legal}
use Rattle.ig_defs.specs.Turns.{Idled}
use Rattle.ig_task.specs.Facts.{stage_reader}
use Rattle.ig_worker.specs.declared.error.WorkerError.{WorkerError}
use Rattle.ig_worker.specs.declared.error.WorkerError.TheVariants.{Absent, BadRecord, Failed, Memory}
use Rattle.ig_worker.specs.declared.turn.Turn.{Turn}
use Rattle.ig_worker.specs.Fit.{IsFit}
use Rattle.ig_worker.specs.Keeping.Keeps.{idle_keeps, move_keeps, rests_knows}
use Rattle.ig_worker.specs.Knows.{Knows}
use Rattle.ig_worker.specs.Moves.{Move}
use Rattle.ig_worker.specs.Places.{State}
use Rattle.ig_worker.specs.Steps.{Called, Stepped, StopsBy, calls, rests, stops}

-- The log is legal, and where the step did not fail the worker knows its files.
pub record StepKeeps (s next : State) (new : Log) (result : Result Turn WorkerError) : Type 0 where
  pub legal : Legal stage_reader s.notes.plan.queue new
  pub known : IfOk result (λ turn. Knows next (files_of new))

if_ok : (P : Type 0) (result : Result Turn WorkerError) → P → IfOk result (λ turn. P)
if_ok P (Ok turn) p = p
if_ok P (Err e) p = tt

module _ (role : Role) (from to : ℕ) (s : State) (old new : Log) (fit : IsFit s) (legal : Legal stage_reader s.notes.plan.queue old) (known : Knows s (files_of old)) where
  called_legal : (m : Move) → Called (Allows stage_reader role (Some s.notes.plan.queue)) from to s old new m → Legal stage_reader s.notes.plan.queue new
  called_legal m called = (move_keeps role from to s old new m fit called legal known).legal

  maybe_legal : Idled (Allows stage_reader role (Some s.notes.plan.queue)) old new ⊎ ((m : Move) × Called (Allows stage_reader role (Some s.notes.plan.queue)) from to s old new m)
      → Legal stage_reader s.notes.plan.queue new
  maybe_legal (inl idled) = (idle_keeps role s old new idled legal known).legal
  maybe_legal (inr made) = called_legal made.0 made.1

  stopped_legal : (e : WorkerError) → StopsBy (Allows stage_reader role (Some s.notes.plan.queue)) from to s old new e → Legal stage_reader s.notes.plan.queue new
  stopped_legal Failed (may, inl idled) = maybe_legal (inl idled)
  stopped_legal Failed (may, inr made) = called_legal made.0 made.1
  stopped_legal Memory by = maybe_legal by
  stopped_legal (Absent path) by = called_legal by.0 by.1
  stopped_legal (BadRecord path member) by = called_legal by.0 by.1

  -- In a legal log, whose files a worker knows, each step leaves a legal log, and one that did not fail leaves a worker that knows its files.
  pub step_keeps : (next : State) (result : Result Turn WorkerError) → Stepped (Allows stage_reader role (Some s.notes.plan.queue)) from to s old new next result → StepKeeps s next new result
  step_keeps next result (calls m called is turn ok answers) =
      let keeps = move_keeps role from to s old new m fit called legal known in
      record { legal = keeps.legal; known = if_ok (Knows next (files_of new)) result (subst (λ n. Knows n (files_of new)) (sym is) keeps.known) }
  step_keeps next result (rests same by) = record {
    legal = subst (Legal stage_reader s.notes.plan.queue) (sym same) legal;
    known = if_ok (Knows next (files_of new)) result (rests_knows s next result (files_of new) by (subst (λ log. Knows s (files_of log)) (sym same) known));
  }
  step_keeps next result (stops e failed by stopped) = record {
    legal = stopped_legal e by;
    known = subst (λ r. IfOk r (λ turn. Knows next (files_of new))) (sym failed) tt;
  }
