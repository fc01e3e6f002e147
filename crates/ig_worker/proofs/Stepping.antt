-- A step of a worker, from what its parts did.
use Rattle.std.specs.Prelude.{◌≡◌, ℕ, Bool, true, Result, Ok, Err, IfErr, List, [], ◌∷◌, length, ◌<◌, ◌↔◌, Option, None, IsSome, refl}
use Rattle.std.proofs.Common.{inl, inr, ap, sym, subst, ◌∙◌, arith, true≢false}
use Rattle.ig_space.specs.declared.task_id.TaskId.{TaskId}
use Rattle.ig_defs.specs.declared.step.Act.{Act}
use Rattle.ig_defs.specs.Files.{Files}
use Rattle.ig_defs.specs.Log.{Log}
use Rattle.ig_worker.specs.declared.error.WorkerError.{WorkerError}
use Rattle.ig_worker.specs.declared.error.WorkerError.TheVariants.{Absent, BadRecord, Failed, Memory}
use Rattle.ig_worker.specs.declared.next.Next.{Next}
use Rattle.ig_worker.specs.declared.notes.Notes.{Notes}
use Rattle.ig_worker.specs.declared.phase.Phase.{Phase}
use Rattle.ig_worker.specs.declared.turn.Turn.{Turn}
use Rattle.ig_worker.specs.Going.{GoesOn, IsSettled}
use Rattle.ig_worker.specs.Steps.{answer_of, calls, may_call, Rests, rests, Stepped, stops, StopsBy}
use Rattle.ig_worker.specs.Led.{Led}
use Rattle.ig_worker.specs.Moves.{Leads}
use Rattle.ig_worker.specs.Places.{stands}

stops_by : (allows : Bool → Files → Act → Type 0) (from to : ℕ) (before : Notes) (phase : Phase) (old new : Log) (now : Notes) (e : WorkerError)
    → GoesOn allows from to before phase old new now (Err e) → (e ≡ Failed → may_call phase ≡ true) → StopsBy allows from to (stands before phase) old new e
stops_by allows from to before phase old new now (Absent path) (inl led) may = (led.0, led.1, led.2)
stops_by allows from to before phase old new now (BadRecord path member) (inl led) may = (led.0, led.1, led.2)
stops_by allows from to before phase old new now Failed (inl led) may = (may refl, led)
stops_by allows from to before phase old new now Memory (inl led) may = led
stops_by allows from to before phase old new now e (inr rest) may = absurd rest.1

-- what goes on from a place is a step of the worker
pub stepped_by : (allows : Bool → Files → Act → Type 0) (from to : ℕ) (before : Notes) (phase : Phase) (old new : Log) (now : Notes)
    (came : Result Next WorkerError) (place : Phase) (result : Result Turn WorkerError)
    → now.plan ≡ before.plan → GoesOn allows from to before phase old new now came → IfErr came (λ e. e ≡ Failed → may_call phase ≡ true) → IsSettled came place result
    → Stepped allows from to (stands before phase) old new (stands now place) result
stepped_by allows from to before phase old new now (Ok next) place result plan (inl led) may settled =
    calls led.0 led.1 (ap (stands now) settled.1 ∙ sym led.2)
    next.turn settled.2 (ap (λ s. answer_of led.0.said s.phase) led.2 ∙ led.3)
stepped_by allows from to before phase old new now (Ok next) place result plan (inr rest) may settled =
    rests rest.0 (subst (λ p. Rests before phase (stands now p) result) (sym settled.1) (subst (λ r. Rests before phase (stands now next.phase) r) (sym settled.2) rest.1))
stepped_by allows from to before phase old new now (Err e) place result plan goes may settled =
    stops e settled.1 (stops_by allows from to before phase old new now e goes may)
    (record { plan = plan; kept = settled.0.kept; is = settled.0.is; error = settled.0.error })

-- a call that was made from this place goes on from it
pub goes_on_by : (allows : Bool → Files → Act → Type 0) (from to : ℕ) (before : Notes) (phase place : Phase) (old new : Log) (now : Notes) (came : Result Next WorkerError)
    → phase ≡ place → Led allows old new (Leads from to before place) before now came → GoesOn allows from to before phase old new now came
goes_on_by allows from to before phase place old new now came is led = subst (λ p. GoesOn allows from to before p old new now came) (sym is) (inl led)

-- where nothing could be taken out, there was nothing
pub none_taken : (letters : List TaskId) (taken : Option TaskId) → (IsSome taken ↔ (0 < length letters)) → taken ≡ None → letters ≡ []
none_taken [] taken some none = refl
none_taken (id ∷ letters) taken some none = absurd (true≢false (sym (subst IsSome none (some.1 (omega arith)))))
