-- What a turn of a worker gives, from its step and its line.
use Rattle.std.proofs.Common.{◌≡◌, ℕ, Bool, List, Option, None, Some, Result, Ok, Err, refl, ap, sym, subst, ◌∙◌}
use Rattle.ig_defs.specs.declared.step.Act.{Act}
use Rattle.ig_defs.specs.Files.{Files}
use Rattle.ig_defs.specs.Log.{Log}
use Rattle.ig_worker.specs.declared.error.WorkerError.{WorkerError}
use Rattle.ig_worker.specs.declared.turn.End.{End}
use Rattle.ig_worker.specs.declared.turn.Line.{Line}
use Rattle.ig_worker.specs.declared.turn.Turn.{Turn}
use Rattle.ig_worker.specs.declared.turn.Turn.TheVariants.{On, Said, Ended}
use Rattle.ig_worker.specs.Places.{State}
use Rattle.ig_worker.specs.Steps.{Stepped}
use Rattle.ig_cli.specs.declared.working.Stop.{Stop}
use Rattle.ig_cli.specs.declared.working.Stop.TheVariants as stop
use Rattle.ig_cli.specs.Working.{TakesLine, Turned}

module _ (allows : Bool → Files → Act → Type 0) (from to : ℕ) (s : State) (old new : Log) (next : State) (tells : Type 0) (before : List ℕ) where
  step_is : (turn other : Turn) → turn ≡ other → Stepped allows from to s old new next (Ok turn) → Stepped allows from to s old new next (Ok other)
  step_is turn other is stepped = subst (λ t. Stepped allows from to s old new next (Ok t)) is stepped

  pub turned_on : (turn : Turn) → turn ≡ On → Stepped allows from to s old new next (Ok turn) → Turned allows from to s old new next tells before before (Ok None)
  turned_on turn is stepped = record { answer = Ok On; stepped = step_is turn On is stepped; answers = (refl, λ t. refl) }

  pub turned_ended : (turn : Turn) (e : End) → turn ≡ Ended e → Stepped allows from to s old new next (Ok turn) → Turned allows from to s old new next tells before before (Ok (Some e))
  turned_ended turn e is stepped = record { answer = Ok (Ended e); stepped = step_is turn (Ended e) is stepped; answers = (refl, λ t. refl) }

  pub turned_said : (now : List ℕ) (turn : Turn) (l : Line) → turn ≡ Said l → Stepped allows from to s old new next (Ok turn) → TakesLine tells l before now (Ok tt)
      → Turned allows from to s old new next tells before now (Ok None)
  turned_said now turn l is stepped took = record { answer = Ok (Said l); stepped = step_is turn (Said l) is stepped; answers = (λ e none. absurd cc, took) }

  pub turned_cut : (now : List ℕ) (turn : Turn) (l : Line) (result : Result (Option End) Stop) (e made : Stop) → turn ≡ Said l → Stepped allows from to s old new next (Ok turn) → TakesLine tells l before now (Err e)
      → result ≡ Err made → made ≡ e → Turned allows from to s old new next tells before now result
  turned_cut now turn l result e made is stepped took failed same =
      subst (λ r. Turned allows from to s old new next tells before now r) (sym (failed ∙ ap Err same))
      (record { answer = Ok (Said l); stepped = step_is turn (Said l) is stepped; answers = (λ f other. absurd cc, took) })

  pub turned_failed : (result : Result (Option End) Stop) (e : WorkerError) (made : Stop) → Stepped allows from to s old new next (Err e) → result ≡ Err made → made ≡ stop.Worker e
      → Turned allows from to s old new next tells before before result
  turned_failed result e made stepped failed same =
      subst (λ r. Turned allows from to s old new next tells before before r) (sym (failed ∙ ap Err same))
      (record { answer = Err e; stepped = stepped; answers = (refl, λ t. refl) })
