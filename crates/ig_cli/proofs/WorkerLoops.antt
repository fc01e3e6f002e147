-- A turn in the run of a worker, where the store keeps its rule.
use Rattle.std.proofs.Common.{◌≡◌, ◌≤◌, ℕ, Bool, false, List, Option, None, Some, Result, Ok, Err, ap, sym, subst, ◌∙◌}
use Rattle.ig_defs.specs.declared.step.Act.{Act}
use Rattle.ig_defs.specs.Files.{Files}
use Rattle.ig_defs.specs.Log.{Log}
use Rattle.ig_task.specs.declared.pipeline.Pipeline.{Pipeline}
use Rattle.ig_task.specs.Pipeline.{is_allowed}
use Rattle.ig_worker.specs.declared.plan.Plan.{Plan}
use Rattle.ig_worker.specs.declared.turn.End.{End}
use Rattle.ig_worker.specs.Left.{is_over}
use Rattle.ig_worker.specs.Places.{State}
use Rattle.ig_cli.specs.declared.working.Stop.{Stop}
use Rattle.ig_cli.specs.Working.{Ran, Turned}
use Rattle.ig_cli.proofs.WorkerRuns.{Along, ends, goes_on, stops_by}

pub failed_as : (allows : Bool → Files → Act → Type 0) (plan : Plan) (from to : ℕ) (old new : Log) (tells : Type 0) (before then : List ℕ) (result : Result End Stop) (e made : Stop)
    → result ≡ Err made → made ≡ e → Ran allows plan from to old new tells before then (Err e) → Ran allows plan from to old new tells before then result
failed_as allows plan from to old new tells before then result e made failed same h =
    subst (λ r. Ran allows plan from to old new tells before then r) (sym (failed ∙ ap Err same)) h

module _ (rule now : Pipeline) (is : now ≡ rule) (plan : Plan) (from to later : ℕ) (after : to ≤ later) (old mid new : Log) (w next : State) (tells : Type 0) (before taken then : List ℕ)
    (h : Along (is_allowed rule) plan from to old mid w tells before taken) (going : is_over w.phase ≡ false) where
  by_rule : (result : Result (Option End) Stop) → Turned (is_allowed now) to later w mid new next tells taken then result → Turned (is_allowed rule) to later w mid new next tells taken then result
  by_rule result t = subst (λ r. Turned (is_allowed r) to later w mid new next tells taken then result) is t

  pub ran_on : (o : Option End) → o ≡ None → Turned (is_allowed now) to later w mid new next tells taken then (Ok o) → Along (is_allowed rule) plan from later old new next tells before then
  ran_on o none t =
      goes_on (is_allowed rule) plan from to later after old mid new w next tells before taken then h going
      (subst (λ p. Turned (is_allowed rule) to later w mid new next tells taken then (Ok p)) none (by_rule (Ok o) t))

  pub ran_end : (o : Option End) (e : End) → o ≡ Some e → Turned (is_allowed now) to later w mid new next tells taken then (Ok o) → Ran (is_allowed rule) plan from later old new tells before then (Ok e)
  ran_end o e some t =
      ends (is_allowed rule) plan from to later after old mid new w next tells before taken then h going e
      (subst (λ p. Turned (is_allowed rule) to later w mid new next tells taken then (Ok p)) some (by_rule (Ok o) t))

  pub ran_stop : (result : Result End Stop) (e made : Stop) → result ≡ Err made → made ≡ e → Turned (is_allowed now) to later w mid new next tells taken then (Err e)
      → Ran (is_allowed rule) plan from later old new tells before then result
  ran_stop result e made failed same t =
      failed_as (is_allowed rule) plan from later old new tells before then result e made failed same
      (stops_by (is_allowed rule) plan from to later after old mid new w next tells before taken then h going e (by_rule (Err e) t))
