-- What a worker puts or takes away follows its leases.
use Rattle.std.proofs.Common.{◌≡◌, ◌<◌, ◌^◌, ℕ, List, [], ◌∷◌, ◌++◌, length, length-append, Some, ap, sym, subst, ◌∙◌, arith}
use Rattle.std.proofs.lemmas.Option.{same_Some}
use Rattle.ig_defs.specs.Log.{Log}
use Rattle.ig_defs.specs.Own.{moments_since}
use Rattle.ig_task.specs.Pipeline.{is_allowed}
use Rattle.ig_task.specs.declared.pipeline.Pipeline.{Pipeline}
use Rattle.ig_worker.specs.declared.plan.Plan.{Plan}
use Rattle.ig_worker.specs.Leasing.Leases.{FollowLeases, OwnStep}
use Rattle.ig_worker.specs.Leasing.Course.{course_leases}
use Rattle.ig_worker.specs.Plans.{HasLimits}
use Rattle.ig_worker.specs.Words.{plan_of_words}
use Rattle.ig_cli.specs.Worked.{HasWorked}
use Rattle.ig_cli.proofs.Performs.{since_same}

pub worker_leases : (words : List (List ℕ)) (rule : Pipeline) (plan asked : Plan) (from to : ℕ) (old new : Log) (status : ℕ) (out_tells : Type 0) (out_before out_now : List ℕ)
    (err_tells : Type 0) (faults_before faults_now : ℕ) (err_before err_now : List ℕ) → Some plan ≡ plan_of_words words → HasLimits plan → to < 10 ^ 10
    → HasWorked (is_allowed rule) plan from to old new status out_tells out_before out_now err_tells faults_before faults_now err_before err_now
    → plan_of_words words ≡ Some asked → FollowLeases asked from to (moments_since old new)
worker_leases words rule plan asked from to old new status out_tells out_before out_now err_tells a b err_before err_now some limits small h asks =
    subst (λ p. FollowLeases p from to (moments_since old new)) (same_Some plan asked (some ∙ asks))
    (course_leases (is_allowed rule) plan from old h.ms to h.place h.worked.last new limits small h.worked.course h.worked.rest)

-- nothing was done
not_nothing : (earlier : List OwnStep) (step : OwnStep) (later : List OwnStep) → [] ≡ earlier ++ step ∷ later → ⊥
not_nothing earlier step later is =
    let long = ap length is ∙ length-append earlier (step ∷ later) in
    absurd (omega (arith, long))

pub unread_leases : (plan : Plan) (at : ℕ) (old new : Log) → new ≡ old → FollowLeases plan at at (moments_since old new)
unread_leases plan at old new same = record {
  steps = [];
  are = sym (since_same old new same);
  clock = omega arith;
  each = λ earlier step later is write. absurd (not_nothing earlier step later is);
}
