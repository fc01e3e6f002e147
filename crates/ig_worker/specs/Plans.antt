-- The limits of a worker's plan.
use Rattle.std.specs.Prelude.{◌≡◌, ◌≤◌, ◌^◌, true, length}
use Rattle.ig_space.specs.Path.{is_path}
use Rattle.ig_worker.specs.declared.plan.Plan.{Plan}

pub record HasLimits (plan : Plan) : Type 0 where
  pub path : is_path plan.queue ≡ true
  pub short : length plan.queue ≤ 100
  pub lease : (1 ≤ plan.lease) × (plan.lease ≤ 10 ^ 6)
  pub tries : (1 ≤ plan.tries) × (plan.tries ≤ 100)
  pub turns : (1 ≤ plan.turns) × (plan.turns ≤ 10 ^ 9)
  pub parallel : plan.parallel ≡ 1
