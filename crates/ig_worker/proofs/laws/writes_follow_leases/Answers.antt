use Rattle.ig_worker.specs.Leasing.Course.{course_leases}
use Rattle.ig_worker.specs.Ending.Standing.{AllowsFor}
use Rattle.ig_worker.proofs.laws.writes_follow_leases.Goals as goal

pub returns : goal.returns
returns c = λ role plan. course_leases (AllowsFor role plan) plan
