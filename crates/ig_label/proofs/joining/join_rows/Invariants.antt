use Rattle.std.proofs.Common.{◌-◌}
use Rattle.ig_label.proofs.JoinLaws.{ArePlanes}
use Rattle.ig_label.proofs.joining.join_rows.Given as goal

abbrev pub invariant-loop-bound : goal.invariant-loop-bound
invariant-loop-bound l = ArePlanes l.width l.plane l.bound l.from l.runs l.fn.sets l.sets

abbrev pub decreases-loop-bound : goal.decreases-loop-bound
decreases-loop-bound l = l.end - l.bound
