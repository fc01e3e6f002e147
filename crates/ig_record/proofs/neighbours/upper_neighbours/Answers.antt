use Rattle.std.proofs.Common.{◌≤◌, sym, subst}
use Rattle.ig_space.specs.declared.point.Point.{Point}
use Rattle.ig_space.specs.Geometry.{count}
use Rattle.ig_record.specs.Stage.{most_tasks}
use Rattle.ig_record.specs.SoundStages.{IsSound-from}
use Rattle.ig_record.proofs.neighbours.upper_neighbours.Goals as goal

pub above-requires-clause-few : goal.above-requires-clause-few
above-requires-clause-few c = subst (λ (n : Point). count n ≤ most_tasks) (sym c.counts-counts.ensures) (IsSound-from c.args.stage.now c.requires.sound).few
