use Rattle.std.proofs.Common.{arith, get_or, ◌≡◌}
use Rattle.ig_count.specs.declared.counts.LabelCount.{LabelCount}
use Rattle.ig_count.proofs.MergeSteps.{both-fit}
use Rattle.ig_count.proofs.merging.push_next.Goals as goal

pub overflow_add-a : goal.overflow_add-a
overflow_add-a c =
    let d : LabelCount = record { label = 0; voxels = 0 } in
    let same : (get_or c.args.old.now c.args.here d).label ≡ (get_or c.args.more.now c.args.there d).label = omega arith in
    let h = both-fit c.args.old.now c.args.more.now c.args.here c.args.there d c.requires.fits c.requires.here c.requires.there same in
    omega (arith, h)
