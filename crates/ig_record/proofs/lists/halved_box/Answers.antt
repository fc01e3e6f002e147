use Rattle.std.proofs.Common.{arith}
use Rattle.ig_space.specs.Geometry.{Fits-from}
use Rattle.ig_record.proofs.lists.halved_box.Goals as goal

pub overflow_add-result : goal.overflow_add-result
overflow_add-result c =
    let ends = (Fits-from c.args.scale.now c.requires.fits).x_ends in
    omega (arith, ends, c.requires.within.x_to, c.requires.within.x_some, c.down_times-x.ensures.most, c.down_times.ensures.most)

pub overflow_add-result-2 : goal.overflow_add-result-2
overflow_add-result-2 c =
    let ends = (Fits-from c.args.scale.now c.requires.fits).y_ends in
    omega (arith, ends, c.requires.within.y_to, c.requires.within.y_some, c.down_times-y.ensures.most, c.down_times-2.ensures.most)

pub overflow_add-result-3 : goal.overflow_add-result-3
overflow_add-result-3 c =
    let ends = (Fits-from c.args.scale.now c.requires.fits).x_ends in
    omega (arith, ends, c.requires.within.x_to, c.requires.within.x_some, c.down_times-x.ensures.most, c.up_times.ensures.most)

pub overflow_add-result-4 : goal.overflow_add-result-4
overflow_add-result-4 c =
    let ends = (Fits-from c.args.scale.now c.requires.fits).y_ends in
    omega (arith, ends, c.requires.within.y_to, c.requires.within.y_some, c.down_times-y.ensures.most, c.up_times-2.ensures.most)
