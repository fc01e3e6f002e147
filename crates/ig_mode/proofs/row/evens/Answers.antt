use Rattle.std.proofs.Common.{◌+◌, get_or, refl, arith}
use Rattle.ig_mode.proofs.Vectors.{below_four, lane-of_two, lanes-later}
use Rattle.ig_mode.proofs.row.evens.Goals as goal

pub returns : goal.returns
returns c =
    let row = c.args.row.now in
    let at = c.args.at in
    let two = lane-of_two c.load.result c.load-2.result (λ p. get_or row (at + p) 0) c.load.ensures (lanes-later c.load-2.result row at c.load-2.ensures) in
    record { long = refl; each = below_four _ (two 0 (omega arith)) (two 2 (omega arith)) (two 4 (omega arith)) (two 6 (omega arith)) }
