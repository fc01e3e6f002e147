use Rattle.ig_mode.proofs.Vectors.{lanes-modes}
use Rattle.ig_mode.proofs.row.mode_lanes.Goals as goal

pub returns : goal.returns
returns c =
    lanes-modes c.args.a c.args.b c.args.c c.args.d c.choose.result c.choose-2.result c.choose-3.result
    c.choose.ensures c.choose-2.ensures c.choose-3.ensures
