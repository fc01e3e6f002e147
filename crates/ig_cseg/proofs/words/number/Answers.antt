use Rattle.std.proofs.Common.{arith, refl}
use Rattle.ig_cseg.proofs.Numbers.{number-halves}
use Rattle.ig_cseg.proofs.words.number.Goals as goal

pub returns : goal.returns
returns g c =
    number-halves g.row.N c.args.place c.from-low.result c.from.result _ c.args.bytes.now (omega arith) (omega arith) (omega arith) (omega arith) (omega arith) refl
