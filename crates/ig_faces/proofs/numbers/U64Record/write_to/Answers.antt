use Rattle.std.proofs.Common.{arith}
use Rattle.ig_faces.proofs.NumberLaws.{number-back}
use Rattle.ig_faces.proofs.numbers.U64Record.write_to.Goals as goal

pub returns-clause-back : goal.returns-clause-back
returns-clause-back c = number-back 8 c.args.self (omega arith)
