use Rattle.ig_cli.proofs.Reports.{told}
use Rattle.ig_cli.proofs.report.complain.Goals as goal

pub returns-clause-err : goal.returns-clause-err
returns-clause-err g c = λ tells.
    told _ _ _ _ _ _ c.write.result c.as_bytes.ensures c.write.ensures.cause (c.write.ensures.ok tells) (c.write.ensures.err tells)
