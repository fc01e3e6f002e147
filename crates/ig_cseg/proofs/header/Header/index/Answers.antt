use Rattle.std.proofs.Common.{arith}
use Rattle.ig_cseg.proofs.Indices.{index-is}
use Rattle.ig_cseg.proofs.header.Header.index.Goals as goal

pub returns-clause-value : goal.returns-clause-value
returns-clause-value c =
    let h = c.args.self.now in
    index-is c.args.bytes.now h.block h.table h.bits h.values c.args.position c.from-word.result c.requires.header c.requires.few (omega arith)
