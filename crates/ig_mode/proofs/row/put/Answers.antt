use Rattle.std.proofs.lemmas.Simd.{get_or-put_chunk_at, get_or-put_chunk_below}
use Rattle.std.proofs.Common.{arith}
use Rattle.ig_mode.proofs.row.put.Goals as goal

pub returns-clause-written : goal.returns-clause-written
returns-clause-written c k l = get_or-put_chunk_at c.args.at c.args.out.now c.args.labels k 0 (omega arith) (omega arith)

pub returns-clause-before : goal.returns-clause-before
returns-clause-before c k l = get_or-put_chunk_below c.args.at c.args.out.now c.args.labels k 0 l
