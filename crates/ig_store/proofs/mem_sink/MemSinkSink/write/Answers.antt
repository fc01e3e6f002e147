-- At a fault the room that was left was filled.
use Rattle.std.proofs.Common.{◌-◌, length, arith}
use Rattle.std.proofs.lemmas.Grind.{common_steps}
use Rattle.ig_store.proofs.mem_sink.MemSinkSink.write.Goals as goal

pub returns-clause-err : goal.returns-clause-err
returns-clause-err c = λ _. (c.args.self.now.limit - length c.args.self.now.bytes, grind (arith, common_steps))
