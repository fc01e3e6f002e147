use Rattle.ig_worker.proofs.RecordReads.{record_missed}
use Rattle.ig_worker.proofs.learning.read_record.Goals as goal

pub returns-in-None-clause-given : goal.returns-in-None-clause-given
returns-in-None-clause-given g c = λ tells.
    record_missed _ _ _ c.args.queue.now c.args.number c.in_ok-path.path _ c.in_ok-path.ensures c.in-None.is (c.in_ok-text.ensures.answered tells)
