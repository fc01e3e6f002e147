use Rattle.ig_cli.proofs.WorkerEnds.{is_a_status}
use Rattle.ig_cli.proofs.WorkerSaid.{worked}
use Rattle.ig_cli.proofs.working.work.Goals as goal

pub returns-clause-statuses : goal.returns-clause-statuses
returns-clause-statuses g c = is_a_status c.run-ran.result c.conclude.result c.conclude.ensures.status

pub returns-clause-worked : goal.returns-clause-worked
returns-clause-worked g c = λ tells.
    worked _ _ _ _ _ _ c.run-ran.result c.conclude.result _ _ _ _ _ _ _ _ _ (c.run-ran.ensures.ran tells) c.conclude.ensures.status c.conclude.ensures.out c.conclude.ensures.err
