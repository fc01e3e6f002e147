use Rattle.ig_rule.specs.QueueStays.{queue_stays}
use Rattle.ig_rule.proofs.laws.no_task_is_lost.Goals as goal

pub returns-clause-recorded : goal.returns-clause-recorded
returns-clause-recorded c = λ read kinds q files a sound may. (queue_stays read kinds q files a sound may).stages

pub returns-clause-sealed : goal.returns-clause-sealed
returns-clause-sealed c = λ read kinds q files a sound may. (queue_stays read kinds q files a sound may).sealed

pub returns-clause-named : goal.returns-clause-named
returns-clause-named c = λ read kinds q files a sound may. (queue_stays read kinds q files a sound may).named

pub returns-clause-done : goal.returns-clause-done
returns-clause-done c = λ read kinds q files a sound may. (queue_stays read kinds q files a sound may).done
