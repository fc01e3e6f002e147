use Rattle.ig_worker.proofs.Handings.{called_removed}
use Rattle.ig_worker.proofs.tasks.settle.Goals as goal

pub returns-in_ok-remove-in-None-clause-called : goal.returns-in_ok-remove-in-None-clause-called
returns-in_ok-remove-in-None-clause-called g c = λ tells.
    called_removed _ _ _ c.args.output.now.path c.args.output.now.text c.in_ok-remove-in-None.field-0 c.in-None.is (c.in_ok-remove-in-None.ensures.answered tells)
