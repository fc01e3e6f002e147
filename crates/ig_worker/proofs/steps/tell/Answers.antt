use Rattle.std.proofs.Common.{subst, sym, refl, List, Ok}
use Rattle.ig_space.specs.declared.task_id.TaskId.{TaskId}
use Rattle.ig_worker.specs.declared.phase.Phase.TheVariants.{Telling, Over}
use Rattle.ig_worker.specs.declared.turn.End.TheVariants.{Letters}
use Rattle.ig_worker.specs.declared.turn.Turn.TheVariants.{Ended}
use Rattle.ig_worker.specs.Places.{stands}
use Rattle.ig_worker.specs.Steps.{Rests}
use Rattle.ig_worker.proofs.Stepping.{none_taken}
use Rattle.ig_worker.proofs.steps.tell.Goals as goal

pub returns-in-None-clause-rests : goal.returns-in-None-clause-rests
returns-in-None-clause-rests c notes =
    subst (λ (letters : List TaskId). Rests notes (Telling letters c.args.count) (stands notes (Over (Letters c.args.count))) (Ok (Ended (Letters c.args.count))))
    (sym (none_taken c.args.letters c.take.result c.take.ensures.some c.in-None.is)) (refl, refl)
