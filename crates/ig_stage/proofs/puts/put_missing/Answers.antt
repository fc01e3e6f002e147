use Rattle.std.proofs.Common.{◌<◌, true, false, sym, subst}
use Rattle.ig_stage.proofs.NamesPut.{flag_is, set_does, unset_does}
use Rattle.ig_stage.proofs.SomeSteps.{some_nothing}
use Rattle.ig_stage.proofs.puts.put_missing.Goals as goal

pub returns-then-shown-task-clause-acts : goal.returns-then-shown-task-clause-acts
returns-then-shown-task-clause-acts g c = λ tells.
    set_does _ c.args.queue.now c.args.number c.args.stage.now c.args.task _ _
    (flag_is c.args.shown.now c.args.task true (subst (λ m. c.args.task < m) (sym c.requires.flags) c.requires.below) c.if-shown-task.true)

pub returns-then-shown-task-clause-named : goal.returns-then-shown-task-clause-named
returns-then-shown-task-clause-named g c = λ tells none.
    let flag = flag_is c.args.shown.now c.args.task true (subst (λ m. c.args.task < m) (sym c.requires.flags) c.requires.below) c.if-shown-task.true in
    absurd (cc)

pub returns-clause-acts : goal.returns-clause-acts
returns-clause-acts g c = λ tells.
    unset_does _ c.args.queue.now c.args.number c.args.stage.now c.args.task _ _ _ c.put_name.result
    (flag_is c.args.shown.now c.args.task false (subst (λ m. c.args.task < m) (sym c.requires.flags) c.requires.below) c.if-shown-task.false) (c.put_name.ensures.acts tells)

pub returns-then-shown-task-clause-some : goal.returns-then-shown-task-clause-some
returns-then-shown-task-clause-some g c = λ tells. some_nothing _ _
