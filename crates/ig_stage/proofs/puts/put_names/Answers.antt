use Rattle.std.proofs.Common.{arith, ◌∙◌}
use Rattle.ig_stage.proofs.NamesPut.{named_on, names_on}
use Rattle.ig_stage.proofs.OpenLogs.{makes_on, stays_then}
use Rattle.ig_stage.proofs.SomeSteps.{does_some, some_then}
use Rattle.ig_stage.proofs.puts.put_names.Goals as goal

pub loop-task-preserved : goal.loop-task-preserved
loop-task-preserved g c =
    let q = c.args.queue.now in
    let n = c.args.number in
    let s = c.args.stage.now in
    let flags = c.args.shown.now in (
      c.put_missing.ensures.rule ∙ c.loop-task.invariant.0,
      omega (arith, c.loop-task.invariant.1, c.in_ok-put_missing.ensures.cause.later),
      λ tells. names_on _ _ q n s flags c.loop-task.task _ _ _ c.loop-task.invariant.0 (c.loop-task.invariant.2 tells) (c.in_ok-put_missing.ensures.acts tells),
      λ tells m.
          let so_far = c.loop-task.invariant.3 tells m in
          named_on q n s flags c.loop-task.task _ _ _ so_far (c.in_ok-put_missing.ensures.stays tells (makes_on q n s _ _ _ _ c.loop-task.invariant.0 m so_far.stays))
          (c.in_ok-put_missing.ensures.named tells),
    )

pub returns-in_err-put_missing-clause-stays : goal.returns-in_err-put_missing-clause-stays
returns-in_err-put_missing-clause-stays g c = λ tells m.
    let q = c.args.queue.now in
    let n = c.args.number in
    let s = c.args.stage.now in
    let so_far = c.loop-task.invariant.3 tells m in
    stays_then q n s _ _ _ so_far.stays (c.in_err-put_missing.ensures.stays tells (makes_on q n s _ _ _ _ c.loop-task.invariant.0 m so_far.stays))

pub returns-in_err-put_missing-clause-some : goal.returns-in_err-put_missing-clause-some
returns-in_err-put_missing-clause-some g c = λ tells. some_then _ _ _ _ _ c.loop-task.invariant.0 (does_some _ _ _ _ (c.loop-task.invariant.2 tells)) (c.in_err-put_missing.ensures.some tells)

pub returns-clause-some : goal.returns-clause-some
returns-clause-some g c = λ tells. does_some _ _ _ _ (c.loop-task.invariant.2 tells)
