use Rattle.std.proofs.Common.{◌≤◌, ◌<◌, ◌∙◌, arith, add-zero, true, false, sym}
use Rattle.ig_worker.proofs.Tallies.{counted_more}
use Rattle.ig_worker.proofs.counting.unlisted.Goals as goal
use Rattle.ig_worker.proofs.counting.unlisted.Goals.{then-not-contains, else-not-contains}

pub loop-task-preserved : goal.loop-task-preserved
loop-task-preserved c =
    let less : c.loop-task.task < 1000000 = omega (arith, c.loop-task-test.true, c.loop-task.auto.task-end, c.requires.tasks) in
    let most : c.loop-task.count ≤ c.loop-task.task = c.loop-task.invariant.1 in
    elim c.if-not-contains.branch [
      | then-not-contains w ↦ (
        λ given has. counted_more given c.args.places.now c.args.stage c.loop-task.task c.loop-task.count c.place_of.result c.if-not-contains.count c.contains.result false has c.requires.stage less
            c.place_of.ensures c.contains.ensures w.if-not-contains.true (c.loop-task.invariant.0 given has) w.count-is,
        omega (arith, most, w.count-is),
      )
      | else-not-contains w ↦ (
        λ given has. counted_more given c.args.places.now c.args.stage c.loop-task.task c.loop-task.count c.place_of.result c.if-not-contains.count c.contains.result true has c.requires.stage less
            c.place_of.ensures c.contains.ensures w.if-not-contains.false (c.loop-task.invariant.0 given has) (w.count-is ∙ sym (add-zero c.loop-task.count)),
        omega (arith, most, w.count-is),
      )
    ]
