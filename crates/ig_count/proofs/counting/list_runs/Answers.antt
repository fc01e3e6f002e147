use Rattle.std.proofs.Common.{refl}
use Rattle.ig_count.proofs.SortedRuns.{all-listed, more-listed}
use Rattle.ig_count.proofs.counting.list_runs.Goals as goal

pub loop-from-preserved : goal.loop-from-preserved
loop-from-preserved c =
    let kept = c.loop-from.invariant in
    let run = c.end_of_run-to.ensures in (
      run.within,
      more-listed c.args.sorted.now c.loop-from.from c.end_of_run-to.result c.loop-from.items.items c.push.new.self.items _ kept.1 c.requires
          run.after run.within run.next run.times refl c.in_ok-push.ensures.items,
    )

pub returns : goal.returns
returns c = all-listed c.args.sorted.now c.loop-from.from c.loop-from.items.items c.loop-from.invariant.1 c.loop-from-test.false
