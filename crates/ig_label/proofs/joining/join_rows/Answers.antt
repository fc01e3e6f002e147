use Rattle.std.proofs.Common.{arith}
use Rattle.ig_label.proofs.JoinLaws.{no_planes, planes_more, all_planes, plane-small}
use Rattle.ig_label.proofs.joining.join_rows.Goals as goal

pub overflow_add-bound : goal.overflow_add-bound
overflow_add-bound c = let small = plane-small c.args.plane c.args.end c.requires.whole.0 c.requires.whole.1 (omega (arith, c.loop-bound-test.true)) in omega (arith, c.loop-bound-test.true, c.requires.few)

pub loop-bound-init : goal.loop-bound-init
loop-bound-init c = no_planes c.args.width c.args.plane c.args.runs.now c.args.sets.now c.requires.sets

pub loop-bound-preserved : goal.loop-bound-preserved
loop-bound-preserved c =
    let l = c.loop-bound in
    planes_more c.args.width c.args.plane l.bound l.from c.join_beside-from.result c.args.runs.now c.args.sets.now l.sets c.join_beside-from.new.sets c.requires.some c.requires.ascending l.invariant
    (record {
      order = c.join_beside-from.ensures.from;
      within = c.join_beside-from.ensures.within;
      before = c.join_beside-from.ensures.before;
      after = c.join_beside-from.ensures.after;
      joined = c.join_beside-from.ensures.joined;
    })

pub returns : goal.returns
returns c =
    let l = c.loop-bound in
    all_planes c.args.width c.args.plane l.bound l.from c.args.end c.args.runs.now c.args.sets.now l.sets c.requires.ascending c.requires.within c.loop-bound-test.false l.invariant
