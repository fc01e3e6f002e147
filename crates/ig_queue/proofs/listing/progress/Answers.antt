use Rattle.std.proofs.Common.{arith, rules, ◌∙◌, true, false, add-zero, sym}
use Rattle.std.proofs.lemmas.Bool.{le-leb, lt-leb}
use Rattle.ig_queue.proofs.Counted.{few_listed, few_visible, front_more, none_more, one_more}
use Rattle.ig_queue.proofs.listing.progress.Goals as goal
use Rattle.ig_queue.proofs.listing.progress.Goals.{in-Some+then-name-now, in-Some+else-name-now, in_default}

pub overflow_add-listed : goal.overflow_add-listed
overflow_add-listed c =
    let few = few_listed c.args.names.now c.loop-text.text-index c.args.now c.loop-text.listed c.loop-text.visible c.loop-text.invariant in
    omega (arith, few, c.loop-text-test.true)

pub overflow_add-visible : goal.overflow_add-visible
overflow_add-visible c =
    let few = few_visible c.args.names.now c.loop-text.text-index c.args.now c.loop-text.listed c.loop-text.visible c.loop-text.invariant in
    omega (arith, few, c.loop-text-test.true)

pub loop-text-preserved : goal.loop-text-preserved
loop-text-preserved c =
    front_more c.args.names.now c.loop-text.text-index c.args.now c.match-name_in.listed c.match-name_in.visible c.text-item.result (search rules) (search rules)
    (elim c.match-name_in.branch [
      | in-Some+then-name-now w ↦
          one_more _ _ c.args.now c.loop-text.listed c.loop-text.visible _ _ c.loop-text.invariant w.in-Some.name true (sym w.in-Some.is ∙ c.name_in.ensures.name)
          (le-leb w.in-Some.name.visible c.args.now w.if-name-now.true) w.listed-is w.visible-is
      | in-Some+else-name-now w ↦
          one_more _ _ c.args.now c.loop-text.listed c.loop-text.visible _ _ c.loop-text.invariant w.in-Some.name false (sym w.in-Some.is ∙ c.name_in.ensures.name)
          (lt-leb w.in-Some.name.visible c.args.now w.if-name-now.false) w.listed-is (w.visible-is ∙ sym (add-zero c.loop-text.visible))
      | in_default w ↦
          none_more _ _ c.args.now c.loop-text.listed c.loop-text.visible _ _ c.loop-text.invariant (sym w.in_default.is ∙ c.name_in.ensures.name) w.listed-is w.visible-is
    ])
