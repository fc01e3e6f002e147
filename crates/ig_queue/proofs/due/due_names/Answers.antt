use Rattle.std.proofs.Common.{rules, ap, ◌∙◌}
use Rattle.ig_queue.proofs.DueNames.{all_due, due_more, due_same, first_more, none_due}
use Rattle.ig_queue.proofs.due.due_names.Goals as goal
use Rattle.ig_queue.proofs.due.due_names.Goals.{in-Some+in_ok-push, in_default}

pub loop-text-init : goal.loop-text-init
loop-text-init c = rw c.new-due.ensures.items (none_due c.args.now)

pub loop-text-preserved : goal.loop-text-preserved
loop-text-preserved c =
    first_more c.args.names.now c.loop-text.text-index c.args.now c.match-due_name.due.items c.text-item.result (search rules) (search rules)
    (elim c.match-due_name.branch [
      | in-Some+in_ok-push w ↦
          due_more _ _ c.args.now c.loop-text.due.items w.in-Some.name c.match-due_name.due.items (ap (λ due. due.items) w.due-is ∙ w.in_ok-push.ensures.items)
          w.in-Some.ensures.some.0 w.in-Some.ensures.some.1 w.in-Some.ensures.some.2 w.in-Some.ensures.back c.loop-text.invariant
      | in_default w ↦
          due_same _ _ c.args.now c.loop-text.due.items c.match-due_name.due.items (ap (λ due. due.items) w.due-is)
          (c.due_name.ensures.none (search rules)) c.loop-text.invariant
    ])

pub returns-clause-only : goal.returns-clause-only
returns-clause-only c = (all_due c.args.names.now c.loop-text.text-index c.args.now c.loop-text.due.items (search rules) c.loop-text.invariant).only

pub returns-clause-each : goal.returns-clause-each
returns-clause-each c = (all_due c.args.names.now c.loop-text.text-index c.args.now c.loop-text.due.items (search rules) c.loop-text.invariant).each
