use Rattle.std.proofs.Common.{◌≡◌, [], refl, sym, ◌∙◌}
use Rattle.std.proofs.lemmas.Bool.{eqb-true}
use Rattle.std.proofs.lemmas.List.{nil_from_length}
use Rattle.ig_queue.proofs.Parsed.{queue_is, no_visible, no_task}
use Rattle.ig_queue.proofs.naming.parse_queue_name.Goals as goal

pub returns-in_err-visible-clause-none : goal.returns-in_err-visible-clause-none
returns-in_err-visible-clause-none c =
    λ _ name _ e. no_visible c.as_bytes.result.now (c.in_err-visible.ensures.none refl) name (c.as_bytes.ensures.value ∙ e)

pub returns-in_err-task-clause-none : goal.returns-in_err-task-clause-none
returns-in_err-task-clause-none c =
    λ _. no_task c.args.text.now c.in_ok-visible.rest.now c.in_ok-stage.rest.now c.in_ok-visible.visible c.in_ok-stage.stage
    c.in_ok-visible.ensures.small c.in_ok-stage.ensures.small
    (sym c.as_bytes.ensures.value ∙ c.in_ok-visible.ensures.some) c.in_ok-stage.ensures.some (c.in_err-task.ensures.none refl)

pub returns-clause-back : goal.returns-clause-back
returns-clause-back c =
    let ended : c.in_ok-attempt.rest.now ≡ [] = nil_from_length _ (eqb-true _ 0 (sym c.is_empty.ensures ∙ c.if-not-is_empty.false)) in
    queue_is c.args.text.now c.in_ok-visible.rest.now c.in_ok-stage.rest.now c.in_ok-task.rest.now c.in_ok-attempt.rest.now
    c.in_ok-visible.visible c.in_ok-stage.stage c.in_ok-task.task c.in_ok-attempt.attempt
    c.in_ok-visible.ensures.small c.in_ok-stage.ensures.small c.in_ok-task.ensures.small c.in_ok-attempt.ensures.small
    (sym c.as_bytes.ensures.value ∙ c.in_ok-visible.ensures.some) c.in_ok-stage.ensures.some c.in_ok-task.ensures.some c.in_ok-attempt.ensures.some ended
