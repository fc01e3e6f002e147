use Rattle.std.proofs.Common.{arith, ◌∙◌, length, ap, subst, Err}
use Rattle.std.proofs.lemmas.Result.{err_from_is_err_and}
use Rattle.ig_meaning.specs.Making.{New, making_of_request}
use Rattle.ig_meaning.specs.QueueMaking.{making_of_new}
use Rattle.ig_task.specs.Pipeline.{is_allowed}
use Rattle.ig_stage.specs.Made.{MakesBy}
use Rattle.ig_stage.specs.Requests.{shown_request}
use Rattle.ig_stage.proofs.Enqueues.{makes_as, makes_under, may_record, new_few, too_many}
use Rattle.ig_stage.proofs.Makers.{looks_fail, looks_legal, looks_then_makes}
use Rattle.ig_stage.proofs.enqueuing.make_after.Goals as goal

pub returns-then-number-ge10000-clause-made : goal.returns-then-number-ge10000-clause-made
returns-then-number-ge10000-clause-made g c = λ tells.
    too_many _ c.args.queue.now (shown_request c.args.want.now) c.args.stages.now _ _ c.len-number.ensures (omega (arith, c.if-number-ge10000.true))

pub returns-in_err-stage-clause-made : goal.returns-in_err-stage-clause-made
returns-in_err-stage-clause-made g c = λ tells.
    let q = c.args.queue.now in
    let stages = c.args.stages.now in
    let request = shown_request c.args.want.now in
    let p = err_from_is_err_and c.from_residual.result c.from_residual.ensures.1 in
    makes_as _ q (making_of_new request stages) (making_of_request stages (New (length stages)) request) _ _ _ (new_few request stages (omega (arith, c.len-number.ensures, c.if-number-ge10000.false)))
    (looks_fail _ q _ _ _ _ c.in_err-stage.field-0.0 _ (p.1 ∙ ap Err p.2) (c.in_err-stage.ensures.looks tells (New (length stages))))

pub returns-in_err-stage-clause-legal : goal.returns-in_err-stage-clause-legal
returns-in_err-stage-clause-legal g c = λ tells rule layers all finds legal.
    looks_legal _ c.args.queue.now _ _ _ _ _ rule (c.in_err-stage.ensures.looks tells (New (length c.args.stages.now))) legal

pub returns-clause-made : goal.returns-clause-made
returns-clause-made g c = λ tells.
    let q = c.args.queue.now in
    let stages = c.args.stages.now in
    let request = shown_request c.args.want.now in
    makes_as _ q (making_of_new request stages) (making_of_request stages (New (length stages)) request) _ _ _ (new_few request stages (omega (arith, c.len-number.ensures, c.if-number-ge10000.false)))
    (looks_then_makes _ q _ _ _ _ _ c.in_ok-stage.stage _ (c.in_ok-stage.ensures.looks tells (New (length stages)))
    (subst (λ n. MakesBy (is_allowed (g.S.Store.rule c.args.store.now)) q (New n c.in_ok-stage.stage) (g.S.Store.log c.check.new.store) (g.S.Store.log c.make_new.new.store) c.make_new.result)
    c.len-number.ensures (makes_under _ _ q _ _ _ _ c.check.ensures.rule (c.make_new.ensures.made tells))))

pub returns-clause-legal : goal.returns-clause-legal
returns-clause-legal g c = λ tells rule layers all finds legal.
    let q = c.args.queue.now in
    let stages = c.args.stages.now in
    c.make_new.ensures.legal tells stages
    (may_record _ _ q _ stages c.in_ok-stage.stage (shown_request c.args.want.now) _ _ _ _ _ rule c.check.ensures.rule c.len-number.ensures
    (omega (arith, c.len-number.ensures, c.if-number-ge10000.false)) layers all finds legal (c.in_ok-stage.ensures.looks tells (New (length stages)))
    c.in_ok-stage.ensures.can_run c.in_ok-stage.ensures.planned c.in_ok-stage.ensures.not_taken
    (c.in_ok-stage.ensures.free tells q layers (record { is = rule; knows = finds.knows })))

pub returns-clause-sealed : goal.returns-clause-sealed
returns-clause-sealed g c = λ tells rule layers all finds legal.
    let q = c.args.queue.now in
    let stages = c.args.stages.now in
    c.make_new.ensures.sealed tells stages
    (may_record _ _ q _ stages c.in_ok-stage.stage (shown_request c.args.want.now) _ _ _ _ _ rule c.check.ensures.rule c.len-number.ensures
    (omega (arith, c.len-number.ensures, c.if-number-ge10000.false)) layers all finds legal (c.in_ok-stage.ensures.looks tells (New (length stages)))
    c.in_ok-stage.ensures.can_run c.in_ok-stage.ensures.planned c.in_ok-stage.ensures.not_taken
    (c.in_ok-stage.ensures.free tells q layers (record { is = rule; knows = finds.knows })))
