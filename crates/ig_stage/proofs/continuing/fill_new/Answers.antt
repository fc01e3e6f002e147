use Rattle.std.proofs.Common.{◌<◌, List, Bool, length, ap, sym, subst, ◌∙◌}
use Rattle.std.specs.List.{slice_get}
use Rattle.ig_record.specs.Stage.{task_count}
use Rattle.ig_stage.proofs.Continued.{filled, none_named}
use Rattle.ig_stage.proofs.OpenLogs.{makes_on}
use Rattle.ig_stage.proofs.SomeSteps.{some_then}
use Rattle.ig_stage.proofs.continuing.fill_new.Goals as goal

pub returns-clause-acts : goal.returns-clause-acts
returns-clause-acts g c = λ tells.
    filled _ _ c.args.queue.now c.args.number c.args.stage.now c.as_slice.result.now _ _ _ c.fill.result
    (λ k below. ap (λ (flags : List Bool). slice_get flags k) c.as_slice.ensures.value ∙ c.in_ok-shown.ensures.each k (subst (λ m. k < m) (sym c.tasks.ensures.value) below))
    c.put_info.ensures.rule (c.in_ok-put_info.ensures.acts tells) (c.fill.ensures.acts tells)

pub returns-clause-legal : goal.returns-clause-legal
returns-clause-legal g c = λ tells is legal opened.
    let q = c.args.queue.now in
    let n = c.args.number in
    let s = c.args.stage.now in
    let first = c.in_ok-put_info.ensures.stays tells q n (record { is = is; legal = legal; is_open = opened }) in
    c.fill.ensures.legal tells (makes_on q n s _ _ _ _ c.put_info.ensures.rule (record { is = is; legal = legal; is_open = opened }) first) (c.in_ok-put_info.ensures.stands tells)
    (none_named q n (task_count s) c.as_slice.result.now (g.S.Store.log c.put_info.new.store) (ap length c.as_slice.ensures.value ∙ c.in_ok-shown.ensures.same ∙ c.tasks.ensures.value)
    (λ k below. ap (λ (flags : List Bool). slice_get flags k) c.as_slice.ensures.value ∙ c.in_ok-shown.ensures.each k (subst (λ m. k < m) (sym c.tasks.ensures.value) below)))

pub returns-clause-some : goal.returns-clause-some
returns-clause-some g c = λ tells. some_then _ _ _ _ _ c.put_info.ensures.rule (c.in_ok-put_info.ensures.some tells) (c.fill.ensures.some tells)
