use Rattle.std.proofs.Common.{List, Bool, ap, sym, ◌∙◌}
use Rattle.std.specs.List.{slice_get}
use Rattle.ig_stage.proofs.Continued.{continued}
use Rattle.ig_stage.proofs.OpenLogs.{makes_on}
use Rattle.ig_stage.proofs.SomeSteps.{some_then}
use Rattle.ig_stage.proofs.continuing.continue_unsealed.Goals as goal

pub returns-in_err-put_info-clause-legal : goal.returns-in_err-put_info-clause-legal
returns-in_err-put_info-clause-legal g c = λ tells is legal opened.
    (c.in_err-put_info.ensures.stays tells c.args.queue.now c.args.number (record { is = is; legal = legal; is_open = opened })).legal

pub returns-in_err-shown-clause-legal : goal.returns-in_err-shown-clause-legal
returns-in_err-shown-clause-legal g c = λ tells is legal opened.
    let q = c.args.queue.now in
    let n = c.args.number in
    let s = c.args.stage.now in
    let first = c.in_ok-put_info.ensures.stays tells q n (record { is = is; legal = legal; is_open = opened }) in
    (c.in_err-shown.ensures.stays tells s (makes_on q n s _ _ _ _ c.put_info.ensures.rule (record { is = is; legal = legal; is_open = opened }) first)).legal

pub returns-clause-acts : goal.returns-clause-acts
returns-clause-acts g c = λ tells.
    continued _ _ _ c.args.queue.now c.args.number c.args.stage.now c.tasks.result c.in_ok-shown.shown.items c.as_slice.result.now _ _ _ _ c.fill.result
    c.tasks.ensures.value c.as_slice.ensures.value c.in_ok-shown.ensures.same c.put_info.ensures.rule c.shown_tasks.ensures.rule
    (c.in_ok-put_info.ensures.acts tells) (c.in_ok-shown.ensures.acts tells) (c.fill.ensures.acts tells)

pub returns-clause-legal : goal.returns-clause-legal
returns-clause-legal g c = λ tells is legal opened.
    let q = c.args.queue.now in
    let n = c.args.number in
    let s = c.args.stage.now in
    let first = c.in_ok-put_info.ensures.stays tells q n (record { is = is; legal = legal; is_open = opened }) in
    let after_first = makes_on q n s _ _ _ _ c.put_info.ensures.rule (record { is = is; legal = legal; is_open = opened }) first in
    let second = c.in_ok-shown.ensures.stays tells s after_first in
    c.fill.ensures.legal tells (makes_on q n s _ _ _ _ c.shown_tasks.ensures.rule after_first second) (second.info (c.in_ok-put_info.ensures.stands tells))
    (λ k set. c.in_ok-shown.ensures.named tells s after_first k (ap (λ (flags : List Bool). slice_get flags k) (sym c.as_slice.ensures.value) ∙ set))

pub returns-in_err-shown-clause-some : goal.returns-in_err-shown-clause-some
returns-in_err-shown-clause-some g c = λ tells. some_then _ _ _ _ _ c.put_info.ensures.rule (c.in_ok-put_info.ensures.some tells) (c.in_err-shown.ensures.some tells)

pub returns-clause-some : goal.returns-clause-some
returns-clause-some g c = λ tells. some_then _ _ _ _ _ (c.shown_tasks.ensures.rule ∙ c.put_info.ensures.rule) (some_then _ _ _ _ _ c.put_info.ensures.rule (c.in_ok-put_info.ensures.some tells) (c.in_ok-shown.ensures.some tells)) (c.fill.ensures.some tells)
