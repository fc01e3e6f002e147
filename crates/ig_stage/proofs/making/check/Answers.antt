use Rattle.std.proofs.Common.{ap, refl, ◌∙◌, Err}
use Rattle.std.proofs.lemmas.Result.{err_from_is_err_and}
use Rattle.ig_meaning.specs.Making.{Planned}
use Rattle.ig_stage.specs.Requests.{shown_request}
use Rattle.ig_stage.proofs.FreeLayers.{is_free, looks_know}
use Rattle.ig_stage.proofs.Lookings.{looks_error, under_rule}
use Rattle.ig_stage.proofs.Sounds.{row}
use Rattle.ig_stage.proofs.WholeMakings.{of_stage, stage_made, dir_is_empty, dir_not_empty, info_is_absent, info_not_absent, not_fit, plan_forgotten, plan_made, plan_not_made}
use Rattle.ig_stage.proofs.making.check.Goals as goal

pub returns-in_err-bytes-clause-looks : goal.returns-in_err-bytes-clause-looks
returns-in_err-bytes-clause-looks g c = λ tells planned_as.
    let p = err_from_is_err_and c.from_residual.result c.from_residual.ensures.1 in
    looks_error _ _ _ _ _ _ _ _ (p.1 ∙ ap Err p.2) (c.in_err-bytes.ensures.looks tells c.args.earlier.now planned_as (shown_request c.args.request.now) refl)

pub returns-in_err-stage-clause-looks : goal.returns-in_err-stage-clause-looks
returns-in_err-stage-clause-looks g c = λ tells planned_as.
    let p = err_from_is_err_and c.from_residual-in_err-stage.result c.from_residual-in_err-stage.ensures.1 in
    plan_not_made _ c.args.earlier.now planned_as _ _ _ _ _ _ (p.1 ∙ ap Err p.2)
    (c.in_ok-bytes.ensures.looks tells c.args.earlier.now planned_as (shown_request c.args.request.now) refl) c.in_err-stage.ensures.refused

pub dirs-requires : goal.dirs-requires
dirs-requires g c = (row c.in_ok-stage.stage c.in_ok-stage.ensures.draft).keeps

pub returns-in_err-dirs-clause-looks : goal.returns-in_err-dirs-clause-looks
returns-in_err-dirs-clause-looks g c = λ tells planned_as.
    let earlier = c.args.earlier.now in
    let p = err_from_is_err_and c.from_residual-in_err-dirs.result c.from_residual-in_err-dirs.ensures.1 in
    plan_forgotten _ earlier planned_as _ c.in_ok-stage.stage _ _ _ _ p.1 p.2
    (plan_made _ earlier planned_as _ _ _ _ _ (c.in_ok-bytes.ensures.looks tells earlier planned_as (shown_request c.args.request.now) refl) c.in_ok-stage.ensures.planned)

pub returns-in_err-check_info-clause-looks : goal.returns-in_err-check_info-clause-looks
returns-in_err-check_info-clause-looks g c = λ tells planned_as.
    let earlier = c.args.earlier.now in
    let p = err_from_is_err_and c.from_residual-in_err-check_info.result c.from_residual-in_err-check_info.ensures.1 in
    info_not_absent _ earlier planned_as _ c.in_ok-stage.stage _ _ _ _ _ (p.1 ∙ ap Err p.2)
    (plan_made _ earlier planned_as _ _ _ _ _ (c.in_ok-bytes.ensures.looks tells earlier planned_as (shown_request c.args.request.now) refl) c.in_ok-stage.ensures.planned)
    (under_rule _ _ _ _ _ _ _ c.in_ok-bytes.ensures.rule (c.in_err-check_info.ensures.looks tells earlier planned_as))

pub returns-in_err-check_dirs-clause-looks : goal.returns-in_err-check_dirs-clause-looks
returns-in_err-check_dirs-clause-looks g c = λ tells planned_as.
    let earlier = c.args.earlier.now in
    let p = err_from_is_err_and c.from_residual-in_err-check_dirs.result c.from_residual-in_err-check_dirs.ensures.1 in
    dir_not_empty _ earlier planned_as _ c.in_ok-stage.stage _ _ _ _ _ _ (p.1 ∙ ap Err p.2)
    (info_is_absent _ earlier planned_as _ c.in_ok-stage.stage _ _ _ _
    (plan_made _ earlier planned_as _ _ _ _ _ (c.in_ok-bytes.ensures.looks tells earlier planned_as (shown_request c.args.request.now) refl) c.in_ok-stage.ensures.planned)
    (under_rule _ _ _ _ _ _ _ c.in_ok-bytes.ensures.rule (c.in_ok-check_info.ensures.looks tells earlier planned_as)))
    (under_rule _ _ _ _ _ _ _ (c.in_ok-check_info.ensures.rule ∙ c.in_ok-bytes.ensures.rule)
    (of_stage _ earlier planned_as (shown_request c.args.request.now) c.in_ok-stage.stage _ _ _ _ c.in_ok-dirs.ensures (c.in_err-check_dirs.ensures.looks tells earlier planned_as c.in_ok-stage.stage)))

pub returns-in_err-check_after-clause-looks : goal.returns-in_err-check_after-clause-looks
returns-in_err-check_after-clause-looks g c = λ tells planned_as.
    let earlier = c.args.earlier.now in
    let p = err_from_is_err_and c.from_residual-in_err-check_after.result c.from_residual-in_err-check_after.ensures.1 in
    not_fit _ earlier planned_as _ c.in_ok-stage.stage _ _ _ _ _ (p.1 ∙ ap Err p.2)
    (dir_is_empty _ earlier planned_as _ c.in_ok-stage.stage _ _ _ _ _
    (info_is_absent _ earlier planned_as _ c.in_ok-stage.stage _ _ _ _
    (plan_made _ earlier planned_as _ _ _ _ _ (c.in_ok-bytes.ensures.looks tells earlier planned_as (shown_request c.args.request.now) refl) c.in_ok-stage.ensures.planned)
    (under_rule _ _ _ _ _ _ _ c.in_ok-bytes.ensures.rule (c.in_ok-check_info.ensures.looks tells earlier planned_as)))
    (under_rule _ _ _ _ _ _ _ (c.in_ok-check_info.ensures.rule ∙ c.in_ok-bytes.ensures.rule)
    (of_stage _ earlier planned_as (shown_request c.args.request.now) c.in_ok-stage.stage _ _ _ _ c.in_ok-dirs.ensures (c.in_ok-check_dirs.ensures.looks tells earlier planned_as c.in_ok-stage.stage))))
    c.in_err-check_after.ensures.judged

pub returns-clause-looks : goal.returns-clause-looks
returns-clause-looks g c = λ tells planned_as.
    let earlier = c.args.earlier.now in
    stage_made _ earlier planned_as _ c.in_ok-stage.stage _ _ _
    (dir_is_empty _ earlier planned_as _ c.in_ok-stage.stage _ _ _ _ _
    (info_is_absent _ earlier planned_as _ c.in_ok-stage.stage _ _ _ _
    (plan_made _ earlier planned_as _ _ _ _ _ (c.in_ok-bytes.ensures.looks tells earlier planned_as (shown_request c.args.request.now) refl) c.in_ok-stage.ensures.planned)
    (under_rule _ _ _ _ _ _ _ c.in_ok-bytes.ensures.rule (c.in_ok-check_info.ensures.looks tells earlier planned_as)))
    (under_rule _ _ _ _ _ _ _ (c.in_ok-check_info.ensures.rule ∙ c.in_ok-bytes.ensures.rule)
    (of_stage _ earlier planned_as (shown_request c.args.request.now) c.in_ok-stage.stage _ _ _ _ c.in_ok-dirs.ensures (c.in_ok-check_dirs.ensures.looks tells earlier planned_as c.in_ok-stage.stage))))
    c.in_ok-check_after.ensures.judged

pub returns-clause-free : goal.returns-clause-free
returns-clause-free g c = λ tells q layers knows.
    let s = c.in_ok-stage.stage in
    let earlier = c.args.earlier.now in
    let first = looks_know _ q earlier _ _ _ _ _ (c.in_ok-bytes.ensures.looks tells earlier Planned (shown_request c.args.request.now) refl) knows in
    let second = looks_know _ q earlier _ _ _ _ _ (under_rule _ _ _ _ _ _ _ c.in_ok-bytes.ensures.rule (c.in_ok-check_info.ensures.looks tells earlier Planned)) first in
    is_free (shown_request c.args.request.now) _ _ q earlier s _ _ _ _ _ (c.in_ok-check_info.ensures.rule ∙ c.in_ok-bytes.ensures.rule) layers
    (record { bytes = _; is = c.in_ok-stage.ensures.planned }) c.in_ok-check_after.ensures.can_run c.in_ok-check_after.ensures.not_taken second
    (c.in_ok-check_dirs.ensures.looks tells earlier Planned s) (c.in_ok-check_info.ensures.absent tells)
    _ c.in_ok-dirs.ensures (c.in_ok-check_dirs.ensures.empty tells q earlier)
