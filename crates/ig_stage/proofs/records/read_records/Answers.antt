use Rattle.std.proofs.Common.{◌≡◌, true, Ok, Err, ap, refl, subst, ◌∙◌}
use Rattle.std.proofs.lemmas.Result.{err_from_is_err_and}
use Rattle.ig_space.specs.Path.{is_path}
use Rattle.ig_stage.proofs.KnownStages.{records_known}
use Rattle.ig_stage.proofs.Lookings.{looks_forgotten, looks_stopped}
use Rattle.ig_stage.proofs.RecordReads.{all_under_rule, looks_queue, records_fail, records_parsed}
use Rattle.ig_stage.proofs.records.read_records.Goals as goal

pub returns-in_err-dir-clause-looks : goal.returns-in_err-dir-clause-looks
returns-in_err-dir-clause-looks g c = λ tells next.
    let p = err_from_is_err_and c.from_residual.result c.from_residual.ensures.1 in
    looks_forgotten _ _ _ _ _ _ p.1 p.2

pub returns-in_err-listed-clause-looks : goal.returns-in_err-listed-clause-looks
returns-in_err-listed-clause-looks g c = λ tells next.
    let p = err_from_is_err_and c.from_residual-in_err-listed.result c.from_residual-in_err-listed.ensures.1 in
    looks_stopped _ _ _ _ _ c.in_err-listed.field-0.0 _ _ p.1 p.2 refl (c.in_err-listed.ensures.went tells)

pub returns-in_err-texts-clause-looks : goal.returns-in_err-texts-clause-looks
returns-in_err-texts-clause-looks g c = λ tells next.
    let p = err_from_is_err_and c.from_residual-in_err-texts.result c.from_residual-in_err-texts.ensures.1 in
    records_fail _ _ next _ _ _ c.record_count.result c.in_err-texts.field-0.0 _ (p.1 ∙ ap Err p.2)
    (looks_queue _ _ next _ _ _ c.in_ok-listed.listed c.record_count.result c.in_ok-dir.ensures.dir c.record_count.ensures.count (c.in_ok-listed.ensures.went tells) (c.in_ok-listed.ensures.lists tells))
    (all_under_rule _ _ _ c.record_count.result _ _ (Err c.in_err-texts.field-0.0) c.names.ensures.rule (c.in_err-texts.ensures.looks tells))

pub returns-clause-looks : goal.returns-clause-looks
returns-clause-looks g c = λ tells next.
    records_parsed _ _ next _ _ _ c.record_count.result c.in_ok-texts.texts _
    (looks_queue _ _ next _ _ _ c.in_ok-listed.listed c.record_count.result c.in_ok-dir.ensures.dir c.record_count.ensures.count (c.in_ok-listed.ensures.went tells) (c.in_ok-listed.ensures.lists tells))
    (all_under_rule _ _ _ c.record_count.result _ _ (Ok c.in_ok-texts.texts) c.names.ensures.rule (c.in_ok-texts.ensures.looks tells)) c.parse_texts.ensures.given

pub returns-clause-known : goal.returns-clause-known
returns-clause-known g c = λ tells maker kinds sound.
    records_known _ _ _ _ _ _ c.in_ok-dir.dir c.in_ok-listed.listed c.in_ok-texts.texts c.parse_texts.result maker kinds sound (c.in_ok-listed.ensures.went tells)
    c.in_ok-dir.ensures.dir (subst (λ text. is_path text ≡ true) c.dir.view_is c.dir.invariant) c.in_ok-dir.ensures.short
    c.names.ensures.rule (c.in_ok-texts.ensures.known tells) (c.in_ok-texts.ensures.count ∙ c.record_count.ensures.count) c.parse_texts.ensures.given
