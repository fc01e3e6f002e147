use Rattle.std.proofs.Common.{refl, sym, ◌∙◌}
use Rattle.std.proofs.lemmas.Result.{err_from_is_err_and}
use Rattle.ig_stage.proofs.KnownRecords.{record_found}
use Rattle.ig_stage.proofs.Lookings.{looks_forgotten, looks_stopped}
use Rattle.ig_stage.proofs.RecordReads.{found_record, missed_record}
use Rattle.ig_stage.proofs.records.read_record.Goals as goal

pub returns-in_err-path-clause-looks : goal.returns-in_err-path-clause-looks
returns-in_err-path-clause-looks g c = λ tells next left texts long.
    let p = err_from_is_err_and c.from_residual.result c.from_residual.ensures.1 in
    looks_forgotten _ _ _ _ _ _ p.1 p.2

pub returns-in_err-text-clause-looks : goal.returns-in_err-text-clause-looks
returns-in_err-text-clause-looks g c = λ tells next left texts long.
    let p = err_from_is_err_and c.from_residual-in_err-text.result c.from_residual-in_err-text.ensures.1 in
    looks_stopped _ _ _ _ _ c.in_err-text.field-0.0 _ _ p.1 p.2 refl (c.in_err-text.ensures.went tells)

pub returns-in-Some-clause-looks : goal.returns-in-Some-clause-looks
returns-in-Some-clause-looks g c = λ tells.
    let w = c.in_ok-text.ensures.went tells in
    found_record _ _ _ _ _ _ c.in-Some.text c.in_ok-path.ensures w.0 (sym c.in-Some.is ∙ w.1)

pub returns-in-Some-clause-known : goal.returns-in-Some-clause-known
returns-in-Some-clause-known g c = λ tells making.
    let w = c.in_ok-text.ensures.went tells in
    record_found _ _ _ _ _ _ c.in-Some.text c.requires.below c.in_ok-path.ensures making w.0 (sym c.in-Some.is ∙ w.1)

pub returns-in-None-clause-looks : goal.returns-in-None-clause-looks
returns-in-None-clause-looks g c = λ tells.
    let w = c.in_ok-text.ensures.went tells in
    missed_record _ _ _ _ _ _ c.in_ok-path.ensures w.0 (sym c.in-None.is ∙ w.1)
