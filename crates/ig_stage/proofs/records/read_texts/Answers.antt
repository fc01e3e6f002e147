use Rattle.std.proofs.Common.{arith, [], ◌∷◌, length, length-append, Err, Ok, ap, refl, ◌∙◌}
use Rattle.std.proofs.lemmas.Result.{err_from_is_err_and}
use Rattle.ig_stage.proofs.KnownRecords.{finds_more, finds_none, still_making}
use Rattle.ig_stage.proofs.RecordReads.{reads_all, reads_fail, reads_in_vain, reads_more, reads_none, under_rule}
use Rattle.ig_stage.proofs.records.read_texts.Goals as goal

pub loop-number-init : goal.loop-number-init
loop-number-init g c = (
  refl,
  omega arith,
  ap length c.new-texts.ensures,
  λ tells. reads_none _ _ _ _ _ _ (omega arith) c.new-texts.ensures,
  λ tells making. finds_none _ _ _ _ c.new-texts.ensures making,
)

pub loop-number-preserved : goal.loop-number-preserved
loop-number-preserved g c = (
  c.read_record.ensures.rule ∙ c.loop-number.invariant.0,
  omega (arith, c.loop-number.invariant.1, c.in_ok-read_record.ensures.cause.later),
  ap length c.in_ok-push.ensures.ok ∙ length-append c.loop-number.texts (c.in_ok-read_record.field-0 ∷ []) ∙ omega (arith, c.loop-number.invariant.2),
  λ tells.
      reads_more _ _ _ c.loop-number.number c.loop-number.texts c.in_ok-read_record.field-0 _ _ _ _ c.loop-number-test.true c.loop-number.invariant.2 (c.loop-number.invariant.3 tells)
      (under_rule _ _ _ c.loop-number.number _ _ (Ok c.in_ok-read_record.field-0) c.loop-number.invariant.0 (c.in_ok-read_record.ensures.looks tells))
      c.in_ok-push.ensures.ok,
  λ tells making.
      let so = c.loop-number.invariant.4 tells making in
      finds_more _ c.loop-number.number _ _ _ c.loop-number.texts c.in_ok-read_record.field-0 _ c.loop-number.invariant.2 so
      (c.in_ok-read_record.ensures.known tells (still_making _ _ _ _ _ c.loop-number.invariant.0 so.keeps making)) c.in_ok-push.ensures.ok,
)

pub returns-in_err-read_record-clause-looks : goal.returns-in_err-read_record-clause-looks
returns-in_err-read_record-clause-looks g c = λ tells.
    let p = err_from_is_err_and c.from_residual.result c.from_residual.ensures.1 in
    reads_fail _ _ _ c.loop-number.number c.loop-number.texts _ _ _ c.in_err-read_record.field-0.0 _ c.loop-number-test.true c.loop-number.invariant.2 (p.1 ∙ ap Err p.2) (c.loop-number.invariant.3 tells)
    (under_rule _ _ _ c.loop-number.number _ _ (Err c.in_err-read_record.field-0.0) c.loop-number.invariant.0 (c.in_err-read_record.ensures.looks tells))

pub returns-in_err-push-clause-looks : goal.returns-in_err-push-clause-looks
returns-in_err-push-clause-looks g c = λ tells.
    let p = err_from_is_err_and c.from_residual-in_err-push.result c.from_residual-in_err-push.ensures.1 in
    reads_in_vain _ _ _ c.loop-number.number c.loop-number.texts c.in_ok-read_record.field-0 _ _ _ _ _ c.loop-number-test.true c.loop-number.invariant.2 p.1 p.2 (c.loop-number.invariant.3 tells)
    (under_rule _ _ _ c.loop-number.number _ _ (Ok c.in_ok-read_record.field-0) c.loop-number.invariant.0 (c.in_ok-read_record.ensures.looks tells))

pub returns-clause-looks : goal.returns-clause-looks
returns-clause-looks g c = λ tells.
    reads_all _ _ _ c.loop-number.number c.loop-number.texts _ _ (omega (arith, c.loop-number-test.false, c.loop-number.auto.number-end)) (c.loop-number.invariant.3 tells)
