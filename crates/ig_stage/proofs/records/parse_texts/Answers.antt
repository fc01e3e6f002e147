use Rattle.std.proofs.Common.{arith, All, sym, ◌<◌, ◌∷◌, [], length, get_or, length-append, Err, ap, subst, true, ◌≡◌, ◌∙◌}
use Rattle.std.proofs.lemmas.List.Elements.{All-push}
use Rattle.std.proofs.lemmas.Result.{err_from_is_err_and}
use Rattle.ig_record.specs.declared.stage.Stage.{Stage}
use Rattle.ig_record.specs.Sound.{is_sound}
use Rattle.ig_stage.proofs.RecordTexts.{text_fails, text_more}
use Rattle.ig_stage.proofs.records.parse_texts.Goals as goal

pub returns-in_err-parse_text-clause-given : goal.returns-in_err-parse_text-clause-given
returns-in_err-parse_text-clause-given c =
    let p = err_from_is_err_and c.from_residual.result c.from_residual.ensures.1 in
    text_fails c.args.queue.now c.args.texts.now c.loop-text.text-index c.loop-text.stages c.text-item.result
    (subst (λ xs. c.loop-text.text-index < length xs) c.as_slice-text-items.ensures c.loop-text-test.true)
    (c.text-item.is ∙ ap (λ xs. get_or xs c.loop-text.text-index c.text-item.result) c.as_slice-text-items.ensures)
    c.loop-text.invariant.1 c.loop-text.invariant.0
    c.len-number.result c.in_err-parse_text.field-0.0 _ (c.len-number.ensures ∙ c.loop-text.invariant.0) (p.1 ∙ ap Err p.2) c.in_err-parse_text.ensures.given

pub loop-text-preserved : goal.loop-text-preserved
loop-text-preserved c = (
  ap length c.in_ok-push.ensures.ok ∙ length-append c.loop-text.stages (c.in_ok-parse_text.field-0 ∷ []) ∙ omega (arith, c.loop-text.invariant.0),
  text_more c.args.queue.now c.args.texts.now c.loop-text.text-index c.loop-text.stages c.text-item.result
      (subst (λ xs. c.loop-text.text-index < length xs) c.as_slice-text-items.ensures c.loop-text-test.true)
      (c.text-item.is ∙ ap (λ xs. get_or xs c.loop-text.text-index c.text-item.result) c.as_slice-text-items.ensures)
      c.loop-text.invariant.1 c.loop-text.invariant.0
      c.len-number.result c.in_ok-parse_text.field-0 _ (c.len-number.ensures ∙ c.loop-text.invariant.0) c.in_ok-parse_text.ensures.given c.in_ok-push.ensures.ok,
  subst (All (λ (stage : Stage). is_sound stage ≡ true)) (sym c.in_ok-push.ensures.ok)
      (All-push (λ (stage : Stage). is_sound stage ≡ true) c.loop-text.stages c.in_ok-parse_text.field-0 c.loop-text.invariant.2 c.in_ok-parse_text.ensures.sound),
)
