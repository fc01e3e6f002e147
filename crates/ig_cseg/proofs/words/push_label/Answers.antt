use Rattle.std.proofs.Common.{arith, ◌≡◌, refl}
use Rattle.std.proofs.lemmas.Result.{on_ok_weaker}
use Rattle.ig_cseg.proofs.Texts.{label-two}
use Rattle.ig_cseg.proofs.words.push_label.Goals as goal

pub returns : goal.returns
returns g c =
    let two : g.row.N ≡ 2 = omega arith in
    on_ok_weaker c.push_word-2.result
    (label-two g.row.N c.args.label _ _ c.args.text.now.items c.push_word.new.text.items c.push_word-2.new.text.items two (omega arith) refl refl c.in_ok-push_word.ensures)
    c.push_word-2.ensures
