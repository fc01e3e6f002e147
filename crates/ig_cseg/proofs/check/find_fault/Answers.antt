use Rattle.std.proofs.Common.{arith, ◌∙◌}
use Rattle.ig_cseg.proofs.FirstFaults.{fault-of_blocks, one_word}
use Rattle.ig_cseg.proofs.check.find_fault.Goals as goal

pub returns-in-W8 : goal.returns-in-W8
returns-in-W8 c =
    fault-of_blocks c.args.block c.args.width c.args.size c.args.bytes.now 1 _ (omega arith) (λ z. c.if-words-eq0.false (c.word_count-words.ensures ∙ z))
    (omega (arith, c.if-words-origin.false, c.word-origin.ensures, c.word_count-words.ensures, c.block_count.ensures.value)) (one_word c.args.width c.in-W8.is) c.first_fault-in-W8.ensures
