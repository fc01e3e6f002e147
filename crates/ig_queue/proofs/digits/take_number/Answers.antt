use Rattle.std.proofs.Common.{refl}
use Rattle.ig_queue.proofs.Numbers.{too_short, no_number, no_mark}
use Rattle.ig_queue.proofs.digits.take_number.Goals as goal

pub returns-in_err-head-clause-none : goal.returns-in_err-head-clause-none
returns-in_err-head-clause-none c = λ _ v rest e. too_short _ _ c.args.len v c.in_err-head.ensures.cases e

pub returns-in_err-number-clause-none : goal.returns-in_err-number-clause-none
returns-in_err-number-clause-none c =
    λ _ v rest e. no_number _ c.in_ok-head.head.now c.in_ok-head.tail.now _ c.args.len v c.in_ok-head.ensures.cases (c.in_err-number.ensures.none refl) e

pub returns-in_err-after_mark-clause-none : goal.returns-in_err-after_mark-clause-none
returns-in_err-after_mark-clause-none c =
    λ _ v rest e. no_mark _ c.in_ok-head.head.now c.in_ok-head.tail.now c.args.mark.now rest c.args.len v c.in_ok-head.ensures.cases (c.in_err-after_mark.ensures.none refl) e
