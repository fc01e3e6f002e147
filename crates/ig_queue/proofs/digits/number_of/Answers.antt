use Rattle.std.proofs.Common.{arith, rules, ◌≤◌, ◌<◌, get_or, length}
use Rattle.ig_queue.proofs.Numbers.{fits_so_far, read_one, digit_at}
use Rattle.ig_queue.proofs.digits.number_of.Goals as goal

pub returns-then-not-is_ascii_digit-clause-none : goal.returns-then-not-is_ascii_digit-clause-none
returns-then-not-is_ascii_digit-clause-none c =
    λ _ v e.
    let text = c.args.text.now in
    let at = c.loop-c.c-index in
    let byte = digit_at text at (length text) v c.loop-c-test.true e in
    let low : 48 ≤ get_or text at 0 = byte.0 in
    let high : get_or text at 0 ≤ 57 = byte.1 in
    search rules

pub loop-c-preserved : goal.loop-c-preserved
loop-c-preserved c =
    let text = c.args.text.now in
    let at = c.loop-c.c-index in
    let low : 48 ≤ get_or text at 0 = search rules in
    let high : get_or text at 0 ≤ 57 = search rules in
    read_one text at c.loop-c.number c.from.result c.loop-c-test.true c.from.ensures low high c.loop-c.invariant

pub overflow_mul-number : goal.overflow_mul-number
overflow_mul-number c =
    let small = fits_so_far c.loop-c.number c.loop-c.c-index (length c.args.text.now) c.loop-c.invariant.0 c.loop-c-test.true c.requires in
    omega (arith, small)

pub overflow_add-number : goal.overflow_add-number
overflow_add-number c =
    let small = fits_so_far c.loop-c.number c.loop-c.c-index (length c.args.text.now) c.loop-c.invariant.0 c.loop-c-test.true c.requires in
    let digit : c.from.result < 10 = search rules in
    omega (arith, small, digit)
