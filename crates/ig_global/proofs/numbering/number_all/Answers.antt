use Rattle.std.proofs.Common.{ℕ, ◌-◌, ◌^◌, ◌≡◌, ◌≤◌, ◌∙◌, get_or, length, arith}
use Rattle.ig_global.proofs.TableLaws.{number-is}
use Rattle.ig_global.proofs.numbering.number_all.Goals as goal

pub returns : goal.returns
returns c =
    let all : c.loop-place.place ≡ length c.args.classes.now = omega arith in
    let fit : (a : ℕ) → get_or c.args.firsts.now a 0 ≤ 2 ^ 64 - 1 = λ a. let small = (c.type_inv.firsts a).fits in omega arith in
    record {
      size = omega (arith, c.loop-place.invariant.size, c.loop-place.numbers.ok.0);
      each = λ a l.
          c.loop-place.invariant.done a (omega arith)
          ∙ number-is c.args.classes.now c.args.firsts.now c.in_ok-least.least.items c.requires.classes fit c.in_ok-least.ensures a l;
    }
