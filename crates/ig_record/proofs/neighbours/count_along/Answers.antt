use Rattle.std.proofs.Common.{◌≡◌, ◌+◌, ◌-◌, ◌/◌, ◌≤◌, ℕ, ap, sym, ◌∙◌, arith}
use Rattle.ig_record.proofs.neighbours.count_along.Goals as goal

up : (size step : ℕ) → 1 ≤ size → 1 ≤ step → (size - 1) / step + 1 ≡ (size + (step - 1)) / step
up size step some cut = grind arith

pub returns : goal.returns
returns c = λ lo.
    let step = c.args.step in
    let back : lo + c.args.size - lo ≡ c.args.size = omega arith in
    up c.args.size step c.requires.some c.requires.step ∙ sym (ap (λ n. (n + (step - 1)) / step) back)
