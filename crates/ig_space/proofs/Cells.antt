-- How many cells a side has.
use Rattle.std.proofs.Common.{arith, ◌≡◌, ◌≤◌, ◌<◌, ◌+◌, ◌-◌, ◌/◌, ℕ, ap, sym, ◌∙◌}
use Rattle.std.proofs.Math.Nat.{add-div_right}
use Rattle.ig_space.specs.Grid.{count_along}

-- rounded up
pub count_along-up : (lo hi step : ℕ) → 1 ≤ step → lo < hi → (hi - lo - 1) / step + 1 ≡ count_along lo hi step
count_along-up lo hi step some more =
    let same : hi - lo - 1 + step ≡ hi - lo + (step - 1) = omega arith in
    sym (add-div_right (hi - lo - 1) some) ∙ ap (λ n. n / step) same
