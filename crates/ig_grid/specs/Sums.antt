-- Sums of what numbers have, and the numbers of pairs, in order of the first, then of the second.
use Rattle.std.specs.Prelude.{ℕ, zero, suc, ◌+◌, ◌-◌, nat_lt, Bool, true, false, if◌then◌else◌}
use Rattle.ig_graph.specs.Counts.{first_below}

-- the sum of what the numbers below n have
abbrev pub sum_below : (ℕ → ℕ) → ℕ → ℕ
sum_below many zero = 0
sum_below many (suc n) = sum_below many n + many n

-- the first number of the pair with the number a, where `many` says how many pairs each first number has
abbrev pub pair_first : (ℕ → ℕ) → ℕ → ℕ → ℕ
pair_first many n a = first_below (λ k. nat_lt a (sum_below many (suc k))) n 0

-- and which of the pairs of its first number it is
abbrev pub pair_rank : (ℕ → ℕ) → ℕ → ℕ → ℕ
pair_rank many n a = a - sum_below many (pair_first many n a)

-- some number below n passes
abbrev pub some_below : (ℕ → Bool) → ℕ → Bool
some_below test zero = false
some_below test (suc n) = if test n then true else some_below test n
