-- A clock in memory.
use Rattle.std.specs.Prelude.{ℕ, ◌-◌, ◌^◌, ◌<◌, min}
use Rattle.std.proofs.Common.{arith}

-- what contracts see of a clock in memory: the time, and its last answer
pub record Ticks : Type 0 where
  pub time : ℕ
  pub last : ℕ

-- seconds, at most the last that a clock counts
abbrev pub capped : ℕ → ℕ
capped seconds = min seconds (10 ^ 10 - 1)

pub capped-bound : (seconds : ℕ) → capped seconds < 10 ^ 10
capped-bound seconds = omega arith
