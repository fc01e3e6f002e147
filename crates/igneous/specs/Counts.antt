-- Counts of faults that stop at 2^64 - 1, and the log of a store that tells none.
use Rattle.std.specs.Prelude.{ℕ, ◌+◌, ◌-◌, ◌^◌, [], min}
use Rattle.std.specs.FinMap.{empty}
use Rattle.ig_defs.specs.Log.{Log}

-- one fault more
abbrev pub counted : ℕ → ℕ
counted faults = min (faults + 1) (2 ^ 64 - 1)

-- nothing is told
abbrev pub no_log : Log
no_log = record { opening = empty; steps = [] }
