-- A store in memory.
use Rattle.std.specs.Prelude.{ℕ, List}
use Rattle.ig_defs.specs.Log.{Log}
use Rattle.ig_store.specs.declared.fails.Fail.{Fail}

-- what contracts see of a store in memory: its rule, its log, how often it failed, how many calls it took, and which
-- calls are to fail
pub record Memory (R : Type 0) : Type 0 where
  pub rule : R
  pub log : Log
  pub faults : ℕ
  pub calls : ℕ
  pub fails : List Fail
