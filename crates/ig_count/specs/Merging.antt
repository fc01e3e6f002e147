-- Two tables that are merged item by item.
use Rattle.std.specs.Prelude.{ℕ, ◌+◌, ◌≡◌, List, ◌++◌}
use Rattle.ig_count.specs.declared.counts.LabelCount.{LabelCount}
use Rattle.ig_count.specs.Tables.{IsFrom, tally}

-- of two tables what is left beside what is merged so far, which any table from `low` on may follow
pub record IsMergedTo (old more left right merged : List LabelCount) : Type 0 where
  pub each : (label : ℕ) → tally merged label + (tally left label + tally right label) ≡ tally old label + tally more label
  pub low : ℕ
  pub left_from : IsFrom low left
  pub right_from : IsFrom low right
  pub follows : (rest : List LabelCount) → IsFrom low rest → IsFrom 0 (merged ++ rest)
