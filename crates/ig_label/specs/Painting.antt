-- The places of runs, once each has the number of its run.
use Rattle.std.specs.Prelude.{ℕ, ◌<◌, ◌≡◌, List, length, slice_index}
use Rattle.ig_label.specs.declared.rows.Run.{Run}
use Rattle.ig_label.specs.Runs.{run_at, IsIn}

-- The places of the first n runs have their parts, and the others what they had.
pub record ArePainted (runs : List Run) (parts : List ℕ) (n : ℕ) (old new : List ℕ) : Type 0 where
  pub size : length new ≡ length old
  pub inside : (i p : ℕ) → i < n → i < length runs → IsIn (run_at runs i) p → slice_index new p ≡ slice_index parts i
  pub outside : (p : ℕ) → ((i : ℕ) → i < n → i < length runs → IsIn (run_at runs i) p → ⊥) → slice_index new p ≡ slice_index old p
