-- What has become of the sets of runs, once those that touch were put together.
use Rattle.std.specs.Prelude.{ℕ, ◌<◌, ◌≤◌, ◌^◌, ◌≡◌, ◌⊎◌, Bool, true, List, length, slice_index}
use Rattle.ig_graph.specs.Graph.{Graph, IsSymmetric, Joined}
use Rattle.ig_graph.specs.Sets.{AreJoined}
use Rattle.ig_label.specs.declared.rows.Run.{Run}
use Rattle.ig_label.specs.Runs.{run_at, end_of}
use Rattle.ig_label.specs.RunGraph.{touches}

-- runs of few places, none empty, ascending
pub record AreAscending (runs : List Run) : Type 0 where
  pub some : (i : ℕ) → i < length runs → 1 ≤ (run_at runs i).length
  pub ascend : (i j : ℕ) → i < j → j < length runs → end_of (run_at runs i) ≤ (run_at runs j).first
  pub within : (i : ℕ) → i < length runs → end_of (run_at runs i) ≤ 2 ^ 24
  pub few : length runs ≤ 2 ^ 24

-- Of the runs from `from` on, those that touch once the first is moved by `shift` were put together, if the first is before
-- `low` or the second before `high`; what was together stays so; and besides, no runs from `bound` on were put together.
pub record HasJoined (runs : List Run) (shift bound from low high : ℕ) (old new : List ℕ) : Type 0 where
  pub size : length new ≡ length runs
  pub told : (i j : ℕ) → from ≤ i → from ≤ j → i < length runs → j < length runs → (i < low) ⊎ (j < high)
      → touches shift (run_at runs i) (run_at runs j) ≡ true → slice_index new i ≡ slice_index new j
  pub kept : (i j : ℕ) → i < length runs → j < length runs → slice_index old i ≡ slice_index old j → slice_index new i ≡ slice_index new j
  pub only : (g : Graph) → g.size ≡ length runs → IsSymmetric g → AreJoined g old
      → ((i j : ℕ) → from ≤ i → from ≤ j → i < length runs → j < length runs → (run_at runs i).first < bound → (run_at runs j).first < bound
      → touches shift (run_at runs i) (run_at runs j) ≡ true → Joined g i j) → AreJoined g new

-- Of the runs of which the second is before `to`, those that pass were put together; what was together stays so; and no others
-- were put together.
pub record HasJoinedTo (test : Run → Run → Bool) (to : ℕ) (runs : List Run) (old new : List ℕ) : Type 0 where
  pub size : length new ≡ length runs
  pub told : (i j : ℕ) → i < length runs → j < length runs → j < to → test (run_at runs i) (run_at runs j) ≡ true → slice_index new i ≡ slice_index new j
  pub kept : (i j : ℕ) → i < length runs → j < length runs → slice_index old i ≡ slice_index old j → slice_index new i ≡ slice_index new j
  pub only : (g : Graph) → g.size ≡ length runs → IsSymmetric g → AreJoined g old
      → ((i j : ℕ) → i < length runs → j < length runs → test (run_at runs i) (run_at runs j) ≡ true → Joined g i j) → AreJoined g new
