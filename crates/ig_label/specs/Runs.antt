-- The runs of labels in rows: maximal stretches of one nonzero label, each in one row.
use Rattle.std.specs.Prelude.{ℕ, ◌+◌, ◌-◌, ◌%◌, ◌<◌, ◌≤◌, ◌≡◌, ◌≢◌, ◌⊎◌, List, length, slice_index, slice_index_or, [], ◌∷◌, ◌++◌, ◌==◌, if◌then◌else◌}
use Rattle.ig_label.specs.declared.rows.Run.{Run}

-- the run with this number
abbrev pub run_at : List Run → ℕ → Run
run_at runs i = slice_index_or runs i (record { first = 0; length = 0; label = 0 })

-- the place after the last of a run
abbrev pub end_of : Run → ℕ
end_of run = run.first + run.length

-- the place is one of the run's
pub record IsIn (run : Run) (p : ℕ) : Type 0 where
  pub from : run.first ≤ p
  pub to : p < end_of run

-- A run, where labels stand in rows of this width: one nonzero label, in one row, which neither the label before it in the row
-- nor the one after it has.
pub record IsRun (width : ℕ) (labels : List ℕ) (run : Run) : Type 0 where
  pub some : 1 ≤ run.length
  pub in_row : run.first % width + run.length ≤ width
  pub label : run.label ≢ 0
  pub same : (p : ℕ) → IsIn run p → slice_index labels p ≡ run.label
  pub begins : (run.first % width ≡ 0) ⊎ (slice_index labels (run.first - 1) ≢ run.label)
  pub ends : (run.first % width + run.length ≡ width) ⊎ (slice_index labels (end_of run) ≢ run.label)

-- Some run has the place.
abbrev pub IsInSome : List Run → ℕ → Type 0
IsInSome runs p = (i : ℕ) × (i < length runs) × IsIn (run_at runs i) p

-- All runs that end within the first `to` labels, ascending.
pub record AreRunsTo (width : ℕ) (labels : List ℕ) (to : ℕ) (runs : List Run) : Type 0 where
  pub each : (i : ℕ) → i < length runs → IsRun width labels (run_at runs i)
  pub ascend : (i j : ℕ) → i < j → j < length runs → end_of (run_at runs i) ≤ (run_at runs j).first
  pub within : (i : ℕ) → i < length runs → end_of (run_at runs i) ≤ to
  pub all : (p : ℕ) → p < to → slice_index labels p ≢ 0 → IsInSome runs p

-- All runs, ascending.
abbrev pub AreRuns : ℕ → List ℕ → List Run → Type 0
AreRuns width labels runs = AreRunsTo width labels (length labels) runs

-- with the labels from `from` to before `to` as one more run, unless their label is 0
abbrev pub with_run : List Run → ℕ → ℕ → ℕ → List Run
with_run runs from to label = if label == 0 then runs else runs ++ record { first = from; length = to - from; label = label } ∷ []
