-- The numbers of classes of runs, in order of their first runs.
use Rattle.std.specs.Prelude.{ℕ, suc, ◌≤◌, ◌<◌, ◌≡◌, ◌==◌, Bool, List, length, slice_index, map}
use Rattle.ig_graph.specs.Counts.{how_many, those_below}
use Rattle.ig_label.specs.declared.rows.Run.{Run}
use Rattle.ig_label.specs.Runs.{run_at}

-- the run is the first of its class
abbrev pub is_first : List ℕ → ℕ → Bool
is_first classes i = slice_index classes i == i

-- each class is that of a run no later, which is the first of it
pub record AreLeast (classes : List ℕ) : Type 0 where
  pub low : (i : ℕ) → i < length classes → slice_index classes i ≤ i
  pub again : (i : ℕ) → i < length classes → slice_index classes (slice_index classes i) ≡ slice_index classes i

-- the number of a run's class, counted from 1
abbrev pub number_in : List ℕ → ℕ → ℕ
number_in classes i = suc (how_many (is_first classes) (slice_index classes i))

-- the first voxels and the labels of the first runs among the first n
abbrev pub firsts_in : List Run → List ℕ → ℕ → List ℕ
firsts_in runs classes n = map (λ i. (run_at runs i).first) (those_below (is_first classes) n)

abbrev pub values_in : List Run → List ℕ → ℕ → List ℕ
values_in runs classes n = map (λ i. (run_at runs i).label) (those_below (is_first classes) n)
