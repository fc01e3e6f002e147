-- The sets of runs are in the end the classes of the graph of runs.
use Rattle.std.proofs.Common.{ℕ, ◌*◌, ◌<◌, ◌≤◌, ◌≡◌, ◌||◌, Bool, true, List, length, get_or, refl, sym, ◌⊎◌, inl, inr, arith}
use Rattle.std.proofs.lemmas.Bool.{or_cases, cases_lt, and_from, lt-ltb}
use Rattle.ig_space.specs.declared.point.Point.{Point}
use Rattle.ig_graph.specs.Graph.{is_in, steps, IsSymmetric}
use Rattle.ig_graph.specs.PathLaws.{or_first, or_second, steps-is, steps-from, steps-to, steps-adj, in-below, Joined-step}
use Rattle.ig_graph.specs.Sets.{each_alone, AreJoined, AreClasses}
use Rattle.ig_graph.specs.SetLaws.{alone-joined, joined-classes}
use Rattle.ig_label.specs.declared.rows.Run.{Run}
use Rattle.ig_label.specs.Runs.{run_at, end_of}
use Rattle.ig_label.specs.RunGraph.{touches, touches_row, is_above, run_graph}
use Rattle.ig_label.specs.Joining.{AreAscending, HasJoined, HasJoinedTo}

or_turned : (a b : Bool) → (a || b) ≡ true → (b || a) ≡ true
or_turned a b h = by_case (or_cases a b h) where
  by_case : (a ≡ true) ⊎ (b ≡ true) → (b || a) ≡ true
  by_case (inl e) = or_second b a e
  by_case (inr e) = or_first b a e

pub runs-symmetric : (size : Point) (runs : List Run) → IsSymmetric (run_graph size runs)
runs-symmetric size runs i j h = or_turned (is_above size.x (size.x * size.y) (run_at runs i) (run_at runs j)) (is_above size.x (size.x * size.y) (run_at runs j) (run_at runs i)) h

pub run-in : (size : Point) (runs : List Run) (i : ℕ) → i < length runs → is_in (run_graph size runs) i ≡ true
run-in size runs i l = and_from _ _ (lt-ltb i (length runs) l) refl

-- a run that is above another is joined with it
pub above-step : (size : Point) (runs : List Run) (i j : ℕ) → i < length runs → j < length runs → is_above size.x (size.x * size.y) (run_at runs i) (run_at runs j) ≡ true
    → steps (run_graph size runs) i j ≡ true
above-step size runs i j li lj h =
    steps-is (run_graph size runs) i j (run-in size runs i li) (run-in size runs j lj)
    (or_first (is_above size.x (size.x * size.y) (run_at runs i) (run_at runs j)) (is_above size.x (size.x * size.y) (run_at runs j) (run_at runs i)) h)

row-above : (size : Point) (a b : Run) → touches_row size.x (size.x * size.y) a b ≡ true → is_above size.x (size.x * size.y) a b ≡ true
row-above size a b h = or_first (touches_row size.x (size.x * size.y) a b) (touches (size.x * size.y) a b) h

face-above : (size : Point) (a b : Run) → touches (size.x * size.y) a b ≡ true → is_above size.x (size.x * size.y) a b ≡ true
face-above size a b h = or_second (touches_row size.x (size.x * size.y) a b) (touches (size.x * size.y) a b) h

module _ (size : Point) (runs : List Run) (end last : ℕ) (mid new : List ℕ) (are : AreAscending runs) (within : (i : ℕ) → i < length runs → end_of (run_at runs i) ≤ end)
    (after : last < length runs → end ≤ (run_at runs last).first)
    (faces : HasJoined runs (size.x * size.y) end 0 0 last (each_alone (length runs)) mid) (rows : HasJoinedTo (touches_row size.x (size.x * size.y)) (length runs) runs mid new) where
  all_before : (last < length runs) ⊎ (length runs ≤ last) → (j : ℕ) → j < length runs → j < last
  all_before (inl l) j lj = absurd (omega (arith, after l, within last l, are.some last l))
  all_before (inr l) j lj = omega arith

  above_told : (i j : ℕ) → i < length runs → j < length runs
      → (touches_row size.x (size.x * size.y) (run_at runs i) (run_at runs j) ≡ true) ⊎ (touches (size.x * size.y) (run_at runs i) (run_at runs j) ≡ true) → get_or new i 0 ≡ get_or new j 0
  above_told i j li lj (inl h) = rows.told i j li lj lj h
  above_told i j li lj (inr h) =
      rows.kept i j li lj (faces.told i j (omega arith) (omega arith) li lj (inr (all_before (cases_lt last (length runs)) j lj)) h)

  above_cases : (a b : Run) → is_above size.x (size.x * size.y) a b ≡ true → (touches_row size.x (size.x * size.y) a b ≡ true) ⊎ (touches (size.x * size.y) a b ≡ true)
  above_cases a b h = or_cases (touches_row size.x (size.x * size.y) a b) (touches (size.x * size.y) a b) h

  step_told : (i j : ℕ) → i < length runs → j < length runs
      → (is_above size.x (size.x * size.y) (run_at runs i) (run_at runs j) ≡ true) ⊎ (is_above size.x (size.x * size.y) (run_at runs j) (run_at runs i) ≡ true) → get_or new i 0 ≡ get_or new j 0
  step_told i j li lj (inl h) = above_told i j li lj (above_cases (run_at runs i) (run_at runs j) h)
  step_told i j li lj (inr h) = sym (above_told j i lj li (above_cases (run_at runs j) (run_at runs i) h))

  all_joined : AreJoined (run_graph size runs) new
  all_joined =
      rows.only (run_graph size runs) refl (runs-symmetric size runs)
      (faces.only (run_graph size runs) refl (runs-symmetric size runs) (alone-joined (run_graph size runs))
      (λ i j fi fj li lj bi bj h. Joined-step (run_graph size runs) i j (above-step size runs i j li lj (face-above size (run_at runs i) (run_at runs j) h))))
      (λ i j li lj h. Joined-step (run_graph size runs) i j (above-step size runs i j li lj (row-above size (run_at runs i) (run_at runs j) h)))

  pub run-classes : AreClasses (run_graph size runs) new
  run-classes =
      joined-classes (run_graph size runs) new all_joined
      (λ p q h.
      step_told p q (in-below (run_graph size runs) p (steps-from (run_graph size runs) p q h)) (in-below (run_graph size runs) q (steps-to (run_graph size runs) p q h))
      (or_cases (is_above size.x (size.x * size.y) (run_at runs p) (run_at runs q)) (is_above size.x (size.x * size.y) (run_at runs q) (run_at runs p)) (steps-adj (run_graph size runs) p q h)))
