-- The graph of the runs of a box: runs of one label in neighbouring rows with a common x.
use Rattle.std.specs.Prelude.{ℕ, ◌+◌, ◌*◌, ◌/◌, Bool, true, ◌==◌, ◌&&◌, ◌||◌, nat_lt, List, length}
use Rattle.ig_space.specs.declared.point.Point.{Point}
use Rattle.ig_graph.specs.Graph.{Graph}
use Rattle.ig_label.specs.declared.rows.Run.{Run}
use Rattle.ig_label.specs.Runs.{run_at, end_of}

-- two runs of one label have a common place, once the first is moved up by `shift` places
abbrev pub touches : ℕ → Run → Run → Bool
touches shift a b = (a.label == b.label) && (nat_lt (a.first + shift) (end_of b) && nat_lt b.first (end_of a + shift))

-- b is one row above a along y in one plane of `plane` places, of its label, and has a common x with it
abbrev pub touches_row : ℕ → ℕ → Run → Run → Bool
touches_row width plane a b = touches width a b && (a.first / plane == b.first / plane)

-- the same along y or along z
abbrev pub is_above : ℕ → ℕ → Run → Run → Bool
is_above width plane a b = touches_row width plane a b || touches plane a b

abbrev pub run_graph : Point → List Run → Graph
run_graph size runs = record {
  size = length runs;
  is_node = λ i. true;
  adj = λ i j. is_above size.x (size.x * size.y) (run_at runs i) (run_at runs j) || is_above size.x (size.x * size.y) (run_at runs j) (run_at runs i);
}
