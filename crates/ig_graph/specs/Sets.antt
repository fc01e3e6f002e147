-- Sets of the numbers below a size, as a list: the least member of each number's set.
use Rattle.std.specs.Prelude.{ℕ, ◌≡◌, ◌≤◌, ◌<◌, ◌==◌, List, length, slice_index, map, min, max, if◌then◌else◌}
use Rattle.std.specs.List.{range_with_len}
use Rattle.ig_graph.specs.Graph.{Graph, Joined, least}

-- each number by itself
abbrev pub each_alone : ℕ → List ℕ
each_alone n = range_with_len 0 n

-- the least member c of a set, once the sets with the least members a and b are put together
abbrev pub least_united : ℕ → ℕ → ℕ → ℕ
least_united a b c = if c == max a b then min a b else c

-- the sets once those of a and b are put together
abbrev pub united : List ℕ → ℕ → ℕ → List ℕ
united sets a b = map (least_united (slice_index sets a) (slice_index sets b)) sets

-- Each set is of joined numbers, and has its least member: so it is while sets of neighbours are put together.
pub record AreJoined (g : Graph) (sets : List ℕ) : Type 0 where
  pub length : length sets ≡ g.size
  pub low : (p : ℕ) → p < g.size → slice_index sets p ≤ p
  pub joined : (p : ℕ) → p < g.size → Joined g p (slice_index sets p)

-- Each number has the least that is joined with it.
pub record AreClasses (g : Graph) (classes : List ℕ) : Type 0 where
  pub length : length classes ≡ g.size
  pub least : (p : ℕ) → p < g.size → slice_index classes p ≡ least g p
