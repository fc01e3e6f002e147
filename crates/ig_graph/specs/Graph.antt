-- Graphs of numbers: which nodes are joined, the least node joined with one, and the parts in order of these.
use Rattle.std.specs.Prelude.{ℕ, zero, suc, Bool, true, ◌≡◌, ◌==◌, ◌&&◌, ◌||◌, nat_lt, List, [], ◌∷◌, if◌then◌else◌}
use Rattle.ig_graph.specs.Counts.{how_many, first_below}

-- A graph: of the numbers below `size` those that pass `is_node` are its nodes, and `adj` says which of them are neighbours.
pub record Graph : Type 0 where
  pub size : ℕ
  pub is_node : ℕ → Bool
  pub adj : ℕ → ℕ → Bool

-- p is a node
abbrev pub is_in : Graph → ℕ → Bool
is_in g p = nat_lt p g.size && g.is_node p

-- a step leads from the node p to the node q
abbrev pub steps : Graph → ℕ → ℕ → Bool
steps g p q = is_in g p && (is_in g q && g.adj p q)

-- neighbours are so both ways
abbrev pub IsSymmetric : Graph → Type 0
IsSymmetric g = (p q : ℕ) → g.adj p q ≡ true → g.adj q p ≡ true

-- From p the numbers of `path` follow, each by a step, and q is the last.
abbrev pub IsPath : Graph → ℕ → List ℕ → ℕ → Type 0
IsPath g p [] q = p ≡ q
IsPath g p (r ∷ path) q = (steps g p r ≡ true) × IsPath g r path q

-- A path leads from p to q.
abbrev pub Joined : Graph → ℕ → ℕ → Type 0
Joined g p q = (path : List ℕ) × IsPath g p path q

-- p is q, or a path whose inner numbers are below k leads from p to q.
abbrev pub reaches : Graph → ℕ → ℕ → ℕ → Bool
reaches g zero p q = (p == q) || steps g p q
reaches g (suc k) p q = reaches g k p q || (reaches g k p k && reaches g k k q)

-- the least number that is joined with p
abbrev pub least : Graph → ℕ → ℕ
least g p = first_below (reaches g g.size p) g.size p

-- a node that is the least of those joined with it
abbrev pub is_root : Graph → ℕ → Bool
is_root g p = is_in g p && (least g p == p)

-- the number of p's part, in order of the least nodes of parts, counted from 1; 0 for what is no node
abbrev pub part_of : Graph → ℕ → ℕ
part_of g p = if is_in g p then suc (how_many (is_root g) (least g p)) else 0
