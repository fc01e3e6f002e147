-- When one graph shows which nodes of another are joined.
use Rattle.std.specs.Prelude.{ℕ, true, ◌≡◌, ◌<◌, ◌≤◌}
use Rattle.ig_graph.specs.Graph.{Graph, is_in, steps, IsSymmetric, Joined}

-- A joined pair of nodes that f takes to a and b.
pub record Crossing (g : Graph) (f : ℕ → ℕ) (a b : ℕ) : Type 0 where
  pub from : ℕ
  pub to : ℕ
  pub from_in : is_in g from ≡ true
  pub from_at : f from ≡ a
  pub to_at : f to ≡ b
  pub joined : Joined g from to

-- f takes neighbours in g to what is joined in h, only joined nodes of g to the same, and under each step of h lies a crossing.
pub record IsQuotient (g h : Graph) (f : ℕ → ℕ) : Type 0 where
  pub steps_on : (p q : ℕ) → steps g p q ≡ true → Joined h (f p) (f q)
  pub same_joined : (p q : ℕ) → is_in g p ≡ true → is_in g q ≡ true → f p ≡ f q → Joined g p q
  pub steps_under : (a b : ℕ) → steps h a b ≡ true → Crossing g f a b

-- `first` gives each number of h the least node of g that f takes to it, and there is one.
pub record AreFirsts (g h : Graph) (f first : ℕ → ℕ) : Type 0 where
  pub below : (p : ℕ) → is_in g p ≡ true → f p < h.size
  pub node : (a : ℕ) → a < h.size → is_in g (first a) ≡ true
  pub at : (a : ℕ) → a < h.size → f (first a) ≡ a
  pub least : (p : ℕ) → is_in g p ≡ true → first (f p) ≤ p

-- A quotient of a graph, with the first node under each of its numbers.
pub record Numbered (g h : Graph) (f first : ℕ → ℕ) : Type 0 where
  pub g_both : IsSymmetric g
  pub h_both : IsSymmetric h
  pub quotient : IsQuotient g h f
  pub firsts : AreFirsts g h f first

-- Greater numbers have greater first nodes, and each number below the size is a node.
pub record IsOrdered (h : Graph) (first : ℕ → ℕ) : Type 0 where
  pub nodes : (a : ℕ) → a < h.size → h.is_node a ≡ true
  pub ascends : (a b : ℕ) → a < b → b < h.size → first a < first b
