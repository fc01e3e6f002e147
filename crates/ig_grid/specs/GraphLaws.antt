-- Graphs with the same nodes and steps have the same parts.
use Rattle.std.proofs.Common.{ℕ, zero, suc, ◌≡◌, ◌&&◌, ◌||◌, eqb, cond, ap, ◌∙◌}
use Rattle.ig_graph.specs.Counts.{how_many, those_below, first_below}
use Rattle.ig_graph.specs.Graph.{Graph, is_in, steps, reaches, least, is_root, part_of}

pub record AreSame (g h : Graph) : Type 0 where
  pub size : g.size ≡ h.size
  pub nodes : (p : ℕ) → is_in g p ≡ is_in h p
  pub steps_are : (p q : ℕ) → steps g p q ≡ steps h p q

module _ (g h : Graph) (same : AreSame g h) where
  reaches-same : (k p q : ℕ) → reaches g k p q ≡ reaches h k p q
  reaches-same zero p q = ap (λ b. eqb p q || b) (same.steps_are p q)
  reaches-same (suc k) p q =
      let direct = reaches-same k p q in
      let there = reaches-same k p k in
      let on = reaches-same k k q in
      λ i. direct i || (there i && on i)

  pub least-same : (p : ℕ) → least g p ≡ least h p
  least-same p = (λ i. first_below (λ q. reaches-same g.size p q i) g.size p) ∙ ap (λ n. first_below (reaches h n p) n p) same.size

  pub root-same : (p : ℕ) → is_root g p ≡ is_root h p
  root-same p =
      let node = same.nodes p in
      let low = least-same p in
      λ i. node i && eqb (low i) p

  pub part-same : (p : ℕ) → part_of g p ≡ part_of h p
  part-same p =
      let node = same.nodes p in
      let low = least-same p in
      λ i. cond (node i) (suc (how_many (λ q. root-same q i) (low i))) 0

  pub roots-same : (n : ℕ) → those_below (is_root g) n ≡ those_below (is_root h) n
  roots-same n = λ i. those_below (λ q. root-same q i) n
