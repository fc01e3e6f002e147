-- Edges that are a tiling's links make the graph of its parts, so that the numbers of classes are the parts of the whole.
use Rattle.std.proofs.Common.{ℕ, ◌<◌, ◌≤◌, Bool, true, false, ◌≡◌, ◌↔◌, ◌&&◌, ◌||◌, List, length, get_or, refl, sym, ap, ◌∙◌, subst, ◌⊎◌, inl, inr}
use Rattle.std.proofs.lemmas.Bool.{and_left, and_right, le-ltb, cases_lt, cases_Bool}
use Rattle.ig_graph.specs.Graph.{Graph, is_in, steps, Joined, least, part_of}
use Rattle.ig_graph.specs.LeastLaws.{same_part}
use Rattle.ig_graph.specs.NumberLaws.{number_part}
use Rattle.ig_graph.specs.Numbers.{number_of}
use Rattle.ig_graph.specs.Sets.{AreClasses}
use Rattle.ig_grid.specs.GraphLaws.{AreSame, least-same}
use Rattle.ig_grid.specs.Tiling.{Tiling, IsTiling, parts_in, part_count, node, cell_of_node, part_of_node, node_of, first_node, links_on, parts_graph}
use Rattle.ig_grid.specs.TilingLaws.{numbers_of, parts_of, part-some, part-most, node-below, first-node_in, first-node_at, parts-numbered}
use Rattle.ig_global.specs.declared.edges.Edge.{Edge}
use Rattle.ig_global.specs.EdgeGraph.{edge_at, has_edge, edge_graph, AreWithin}
use Rattle.ig_global.specs.LinkEdges.{IsLinkEdge, AreLinkEdges, AreFirstNodes}
use Rattle.ig_global.specs.Numbers.{AreNumbers}
use Rattle.ig_global.proofs.UnionLaws.{edge-found, edge-is}
use Rattle.ig_global.proofs.NumberedLaws.{same-number}

same_test : (x y : Bool) → (x ≡ true → y ≡ true) → (y ≡ true → x ≡ true) → x ≡ y
same_test x y on back = by_case (cases_Bool x) (cases_Bool y) where
  by_case : (x ≡ true) ⊎ (x ≡ false) → (y ≡ true) ⊎ (y ≡ false) → x ≡ y
  by_case (inl t) e = t ∙ sym (on t)
  by_case (inr f) (inl t) = back t ∙ sym t
  by_case (inr f) (inr e) = f ∙ sym e

module _ (t : Tiling) (is : IsTiling t) (edges : List Edge) (are : AreLinkEdges t edges) where
  -- linked parts are parts of their cells
  own-number : (edge : Edge) (k a l b : ℕ) → IsLinkEdge t edge k a l b → (node t k a < part_count t) × (cell_of_node t (node t k a) ≡ k) × (part_of_node t (node t k a) ≡ a)
  own-number edge k a l b e =
      let over = is.link_over k a l b e.own_below e.other_below e.link in
      numbers_of t k a e.own_below (subst (λ x. 1 ≤ x) over.from_at (part-some (t.tile k) over.from over.from_in))
      (subst (λ x. x ≤ parts_in t k) over.from_at (part-most (t.tile k) (is.tile_both k) over.from over.from_in))

  other-number : (edge : Edge) (k a l b : ℕ) → IsLinkEdge t edge k a l b → (node t l b < part_count t) × (cell_of_node t (node t l b) ≡ l) × (part_of_node t (node t l b) ≡ b)
  other-number edge k a l b e =
      let over = is.link_over k a l b e.own_below e.other_below e.link in
      numbers_of t l b e.other_below (subst (λ x. 1 ≤ x) over.to_at (part-some (t.tile l) over.to over.to_in))
      (subst (λ x. x ≤ parts_in t l) over.to_at (part-most (t.tile l) (is.tile_both l) over.to over.to_in))

  pub edges-within : AreWithin (part_count t) edges
  edges-within i l =
      let s = are.each i l in
      let edge = edge_at edges i in
      (subst (λ x. x < part_count t) (sym s.is.own) (own-number edge s.k s.a s.l s.b s.is).0, subst (λ x. x < part_count t) (sym s.is.other) (other-number edge s.k s.a s.l s.b s.is).0)

  edge-links : (a b : ℕ) → has_edge edges a b ≡ true → links_on t a b ≡ true
  edge-links a b h =
      let w = edge-found edges a b h in
      let edge = edge_at edges w.at in
      let s = are.each w.at w.below in
      let own = own-number edge s.k s.a s.l s.b s.is in
      let other = other-number edge s.k s.a s.l s.b s.is in
      let ea : a ≡ node t s.k s.a = sym w.from ∙ s.is.own in
      let eb : b ≡ node t s.l s.b = sym w.to ∙ s.is.other in
      (λ i. links_on t (ea i) (eb i)) ∙ (λ i. t.has_link (own.1 i) (own.2 i) (other.1 i) (other.2 i)) ∙ s.is.link

  links-edge : (a b : ℕ) → a < part_count t → b < part_count t → links_on t a b ≡ true → has_edge edges a b ≡ true
  links-edge a b la lb h =
      let na = parts_of t a la in
      let nb = parts_of t b lb in
      let w = are.all (cell_of_node t a) (part_of_node t a) (cell_of_node t b) (part_of_node t b) na.0 nb.0 h in
      let ea = w.2.own ∙ na.2 in
      let eb = w.2.other ∙ nb.2 in
      sym (λ i. has_edge edges (ea i) (eb i)) ∙ edge-is edges w.0 w.1

  same-edges : (a b : ℕ) → a < part_count t → b < part_count t → has_edge edges a b ≡ links_on t a b
  same-edges a b la lb = same_test (has_edge edges a b) (links_on t a b) (edge-links a b) (links-edge a b la lb)

  out : (g : Graph) (p : ℕ) → g.size ≤ p → is_in g p ≡ false
  out g p h = and_left _ _ (le-ltb p g.size h)

  same-steps : (a b : ℕ) → (a < part_count t) ⊎ (part_count t ≤ a) → (b < part_count t) ⊎ (part_count t ≤ b)
      → steps (edge_graph (part_count t) edges) a b ≡ steps (parts_graph t) a b
  same-steps a b (inl la) (inl lb) =
      let there = same-edges a b la lb in
      let back = same-edges b a lb la in
      λ i. is_in (parts_graph t) a && (is_in (parts_graph t) b && (there i || back i))
  same-steps a b (inl la) (inr mb) =
      and_right (is_in (parts_graph t) a) _ (and_left _ _ (out (edge_graph (part_count t) edges) b mb)) ∙ sym (and_right (is_in (parts_graph t) a) _ (and_left _ _ (out (parts_graph t) b mb)))
  same-steps a b (inr ma) lb =
      and_left _ _ (out (edge_graph (part_count t) edges) a ma) ∙ sym (and_left _ _ (out (parts_graph t) a ma))

  same-graphs : AreSame (edge_graph (part_count t) edges) (parts_graph t)
  same-graphs = record {
    size = refl;
    nodes = λ p. refl;
    steps_are = λ a b. same-steps a b (cases_lt a (part_count t)) (cases_lt b (part_count t));
  }

  module _ (classes firsts numbers : List ℕ) (firsts_are : AreFirstNodes t firsts) (classes_are : AreClasses (edge_graph (part_count t) edges) classes)
      (numbers_are : AreNumbers classes firsts numbers) where
    class-least : (a : ℕ) → a < part_count t → get_or classes a 0 ≡ least (parts_graph t) a
    class-least a l = classes_are.least a l ∙ least-same (edge_graph (part_count t) edges) (parts_graph t) same-graphs a

    number-at : (a : ℕ) → a < part_count t → get_or numbers a 0 ≡ number_of (least (parts_graph t)) (first_node t) (part_count t) a
    number-at a l =
        let below : a < length classes = subst (λ n. a < n) (sym classes_are.length) l in
        numbers_are.each a below ∙ ap (λ n. number_of (λ b. get_or classes b 0) (λ b. get_or firsts b 0) n a) classes_are.length
        ∙ same-number (λ b. get_or classes b 0) (least (parts_graph t)) (λ b. get_or firsts b 0) (first_node t) (part_count t) class-least firsts_are.each a l

    pub number-part : (p : ℕ) → is_in t.whole p ≡ true → get_or numbers (node_of t p) 0 ≡ part_of t.whole p
    number-part p h =
        number-at (node_of t p) (node-below t is p h) ∙ number_part t.whole (parts_graph t) (node_of t) (first_node t) (parts-numbered t is) p h

    pub number-joined : (p q : ℕ) → is_in t.whole p ≡ true → is_in t.whole q ≡ true → (get_or numbers (node_of t p) 0 ≡ get_or numbers (node_of t q) 0) ↔ Joined t.whole p q
    number-joined p q hp hq =
        let parts = same_part t.whole is.both p q hp hq in
        (λ e. parts.0 (sym (number-part p hp) ∙ e ∙ number-part q hq), λ way. number-part p hp ∙ parts.1 way ∙ sym (number-part q hq))

    pub number-first : (a : ℕ) → a < part_count t → get_or numbers a 0 ≡ part_of t.whole (first_node t a)
    number-first a l =
        ap (λ k. get_or numbers k 0) (sym (first-node_at t is a l)) ∙ number-part (first_node t a) (first-node_in t is a l)
