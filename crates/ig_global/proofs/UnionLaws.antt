-- Sets that are put together for each edge are the classes of the edges' graph.
use Rattle.std.proofs.Common.{ℕ, zero, suc, ◌<◌, true, ◌≡◌, ◌&&◌, ◌||◌, eqb, List, [], ◌∷◌, length, get_or, refl, sym, ap, ◌∙◌, ◌⊎◌, inl, inr, arith}
use Rattle.std.proofs.lemmas.Bool.{and_parts, and_from, or_cases, or_left, or_right, eqb-true, eq-eqb, lt-ltb, false≢true}
use Rattle.std.proofs.lemmas.List.Folds.{list_any_at}
use Rattle.ig_graph.specs.Graph.{Graph, steps, IsSymmetric, Joined}
use Rattle.ig_graph.specs.PathLaws.{steps-adj, steps-is, Joined-step}
use Rattle.ig_graph.specs.LeastLaws.{least-below}
use Rattle.ig_graph.specs.Sets.{each_alone, united, AreJoined, AreClasses}
use Rattle.ig_graph.specs.SetLaws.{alone-joined, length-united, united-joined, united-kept, united-same, joined-classes}
use Rattle.ig_global.specs.declared.edges.Edge.{Edge}
use Rattle.ig_global.specs.EdgeGraph.{edge_at, has_edge, edge_graph, AreWithin}
use Rattle.ig_global.specs.Unions.{all_united}
use Rattle.ig_global.specs.Numbers.{AreBelow}

-- ---- edges by their numbers
-- the number of an edge from a to b
pub record IsFrom (edges : List Edge) (a b : ℕ) : Type 0 where
  pub at : ℕ
  pub below : at < length edges
  pub from : (edge_at edges at).a ≡ a
  pub to : (edge_at edges at).b ≡ b

pub edge-found : (edges : List Edge) (a b : ℕ) → has_edge edges a b ≡ true → IsFrom edges a b
edge-found [] a b h = absurd (false≢true h)
edge-found (e ∷ edges) a b h = by_case e edges a b (edge-found edges a b) (or_cases (eqb e.a a && eqb e.b b) (has_edge edges a b) h) where
  by_case : (e : Edge) (edges : List Edge) (a b : ℕ) → (has_edge edges a b ≡ true → IsFrom edges a b)
      → ((eqb e.a a && eqb e.b b) ≡ true) ⊎ (has_edge edges a b ≡ true) → IsFrom (e ∷ edges) a b
  by_case e edges a b more (inl h) =
      let s = and_parts (eqb e.a a) (eqb e.b b) h in
      record { at = 0; below = omega arith; from = eqb-true e.a a s.0; to = eqb-true e.b b s.1 }
  by_case e edges a b more (inr h) =
      let w = more h in
      record { at = suc w.at; below = omega (arith, w.below); from = w.from; to = w.to }

pub edge-is : (edges : List Edge) (i : ℕ) → i < length edges → has_edge edges (edge_at edges i).a (edge_at edges i).b ≡ true
edge-is edges i l =
    let e = edge_at edges i in
    list_any_at (λ (x : Edge). eqb x.a e.a && eqb x.b e.b) edges i (record { a = 0; b = 0 }) l (and_from (eqb e.a e.a) (eqb e.b e.b) (eq-eqb e.a e.a refl) (eq-eqb e.b e.b refl))

pub edges-symmetric : (nodes : ℕ) (edges : List Edge) → IsSymmetric (edge_graph nodes edges)
edges-symmetric nodes edges a b h = turned (or_cases _ _ h) where
  turned : (has_edge edges a b ≡ true) ⊎ (has_edge edges b a ≡ true) → (has_edge edges b a || has_edge edges a b) ≡ true
  turned (inl l) = or_right _ _ l
  turned (inr l) = or_left _ _ l

pub edge-step : (nodes : ℕ) (edges : List Edge) → AreWithin nodes edges → (i : ℕ) → i < length edges
    → steps (edge_graph nodes edges) (edge_at edges i).a (edge_at edges i).b ≡ true
edge-step nodes edges within i l =
    let ends = within i l in
    steps-is (edge_graph nodes edges) (edge_at edges i).a (edge_at edges i).b (and_from _ _ (lt-ltb (edge_at edges i).a nodes ends.0) refl)
    (and_from _ _ (lt-ltb (edge_at edges i).b nodes ends.1) refl) (or_left _ _ (edge-is edges i l))

-- ---- unions
pub length-all_united : (edges : List Edge) (sets : List ℕ) → length (all_united sets edges) ≡ length sets
length-all_united [] sets = refl
length-all_united (e ∷ edges) sets = length-all_united edges (united sets e.a e.b) ∙ length-united sets e.a e.b

all-kept : (edges : List Edge) (sets : List ℕ) (p q : ℕ) → p < length sets → q < length sets → get_or sets p 0 ≡ get_or sets q 0
    → get_or (all_united sets edges) p 0 ≡ get_or (all_united sets edges) q 0
all-kept [] sets p q lp lq h = h
all-kept (e ∷ edges) sets p q lp lq h =
    let long = length-united sets e.a e.b in
    all-kept edges (united sets e.a e.b) p q (omega (arith, long)) (omega (arith, long)) (united-kept sets e.a e.b p q lp lq h)

all-told : (edges : List Edge) (sets : List ℕ) → AreWithin (length sets) edges → (i : ℕ) → i < length edges
    → get_or (all_united sets edges) (edge_at edges i).a 0 ≡ get_or (all_united sets edges) (edge_at edges i).b 0
all-told [] sets within i l = absurd (omega arith)
all-told (e ∷ edges) sets within zero l =
    let ends = within 0 l in
    let long = length-united sets e.a e.b in
    all-kept edges (united sets e.a e.b) e.a e.b (omega (arith, long, ends.0)) (omega (arith, long, ends.1)) (united-same sets e.a e.b ends.0 ends.1)
all-told (e ∷ edges) sets within (suc i) l =
    let long = length-united sets e.a e.b in
    all-told edges (united sets e.a e.b) (λ k lk. let ends = within (suc k) (omega arith) in (omega (arith, long, ends.0), omega (arith, long, ends.1))) i (omega arith)

-- the edges join nodes of the graph
abbrev AreEdgesOf : Graph → List Edge → Type 0
AreEdgesOf g edges = (i : ℕ) → i < length edges → ((edge_at edges i).a < g.size) × ((edge_at edges i).b < g.size) × Joined g (edge_at edges i).a (edge_at edges i).b

all-joined : (g : Graph) → IsSymmetric g → (edges : List Edge) (sets : List ℕ) → AreEdgesOf g edges → AreJoined g sets → AreJoined g (all_united sets edges)
all-joined g both [] sets of are = are
all-joined g both (e ∷ edges) sets of are =
    let one = of 0 (omega arith) in
    all-joined g both edges (united sets e.a e.b) (λ i l. of (suc i) (omega arith)) (united-joined g sets e.a e.b are both one.0 one.1 one.2)

module _ (nodes : ℕ) (edges : List Edge) (within : AreWithin nodes edges) where
  joined : AreJoined (edge_graph nodes edges) (all_united (each_alone nodes) edges)
  joined =
      all-joined (edge_graph nodes edges) (edges-symmetric nodes edges) edges (each_alone nodes)
      (λ i l. ((within i l).0, (within i l).1, Joined-step (edge_graph nodes edges) (edge_at edges i).a (edge_at edges i).b (edge-step nodes edges within i l)))
      (alone-joined (edge_graph nodes edges))

  told : (i : ℕ) → i < length edges → get_or (all_united (each_alone nodes) edges) (edge_at edges i).a 0 ≡ get_or (all_united (each_alone nodes) edges) (edge_at edges i).b 0
  told i l =
      let long = (alone-joined (edge_graph nodes edges)).length in
      all-told edges (each_alone nodes) (λ k lk. (omega (arith, long, (within k lk).0), omega (arith, long, (within k lk).1))) i l

  edge-told : (p q : ℕ) → IsFrom edges p q → get_or (all_united (each_alone nodes) edges) p 0 ≡ get_or (all_united (each_alone nodes) edges) q 0
  edge-told p q w =
      let c = all_united (each_alone nodes) edges in
      ap (λ k. get_or c k 0) (sym w.from) ∙ told w.at w.below ∙ ap (λ k. get_or c k 0) w.to

  step-told : (p q : ℕ) → (has_edge edges p q ≡ true) ⊎ (has_edge edges q p ≡ true) → get_or (all_united (each_alone nodes) edges) p 0 ≡ get_or (all_united (each_alone nodes) edges) q 0
  step-told p q (inl h) = edge-told p q (edge-found edges p q h)
  step-told p q (inr h) = sym (edge-told q p (edge-found edges q p h))

  pub walked-classes : AreClasses (edge_graph nodes edges) (all_united (each_alone nodes) edges)
  walked-classes =
      joined-classes (edge_graph nodes edges) (all_united (each_alone nodes) edges) joined
      (λ p q s. step-told p q (or_cases (has_edge edges p q) (has_edge edges q p) (steps-adj (edge_graph nodes edges) p q s)))

pub classes-below : (g : Graph) (classes : List ℕ) → AreClasses g classes → AreBelow classes
classes-below g classes are a l =
    let below : a < g.size = omega (arith, are.length) in
    omega (arith, are.least a below, least-below g a below, are.length)
