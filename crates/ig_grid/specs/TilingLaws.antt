-- Laws on graphs that are cut into cells: the numbers of the cells' parts are a quotient, and so show the parts of the whole.
use Rattle.std.proofs.Common.{ℕ, suc, ◌+◌, ◌-◌, ◌<◌, ◌≤◌, true, ◌≡◌, ◌||◌, List, [], ◌∷◌, get_or, refl, sym, ap, ◌∙◌, subst, ◌⊎◌, inl, inr, arith}
use Rattle.std.proofs.lemmas.Bool.{and_from, or_cases, lt-ltb, cases_eq}
use Rattle.ig_graph.specs.Counts.{how_many, those_below}
use Rattle.ig_graph.specs.CountLaws.{how_many-less}
use Rattle.ig_graph.specs.Graph.{Graph, is_in, steps, IsSymmetric, IsPath, Joined, least, is_root, part_of}
use Rattle.ig_graph.specs.PathLaws.{or_first, or_second, steps-from, steps-to, steps-adj, steps-is, in-below, Joined-same, Joined-step, Joined-trans, Joined-sym, Joined-in}
use Rattle.ig_graph.specs.LeastLaws.{least-self, least-below, least-root, root-in, root-is, part-is, same_part-joined, joined-same_part}
use Rattle.ig_graph.specs.Quotients.{Crossing, IsQuotient, AreFirsts, Numbered}
use Rattle.ig_grid.specs.Sums.{pair_rank}
use Rattle.ig_grid.specs.SumLaws.{pair-number, pair-first, pair-rank, pair-is, ranked, those-at, ranked-at}
use Rattle.ig_grid.specs.Tiling.{Tiling, IsTiling, parts_in, parts_before, part_count, node, cell_of_node, part_of_node, part_at, node_of, first_in_cell, first_node, links_on, parts_graph}

-- ---- numbers of parts
pub numbers_of : (t : Tiling) (k part : ℕ) → k < t.cells → 1 ≤ part → part ≤ parts_in t k
    → (node t k part < part_count t) × (cell_of_node t (node t k part) ≡ k) × (part_of_node t (node t k part) ≡ part)
numbers_of t k part l some most =
    let r : part - 1 < parts_in t k = omega arith in
    let rank = pair-rank (parts_in t) t.cells k (part - 1) l r in
    (pair-number (parts_in t) t.cells k (part - 1) l r, pair-first (parts_in t) t.cells k (part - 1) l r, ap suc rank ∙ omega arith)

pub parts_of : (t : Tiling) (a : ℕ) → a < part_count t
    → (cell_of_node t a < t.cells) × (part_of_node t a ≤ parts_in t (cell_of_node t a)) × (node t (cell_of_node t a) (part_of_node t a) ≡ a)
parts_of t a l =
    let pair = pair-is (parts_in t) t.cells a l in
    let rank : part_of_node t a - 1 ≡ pair_rank (parts_in t) t.cells a = omega arith in
    (pair.first_below, omega (arith, pair.rank_below), ap (λ r. parts_before t (cell_of_node t a) + r) rank ∙ pair.number)

-- ---- parts of one graph
-- a node's part is one of the parts
pub part-some : (g : Graph) (p : ℕ) → is_in g p ≡ true → 1 ≤ part_of g p
part-some g p h = omega (arith, part-is g p h)

pub part-most : (g : Graph) → IsSymmetric g → (p : ℕ) → is_in g p ≡ true → part_of g p ≤ how_many (is_root g) g.size
part-most g both p h =
    omega (arith, part-is g p h, how_many-less (is_root g) (least g p) g.size (least-below g p (in-below g p h)) (least-root g both p h))

-- the first node of a node's part is the least that is joined with it
pub first-least : (g : Graph) → IsSymmetric g → (p : ℕ) → is_in g p ≡ true → get_or (those_below (is_root g) g.size) (part_of g p - 1) 0 ≡ least g p
first-least g both p h =
    let rank : part_of g p - 1 ≡ how_many (is_root g) (least g p) = omega (arith, part-is g p h) in
    ap (λ r. get_or (those_below (is_root g) g.size) r 0) rank
    ∙ those-at (is_root g) g.size (least g p) (least-below g p (in-below g p h)) (least-root g both p h)

-- the first node with a number is a node of the part with the next number
pub first-in : (g : Graph) (r : ℕ) → r < how_many (is_root g) g.size → is_in g (get_or (those_below (is_root g) g.size) r 0) ≡ true
first-in g r l =
    let w = ranked (is_root g) g.size r l in
    subst (λ p. is_in g p ≡ true) (sym (ranked-at (is_root g) g.size r w)) (root-in g w.at w.passes)

pub first-part : (g : Graph) (r : ℕ) → r < how_many (is_root g) g.size → part_of g (get_or (those_below (is_root g) g.size) r 0) ≡ suc r
first-part g r l =
    let w = ranked (is_root g) g.size r l in
    ap (part_of g) (ranked-at (is_root g) g.size r w) ∙ part-is g w.at (root-in g w.at w.passes)
    ∙ ap (λ m. suc (how_many (is_root g) m)) (root-is g w.at w.passes) ∙ ap suc w.before

-- ---- a tiling
module _ (t : Tiling) (is : IsTiling t) where
  -- a node's part is one of its cell
  pub at-some : (p : ℕ) → is_in t.whole p ≡ true → 1 ≤ part_at t p
  at-some p h = part-some (t.tile (t.cell p)) (t.place p) (is.place_is_in p h)

  pub at-most : (p : ℕ) → is_in t.whole p ≡ true → part_at t p ≤ parts_in t (t.cell p)
  at-most p h = part-most (t.tile (t.cell p)) (is.tile_both (t.cell p)) (t.place p) (is.place_is_in p h)

  -- so its number is that of its cell and part
  number : (p : ℕ) → is_in t.whole p ≡ true
      → (node_of t p < part_count t) × (cell_of_node t (node_of t p) ≡ t.cell p) × (part_of_node t (node_of t p) ≡ part_at t p)
  number p h = numbers_of t (t.cell p) (part_at t p) (is.cell_below p h) (at-some p h) (at-most p h)

  pub node-below : (p : ℕ) → is_in t.whole p ≡ true → node_of t p < part_count t
  node-below p h = (number p h).0

  above-in : (a : ℕ) → a < part_count t → is_in (parts_graph t) a ≡ true
  above-in a l = and_from _ _ (lt-ltb a (part_count t) l) refl

  pub parts-symmetric : IsSymmetric (parts_graph t)
  parts-symmetric a b h = turned (or_cases _ _ h) where
    turned : (links_on t a b ≡ true) ⊎ (links_on t b a ≡ true) → (links_on t b a || links_on t a b) ≡ true
    turned (inl l) = or_second _ _ l
    turned (inr l) = or_first _ _ l

  -- a path in a cell is one of the whole
  path-out : (k i j : ℕ) (xs : List ℕ) → k < t.cells → IsPath (t.tile k) i xs j → Joined t.whole (t.back k i) (t.back k j)
  path-out k i j [] l w = Joined-same t.whole (t.back k i) (t.back k j) (ap (t.back k) w)
  path-out k i j (x ∷ xs) l w =
      Joined-trans t.whole (t.back k i) (t.back k x) (t.back k j) (Joined-step t.whole (t.back k i) (t.back k x) (is.steps_out k i x l w.0)) (path-out k x j xs l w.1)

  pub joined-out : (k i j : ℕ) → k < t.cells → Joined (t.tile k) i j → Joined t.whole (t.back k i) (t.back k j)
  joined-out k i j l w = path-out k i j w.0 l w.1

  -- ---- a step goes to one part, or along a link
  same-number : (p q : ℕ) → is_in t.whole p ≡ true → is_in t.whole q ≡ true → t.cell p ≡ t.cell q → Joined (t.tile (t.cell p)) (t.place p) (t.place q) → node_of t p ≡ node_of t q
  same-number p q hp hq e way =
      let there : is_in (t.tile (t.cell p)) (t.place q) ≡ true = subst (λ k. is_in (t.tile k) (t.place q) ≡ true) (sym e) (is.place_is_in q hq) in
      let part = joined-same_part (t.tile (t.cell p)) (is.tile_both (t.cell p)) (t.place p) (t.place q) (is.place_is_in p hp) there way in
      ap (node t (t.cell p)) part ∙ ap (λ k. node t k (part_of (t.tile k) (t.place q))) e

  link-on : (p q : ℕ) → is_in t.whole p ≡ true → is_in t.whole q ≡ true → t.has_link (t.cell p) (part_at t p) (t.cell q) (part_at t q) ≡ true → links_on t (node_of t p) (node_of t q) ≡ true
  link-on p q hp hq l =
      let np = number p hp in
      let nq = number q hq in
      (λ i. t.has_link (np.1 i) (np.2 i) (nq.1 i) (nq.2 i)) ∙ l

  step-on : (p q : ℕ) → is_in t.whole p ≡ true → is_in t.whole q ≡ true → steps t.whole p q ≡ true → (t.cell p ≡ t.cell q) ⊎ (t.cell p ≡ t.cell q → ⊥)
      → Joined (parts_graph t) (node_of t p) (node_of t q)
  step-on p q hp hq s (inl e) =
      Joined-same (parts_graph t) (node_of t p) (node_of t q)
      (same-number p q hp hq e (Joined-step (t.tile (t.cell p)) (t.place p) (t.place q) (is.steps_in p q s e)))
  step-on p q hp hq s (inr n) = by_link (is.crosses p q s n) where
    by_link : (t.has_link (t.cell p) (part_at t p) (t.cell q) (part_at t q) ≡ true) ⊎ (t.has_link (t.cell q) (part_at t q) (t.cell p) (part_at t p) ≡ true)
        → Joined (parts_graph t) (node_of t p) (node_of t q)
    by_link (inl l) =
        Joined-step (parts_graph t) (node_of t p) (node_of t q)
        (steps-is (parts_graph t) (node_of t p) (node_of t q) (above-in (node_of t p) (node-below p hp)) (above-in (node_of t q) (node-below q hq)) (or_first _ _ (link-on p q hp hq l)))
    by_link (inr l) =
        Joined-step (parts_graph t) (node_of t p) (node_of t q)
        (steps-is (parts_graph t) (node_of t p) (node_of t q) (above-in (node_of t p) (node-below p hp)) (above-in (node_of t q) (node-below q hq)) (or_second _ _ (link-on q p hq hp l)))

  -- ---- one number, one part
  same-joined : (p q : ℕ) → is_in t.whole p ≡ true → is_in t.whole q ≡ true → node_of t p ≡ node_of t q → Joined t.whole p q
  same-joined p q hp hq e =
      let np = number p hp in
      let nq = number q hq in
      let cell : t.cell p ≡ t.cell q = sym np.1 ∙ ap (cell_of_node t) e ∙ nq.1 in
      let part : part_at t p ≡ part_at t q = sym np.2 ∙ ap (part_of_node t) e ∙ nq.2 in
      let there : is_in (t.tile (t.cell p)) (t.place q) ≡ true = subst (λ k. is_in (t.tile k) (t.place q) ≡ true) (sym cell) (is.place_is_in q hq) in
      let here : part_of (t.tile (t.cell p)) (t.place p) ≡ part_of (t.tile (t.cell p)) (t.place q) = part ∙ ap (λ k. part_of (t.tile k) (t.place q)) (sym cell) in
      let way = same_part-joined (t.tile (t.cell p)) (is.tile_both (t.cell p)) (t.place p) (t.place q) (is.place_is_in p hp) there here in
      let out = joined-out (t.cell p) (t.place p) (t.place q) (is.cell_below p hp) way in
      let to : t.back (t.cell p) (t.place q) ≡ q = ap (λ k. t.back k (t.place q)) cell ∙ is.back_is q hq in
      subst (λ r. Joined t.whole r q) (is.back_is p hp) (subst (λ r. Joined t.whole (t.back (t.cell p) (t.place p)) r) to out)

  -- ---- under a link
  back-number : (k i : ℕ) → k < t.cells → is_in (t.tile k) i ≡ true → node_of t (t.back k i) ≡ node t k (part_of (t.tile k) i)
  back-number k i l h =
      let e = is.cell_is k i l h in
      let f = is.place_is k i l h in
      λ j. node t (e j) (part_of (t.tile (e j)) (f j))

  link-under : (a b : ℕ) → a < part_count t → b < part_count t → links_on t a b ≡ true → Crossing t.whole (node_of t) a b
  link-under a b la lb h =
      let na = parts_of t a la in
      let nb = parts_of t b lb in
      let k = cell_of_node t a in
      let l = cell_of_node t b in
      let over = is.link_over k (part_of_node t a) l (part_of_node t b) na.0 nb.0 h in
      record {
        from = t.back k over.from;
        to = t.back l over.to;
        from_in = is.back_is_in k over.from na.0 over.from_in;
        from_at = back-number k over.from na.0 over.from_in ∙ ap (node t k) over.from_at ∙ na.2;
        to_at = back-number l over.to nb.0 over.to_in ∙ ap (node t l) over.to_at ∙ nb.2;
        joined = Joined-step t.whole (t.back k over.from) (t.back l over.to) over.step;
      }

  turned-crossing : (a b : ℕ) → Crossing t.whole (node_of t) a b → Crossing t.whole (node_of t) b a
  turned-crossing a b c = record {
    from = c.to;
    to = c.from;
    from_in = Joined-in t.whole c.from c.to c.joined c.from_in;
    from_at = c.to_at;
    to_at = c.from_at;
    joined = Joined-sym t.whole is.both c.from c.to c.joined;
  }

  step-under : (a b : ℕ) → a < part_count t → b < part_count t → (links_on t a b ≡ true) ⊎ (links_on t b a ≡ true) → Crossing t.whole (node_of t) a b
  step-under a b la lb (inl h) = link-under a b la lb h
  step-under a b la lb (inr h) = turned-crossing b a (link-under b a lb la h)

  -- ---- the quotient
  pub parts-quotient : IsQuotient t.whole (parts_graph t) (node_of t)
  parts-quotient = record {
    steps_on = λ p q s. step-on p q (steps-from t.whole p q s) (steps-to t.whole p q s) s (cases_eq (t.cell p) (t.cell q));
    same_joined = same-joined;
    steps_under = λ a b s.
        step-under a b (in-below (parts_graph t) a (steps-from (parts_graph t) a b s)) (in-below (parts_graph t) b (steps-to (parts_graph t) a b s))
        (or_cases (links_on t a b) (links_on t b a) (steps-adj (parts_graph t) a b s));
  }

  -- ---- first nodes
  pub first-node_in : (a : ℕ) → a < part_count t → is_in t.whole (first_node t a) ≡ true
  first-node_in a l =
      let pair = pair-is (parts_in t) t.cells a l in
      let k = cell_of_node t a in
      is.back_is_in k _ pair.first_below (first-in (t.tile k) (pair_rank (parts_in t) t.cells a) pair.rank_below)

  pub first-node_at : (a : ℕ) → a < part_count t → node_of t (first_node t a) ≡ a
  first-node_at a l =
      let pair = pair-is (parts_in t) t.cells a l in
      let k = cell_of_node t a in
      let r = pair_rank (parts_in t) t.cells a in
      back-number k (first_in_cell t k r) pair.first_below (first-in (t.tile k) r pair.rank_below)
      ∙ ap (node t k) (first-part (t.tile k) r pair.rank_below) ∙ (parts_of t a l).2

  pub first-node_least : (p : ℕ) → is_in t.whole p ≡ true → first_node t (node_of t p) ≤ p
  first-node_least p h =
      let n = number p h in
      let k = t.cell p in
      let tile = t.tile k in
      let place = t.place p in
      let place_in = is.place_is_in p h in
      let m = least tile place in
      let m_in = root-in tile m (least-root tile (is.tile_both k) place place_in) in
      let rank : pair_rank (parts_in t) t.cells (node_of t p) ≡ part_at t p - 1 = omega (arith, n.2) in
      let at : first_node t (node_of t p) ≡ t.back k m
      = (λ i. t.back (n.1 i) (first_in_cell t (n.1 i) (rank i))) ∙ ap (t.back k) (first-least tile (is.tile_both k) place place_in) in
      omega (arith, at, is.order k m place (is.cell_below p h) m_in place_in (least-self tile place (in-below tile place place_in)), is.back_is p h)

  pub parts-firsts : AreFirsts t.whole (parts_graph t) (node_of t) (first_node t)
  parts-firsts = record { below = node-below; node = first-node_in; at = first-node_at; least = first-node_least }

  pub parts-numbered : Numbered t.whole (parts_graph t) (node_of t) (first_node t)
  parts-numbered = record { g_both = is.both; h_both = parts-symmetric; quotient = parts-quotient; firsts = parts-firsts }
