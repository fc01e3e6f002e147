-- Laws on quotients: they keep 'joined' both ways, and with it the parts.
use Rattle.std.proofs.Common.{ℕ, zero, suc, ◌<◌, ◌≤◌, true, false, ◌≡◌, ◌↔◌, List, [], ◌∷◌, ◌++◌, length, map, refl, sym, ap, ◌∙◌, subst, ◌⊎◌, inl, inr, arith}
use Rattle.std.proofs.lemmas.Bool.{and_from, lt-ltb, cases_Bool, cases_eq, cases_order, false≢true}
use Rattle.std.proofs.lemmas.List.{map_push, length-map}
use Rattle.ig_graph.specs.Counts.{how_many, those_below}
use Rattle.ig_graph.specs.CountLaws.{length-those_below, those_below-upto, those_below-pass, those_below-fail}
use Rattle.ig_graph.specs.Graph.{Graph, is_in, IsPath, Joined, least, is_root, part_of}
use Rattle.ig_graph.specs.PathLaws.{Joined-same, Joined-trans, Joined-in, in-below}
use Rattle.ig_graph.specs.LeastLaws.{least-joined, least-below, least-least, least-in, root-is, root-in, is-root, part-is}
use Rattle.ig_graph.specs.Quotients.{IsQuotient, Numbered, IsOrdered}

-- ---- joined
path-on : (g h : Graph) (f : ℕ → ℕ) → IsQuotient g h f → (p q : ℕ) (xs : List ℕ) → IsPath g p xs q → Joined h (f p) (f q)
path-on g h f quotient p q [] a = Joined-same h (f p) (f q) (ap f a)
path-on g h f quotient p q (x ∷ xs) a = Joined-trans h (f p) (f x) (f q) (quotient.steps_on p x a.0) (path-on g h f quotient x q xs a.1)

path-under : (g h : Graph) (f : ℕ → ℕ) → IsQuotient g h f → (a b : ℕ) (xs : List ℕ) → IsPath h a xs b
    → (p q : ℕ) → is_in g p ≡ true → is_in g q ≡ true → f p ≡ a → f q ≡ b → Joined g p q
path-under g h f quotient a b [] w p q hp hq ep eq = quotient.same_joined p q hp hq (ep ∙ w ∙ sym eq)
path-under g h f quotient a b (c ∷ xs) w p q hp hq ep eq =
    let over = quotient.steps_under a c w.0 in
    let to_in = Joined-in g over.from over.to over.joined over.from_in in
    Joined-trans g p over.from q (quotient.same_joined p over.from hp over.from_in (ep ∙ sym over.from_at))
    (Joined-trans g over.from over.to q over.joined (path-under g h f quotient c b xs w.1 over.to q to_in hq over.to_at eq))

pub joined-on : (g h : Graph) (f : ℕ → ℕ) → IsQuotient g h f → (p q : ℕ) → Joined g p q → Joined h (f p) (f q)
joined-on g h f quotient p q a = path-on g h f quotient p q a.0 a.1

pub joined-under : (g h : Graph) (f : ℕ → ℕ) → IsQuotient g h f → (p q : ℕ) → is_in g p ≡ true → is_in g q ≡ true → Joined h (f p) (f q) → Joined g p q
joined-under g h f quotient p q hp hq a = path-under g h f quotient (f p) (f q) a.0 a.1 p q hp hq refl refl

pub joined_by : (g h : Graph) (f : ℕ → ℕ) → IsQuotient g h f → (p q : ℕ) → is_in g p ≡ true → is_in g q ≡ true → Joined g p q ↔ Joined h (f p) (f q)
joined_by g h f quotient p q hp hq = (joined-on g h f quotient p q, joined-under g h f quotient p q hp hq)

-- ---- where greater numbers have greater first nodes
module _ (g h : Graph) (f first : ℕ → ℕ) (numbered : Numbered g h f first) (ordered : IsOrdered h first) where
  above_in : (a : ℕ) → a < h.size → is_in h a ≡ true
  above_in a below = and_from _ _ (lt-ltb a h.size below) (ordered.nodes a below)

  ascends-le : (a b : ℕ) → a ≤ b → b < h.size → first a ≤ first b
  ascends-le a b le below = by_case (cases_eq a b) where
    by_case : (a ≡ b) ⊎ (a ≡ b → ⊥) → first a ≤ first b
    by_case (inl e) = subst (λ x. first a ≤ first x) e (omega arith)
    by_case (inr n) = omega (arith, ordered.ascends a b (omega arith) below)

  -- the least node joined with p is the first of the least number joined with p's
  pub least-over : (p : ℕ) → is_in g p ≡ true → first (least h (f p)) ≡ least g p
  least-over p hp =
      let below = numbered.firsts.below p hp in
      let b = least h (f p) in
      let b_below = least-below h (f p) below in
      let m = least g p in
      let p_below = in-below g p hp in
      let m_in = least-in g p hp in
      let first_in = numbered.firsts.node b b_below in
      let way : Joined h (f p) (f (first b)) = subst (Joined h (f p)) (sym (numbered.firsts.at b b_below)) (least-joined h (f p) below) in
      let low = least-least g p (first b) p_below (in-below g (first b) first_in) (joined-under g h f numbered.quotient p (first b) hp first_in way) in
      let m_below = numbered.firsts.below m m_in in
      let over = least-least h (f p) (f m) below m_below (joined-on g h f numbered.quotient p m (least-joined g p p_below)) in
      let high = ascends-le b (f m) over m_below in
      omega (arith, low, high, numbered.firsts.least m m_in)

  -- a first node is a root exactly where its number is one
  root-over : (a : ℕ) → a < h.size → is_root g (first a) ≡ true → is_root h a ≡ true
  root-over a below r =
      let node = numbered.firsts.node a below in
      let same : first (least h a) ≡ first a = subst (λ x. first (least h x) ≡ least g (first a)) (numbered.firsts.at a below) (least-over (first a) node) ∙ root-is g (first a) r in
      let e : least h a ≡ a = sym (numbered.firsts.at (least h a) (least-below h a below)) ∙ ap f same ∙ numbered.firsts.at a below in
      is-root h a (above_in a below) e

  root-under : (a : ℕ) → a < h.size → is_root h a ≡ true → is_root g (first a) ≡ true
  root-under a below r =
      let node = numbered.firsts.node a below in
      let over = subst (λ x. first (least h x) ≡ least g (first a)) (numbered.firsts.at a below) (least-over (first a) node) in
      is-root g (first a) node (sym over ∙ ap first (root-is h a r))

  root-same : (a : ℕ) → a < h.size → (is_root h a ≡ true) ⊎ (is_root h a ≡ false) → is_root g (first a) ≡ is_root h a
  root-same a below (inl r) = root-under a below r ∙ sym r
  root-same a below (inr n) = by_case (cases_Bool (is_root g (first a))) where
    by_case : (is_root g (first a) ≡ true) ⊎ (is_root g (first a) ≡ false) → is_root g (first a) ≡ is_root h a
    by_case (inl r) = absurd (false≢true (sym n ∙ root-over a below r))
    by_case (inr r) = r ∙ sym n

  -- each root is the first node of its number
  root-first : (r : ℕ) → is_root g r ≡ true → first (f r) ≡ r
  root-first r h_root =
      let node = root-in g r h_root in
      let below = numbered.firsts.below r node in
      let first_in = numbered.firsts.node (f r) below in
      let way = numbered.quotient.same_joined r (first (f r)) node first_in (sym (numbered.firsts.at (f r) below)) in
      omega (arith, least-least g r (first (f r)) (in-below g r node) (in-below g (first (f r)) first_in) way, root-is g r h_root, numbered.firsts.least r node)

  -- no root lies between the first nodes of two numbers, one after the other
  none-between : (a n i : ℕ) → a < h.size → ((j : ℕ) → a < j → j < h.size → n ≤ first j) → first a < i → i < n → is_root g i ≡ false
  none-between a n i below upper from to = by_case (cases_Bool (is_root g i)) where
    by_order : is_root g i ≡ true → (f i ≡ a) ⊎ ((f i < a) ⊎ (a < f i)) → is_root g i ≡ false
    by_order r (inl e) = absurd (omega (arith, root-first i r, ap first e))
    by_order r (inr (inl l)) = absurd (omega (arith, root-first i r, ordered.ascends (f i) a l below))
    by_order r (inr (inr l)) = absurd (omega (arith, root-first i r, upper (f i) l (numbered.firsts.below i (root-in g i r))))

    by_case : (is_root g i ≡ true) ⊎ (is_root g i ≡ false) → is_root g i ≡ false
    by_case (inl r) = by_order r (cases_order (f i) a)
    by_case (inr r) = r

  none-before : (n i : ℕ) → ((j : ℕ) → j < h.size → n ≤ first j) → i < n → is_root g i ≡ false
  none-before n i upper to = by_case (cases_Bool (is_root g i)) where
    by_case : (is_root g i ≡ true) ⊎ (is_root g i ≡ false) → is_root g i ≡ false
    by_case (inl r) = absurd (omega (arith, root-first i r, upper (f i) (numbered.firsts.below i (root-in g i r))))
    by_case (inr r) = r

  -- the roots below n are the first nodes of the roots below a, where n parts the first nodes at a
  roots-upto : (a n : ℕ) → a ≤ h.size → ((j : ℕ) → j < a → first j < n) → ((j : ℕ) → a ≤ j → j < h.size → n ≤ first j)
      → those_below (is_root g) n ≡ map first (those_below (is_root h) a)
  roots-upto zero n le lower upper = those_below-upto (is_root g) 0 n (omega arith) (λ i from to. none-before n i (λ j l. upper j (omega arith) l) to)
  roots-upto (suc a) n le lower upper =
      let below : a < h.size = omega arith in
      let less = roots-upto a (first a) (omega arith) (λ j l. ordered.ascends j a l below) (λ j from l. ascends-le a j from l) in
      those_below-upto (is_root g) (suc (first a)) n (omega (arith, lower a (omega arith))) (λ i from to. none-between a n i below (λ j l s. upper j (omega arith) s) (omega arith) to)
      ∙ one_more a below less (cases_Bool (is_root h a)) where
        one_more : (a : ℕ) → a < h.size → those_below (is_root g) (first a) ≡ map first (those_below (is_root h) a) → (is_root h a ≡ true) ⊎ (is_root h a ≡ false)
            → those_below (is_root g) (suc (first a)) ≡ map first (those_below (is_root h) (suc a))
        one_more a below less (inl r) =
            those_below-pass (is_root g) (first a) (root-same a below (inl r) ∙ r) ∙ ap (λ xs. xs ++ first a ∷ []) less
            ∙ sym (map_push first (those_below (is_root h) a) a) ∙ ap (map first) (sym (those_below-pass (is_root h) a r))
        one_more a below less (inr r) =
            those_below-fail (is_root g) (first a) (root-same a below (inr r) ∙ r) ∙ less ∙ ap (map first) (sym (those_below-fail (is_root h) a r))

  pub firsts_by : map first (those_below (is_root h) h.size) ≡ those_below (is_root g) g.size
  firsts_by = sym (roots-upto h.size g.size (omega arith) (λ j l. in-below g (first j) (numbered.firsts.node j l)) (λ j from l. absurd (omega arith)))

  count-upto : (a : ℕ) → a < h.size → how_many (is_root g) (first a) ≡ how_many (is_root h) a
  count-upto a below =
      sym (length-those_below (is_root g) (first a))
      ∙ ap length (roots-upto a (first a) (omega arith) (λ j l. ordered.ascends j a l below) (λ j from l. ascends-le a j from l))
      ∙ length-map (those_below (is_root h) a) first ∙ length-those_below (is_root h) a

  pub part_by : (p : ℕ) → is_in g p ≡ true → part_of h (f p) ≡ part_of g p
  part_by p hp =
      let below = numbered.firsts.below p hp in
      part-is h (f p) (above_in (f p) below) ∙ ap suc (sym (count-upto (least h (f p)) (least-below h (f p) below)))
      ∙ ap (λ m. suc (how_many (is_root g) m)) (least-over p hp) ∙ sym (part-is g p hp)
