-- Laws on the numbers of classes: in a quotient they are the parts.
use Rattle.std.proofs.Common.{ℕ, zero, suc, ◌<◌, ◌≤◌, Bool, true, false, ◌≡◌, cond, eqb, min, refl, sym, ap, ◌∙◌, subst, ◌⊎◌, inl, inr, arith}
use Rattle.std.proofs.lemmas.Bool.{and_parts, and_from, eqb-true, eq-eqb, ltb-true, lt-ltb, cases_eq, cases_lt, false≢true}
use Rattle.ig_graph.specs.Counts.{how_many}
use Rattle.ig_graph.specs.InjectionLaws.{as_many}
use Rattle.ig_graph.specs.Graph.{Graph, is_in, Joined, least, is_root, part_of}
use Rattle.ig_graph.specs.PathLaws.{in-below}
use Rattle.ig_graph.specs.LeastLaws.{least-joined, least-below, least-least, least-in, joined-same_least, same_least-joined, root-is, root-in, least-root, least-least_same, part-is}
use Rattle.ig_graph.specs.Quotients.{Numbered}
use Rattle.ig_graph.specs.QuotientLaws.{joined-on, joined-under}
use Rattle.ig_graph.specs.Numbers.{lowest, first_of_class, is_class_before, number_of}

-- ---- the lowest value
-- m is the lowest of `other` and the values at the numbers below n that pass
record IsLowest (test : ℕ → Bool) (value : ℕ → ℕ) (n other m : ℕ) : Type 0 where
  low : m ≤ other
  least : (i : ℕ) → i < n → test i ≡ true → m ≤ value i
  is : (m ≡ other) ⊎ ((i : ℕ) × (i < n) × (test i ≡ true) × (m ≡ value i))

lowest_is : (test : ℕ → Bool) (value : ℕ → ℕ) (n other m : ℕ) → (m ≡ other) ⊎ ((i : ℕ) × (i < n) × (test i ≡ true) × (m ≡ value i))
    → (m ≡ other) ⊎ ((i : ℕ) × (i < suc n) × (test i ≡ true) × (m ≡ value i))
lowest_is test value n other m (inl e) = inl e
lowest_is test value n other m (inr w) = inr (w.0, omega (arith, w.1), w.2, w.3)

lowest_pick : (test : ℕ → Bool) (value : ℕ → ℕ) (n other m : ℕ) → test n ≡ true → IsLowest test value n other m → (value n < m) ⊎ (m ≤ value n)
    → (min (value n) m ≡ other) ⊎ ((i : ℕ) × (i < suc n) × (test i ≡ true) × (min (value n) m ≡ value i))
lowest_pick test value n other m e h (inl l) = inr (n, omega arith, e, omega arith)
lowest_pick test value n other m e h (inr l) =
    let same : m ≡ min (value n) m = omega arith in
    subst (λ k. (k ≡ other) ⊎ ((i : ℕ) × (i < suc n) × (test i ≡ true) × (k ≡ value i))) same (lowest_is test value n other m h.is)

lowest_more : (test : ℕ → Bool) (value : ℕ → ℕ) (n other m : ℕ) (b : Bool) → test n ≡ b → IsLowest test value n other m → IsLowest test value (suc n) other (cond b (min (value n) m) m)
lowest_more test value n other m true e h = record {
  low = omega (arith, h.low);
  least = λ i l t. by_case i l t (cases_eq i n);
  is = lowest_pick test value n other m e h (cases_lt (value n) m);
} where
  by_case : (i : ℕ) → i < suc n → test i ≡ true → (i ≡ n) ⊎ (i ≡ n → ⊥) → min (value n) m ≤ value i
  by_case i l t (inl s) = omega (arith, ap value s)
  by_case i l t (inr o) = omega (arith, h.least i (omega arith) t)
lowest_more test value n other m false e h = record {
  low = h.low;
  least = λ i l t. by_case i l t (cases_eq i n);
  is = lowest_is test value n other m h.is;
} where
  by_case : (i : ℕ) → i < suc n → test i ≡ true → (i ≡ n) ⊎ (i ≡ n → ⊥) → m ≤ value i
  by_case i l t (inl s) = absurd (false≢true (sym e ∙ ap test (sym s) ∙ t))
  by_case i l t (inr o) = h.least i (omega arith) t

lowest-is : (test : ℕ → Bool) (value : ℕ → ℕ) (n other : ℕ) → IsLowest test value n other (lowest test value n other)
lowest-is test value zero other = record { low = omega arith; least = λ i l t. absurd (omega arith); is = inl refl }
lowest-is test value (suc n) other = lowest_more test value n other (lowest test value n other) (test n) refl (lowest-is test value n other)

-- ---- in a quotient
module _ (g h : Graph) (f first : ℕ → ℕ) (numbered : Numbered g h f first) where
  -- a number of the same class has a first node that is joined with p
  over-joined : (p b : ℕ) → is_in g p ≡ true → b < h.size → Joined h (f p) b → Joined g p (first b)
  over-joined p b hp below way =
      joined-under g h f numbered.quotient p (first b) hp (numbered.firsts.node b below) (subst (Joined h (f p)) (sym (numbered.firsts.at b below)) way)

  over-least : (p b : ℕ) → is_in g p ≡ true → b < h.size → least h b ≡ least h (f p) → least g p ≤ first b
  over-least p b hp below e =
      let way = same_least-joined h numbered.h_both (f p) b (numbered.firsts.below p hp) below (sym e) in
      least-least g p (first b) (in-below g p hp) (in-below g (first b) (numbered.firsts.node b below)) (over-joined p b hp below way)

  pub class_first : (p : ℕ) → is_in g p ≡ true → first_of_class (least h) first h.size (f p) ≡ least g p
  class_first p hp =
      let a = f p in
      let a_below = numbered.firsts.below p hp in
      let m = least g p in
      let m_in = least-in g p hp in
      let lowest = lowest-is (λ b. eqb (least h b) (least h a)) first h.size (first a) in
      let on = joined-on g h f numbered.quotient p m (least-joined g p (in-below g p hp)) in
      let same : least h (f m) ≡ least h a = sym (joined-same_least h numbered.h_both a (f m) a_below (numbered.firsts.below m m_in) on) in
      let high = lowest.least (f m) (numbered.firsts.below m m_in) (eq-eqb (least h (f m)) (least h a) same) in
      omega (arith, high, numbered.firsts.least m m_in, by_case p hp lowest.is) where
        by_case : (p : ℕ) → is_in g p ≡ true
            → (first_of_class (least h) first h.size (f p) ≡ first (f p))
            ⊎ ((i : ℕ) × (i < h.size) × (eqb (least h i) (least h (f p)) ≡ true) × (first_of_class (least h) first h.size (f p) ≡ first i))
            → least g p ≤ first_of_class (least h) first h.size (f p)
        by_case p hp (inl e) = omega (arith, e, over-least p (f p) hp (numbered.firsts.below p hp) refl)
        by_case p hp (inr w) = omega (arith, w.3, over-least p w.0 hp w.1 (eqb-true (least h w.0) (least h (f p)) w.2))

  class_at : (b : ℕ) → b < h.size → first_of_class (least h) first h.size b ≡ least g (first b)
  class_at b below =
      subst (λ a. first_of_class (least h) first h.size a ≡ least g (first b)) (numbered.firsts.at b below) (class_first (first b) (numbered.firsts.node b below))

  -- the root of p's class of numbers has p's least as its first
  class_root : (r : ℕ) → is_root g r ≡ true → first_of_class (least h) first h.size (least h (f r)) ≡ r
  class_root r root =
      let hr = root-in g r root in
      let a_below = numbered.firsts.below r hr in
      let b_below = least-below h (f r) a_below in
      let way = over-joined r (least h (f r)) hr b_below (least-joined h (f r) a_below) in
      class_at (least h (f r)) b_below
      ∙ sym (joined-same_least g numbered.g_both r (first (least h (f r))) (in-below g r hr) (in-below g _ (numbered.firsts.node (least h (f r)) b_below)) way)
      ∙ root-is g r root

  same_root : (i j : ℕ) → is_root g i ≡ true → is_root g j ≡ true → least h (f i) ≡ least h (f j) → i ≡ j
  same_root i j ri rj e = sym (class_root i ri) ∙ ap (first_of_class (least h) first h.size) e ∙ class_root j rj

  same_class : (a b : ℕ) → a < h.size → b < h.size → least h a ≡ a → least h b ≡ b → least g (first a) ≡ least g (first b) → a ≡ b
  same_class a b la lb ra rb e =
      let na = numbered.firsts.node a la in
      let nb = numbered.firsts.node b lb in
      let way = same_least-joined g numbered.g_both (first a) (first b) (in-below g _ na) (in-below g _ nb) e in
      let on = joined-on g h f numbered.quotient (first a) (first b) way in
      let on_a = subst (λ x. Joined h x (f (first b))) (numbered.firsts.at a la) on in
      let on_b = subst (λ x. Joined h a x) (numbered.firsts.at b lb) on_a in
      sym ra ∙ joined-same_least h numbered.h_both a b la lb on_b ∙ rb

  classes_before : (m : ℕ) → m ≤ g.size → how_many (is_class_before (least h) first h.size m) h.size ≡ how_many (is_root g) m
  classes_before m low =
      as_many (is_class_before (least h) first h.size m) h.size (is_root g) m (λ b. least g (first b)) (λ r. least h (f r))
      (record {
        below = λ b l t. omega (arith, class_at b l, ltb-true (first_of_class (least h) first h.size b) m (and_parts _ _ t).1);
        passes = λ b l t. least-root g numbered.g_both (first b) (numbered.firsts.node b l);
        apart = λ a b la lb ta tb e. same_class a b la lb (eqb-true (least h a) a (and_parts _ _ ta).0) (eqb-true (least h b) b (and_parts _ _ tb).0) e;
      })
      (record {
        below = λ r l t. least-below h (f r) (numbered.firsts.below r (root-in g r t));
        passes = λ r l t. and_from _ _
            (eq-eqb (least h (least h (f r))) (least h (f r)) (least-least_same h numbered.h_both (f r) (numbered.firsts.below r (root-in g r t))))
            (lt-ltb (first_of_class (least h) first h.size (least h (f r))) m (omega (arith, class_root r t)));
        apart = λ i j li lj ti tj e. same_root i j ti tj e;
      })

  pub number_part : (p : ℕ) → is_in g p ≡ true → number_of (least h) first h.size (f p) ≡ part_of g p
  number_part p hp =
      let m_below = least-below g p (in-below g p hp) in
      ap (λ m. suc (how_many (is_class_before (least h) first h.size m) h.size)) (class_first p hp)
      ∙ ap suc (classes_before (least g p) (omega arith)) ∙ sym (part-is g p hp)
