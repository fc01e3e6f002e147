-- Laws on sets that are put together: in the end they are the classes of joined numbers.
use Rattle.std.proofs.Common.{ℕ, ◌<◌, ◌≤◌, Bool, true, false, ◌≡◌, cond, eqb, min, max, List, length, get_or, refl, sym, ap, ◌∙◌, subst, ◌⊎◌, inl, inr, arith}
use Rattle.std.proofs.lemmas.Bool.{eqb-true, eqb-false, cases_lt}
use Rattle.std.proofs.lemmas.List.{get_or-map, length-map}
use Rattle.std.proofs.lemmas.List.FromFn.{length-range_with_len, get_or-range_with_len}
use Rattle.ig_graph.specs.Graph.{Graph, steps, IsSymmetric, Joined, least}
use Rattle.ig_graph.specs.PathLaws.{Joined-same, Joined-trans, Joined-sym, path-keeps}
use Rattle.ig_graph.specs.LeastLaws.{least-joined, least-below, least-least}
use Rattle.ig_graph.specs.Sets.{each_alone, least_united, united, AreJoined, AreClasses}

pub alone-at : (n p : ℕ) → p < n → get_or (each_alone n) p 0 ≡ p
alone-at n p below = get_or-range_with_len 0 n p 0 below ∙ omega arith

pub alone-joined : (g : Graph) → AreJoined g (each_alone g.size)
alone-joined g = record {
  length = length-range_with_len 0 g.size;
  low = λ p below. omega (arith, alone-at g.size p below);
  joined = λ p below. Joined-same g p _ (sym (alone-at g.size p below));
}

-- ---- one union
united_cases : (a b c : ℕ) (e : Bool) → eqb c (max a b) ≡ e → (a < b) ⊎ (b ≤ a)
    → (cond e (min a b) c ≡ c) ⊎ (((c ≡ a) × (cond e (min a b) c ≡ b)) ⊎ ((c ≡ b) × (cond e (min a b) c ≡ a)))
united_cases a b c true h (inl l) = let s = eqb-true c (max a b) h in inr (inr (omega (arith, s), omega arith))
united_cases a b c true h (inr l) = let s = eqb-true c (max a b) h in inr (inl (omega (arith, s), omega arith))
united_cases a b c false h o = inl refl

pub least_united-cases : (a b c : ℕ) → (least_united a b c ≡ c) ⊎ (((c ≡ a) × (least_united a b c ≡ b)) ⊎ ((c ≡ b) × (least_united a b c ≡ a)))
least_united-cases a b c = united_cases a b c (eqb c (max a b)) refl (cases_lt a b)

united_low : (a b c : ℕ) (e : Bool) → eqb c (max a b) ≡ e → cond e (min a b) c ≤ c
united_low a b c true h = omega (arith, eqb-true c (max a b) h)
united_low a b c false h = omega arith

united_first : (a b c : ℕ) (e : Bool) → eqb c (max a b) ≡ e → (c ≡ a) ⊎ (c ≡ b) → cond e (min a b) c ≡ min a b
united_first a b c true h o = refl
united_first a b c false h (inl s) = let n = eqb-false c (max a b) h in by_order (cases_lt a b) n where
  by_order : (a < b) ⊎ (b ≤ a) → (c ≡ max a b → ⊥) → c ≡ min a b
  by_order (inl l) n = omega arith
  by_order (inr l) n = absurd (n (omega arith))
united_first a b c false h (inr s) = let n = eqb-false c (max a b) h in by_order (cases_lt a b) n where
  by_order : (a < b) ⊎ (b ≤ a) → (c ≡ max a b → ⊥) → c ≡ min a b
  by_order (inl l) n = absurd (n (omega arith))
  by_order (inr l) n = omega arith

pub united-at : (sets : List ℕ) (a b p : ℕ) → p < length sets → get_or (united sets a b) p 0 ≡ least_united (get_or sets a 0) (get_or sets b 0) (get_or sets p 0)
united-at sets a b p below = get_or-map (least_united (get_or sets a 0) (get_or sets b 0)) sets p 0 0 below

pub length-united : (sets : List ℕ) (a b : ℕ) → length (united sets a b) ≡ length sets
length-united sets a b = length-map sets (least_united (get_or sets a 0) (get_or sets b 0))

pub united-same : (sets : List ℕ) (a b : ℕ) → a < length sets → b < length sets → get_or (united sets a b) a 0 ≡ get_or (united sets a b) b 0
united-same sets a b a_below b_below =
    let x = get_or sets a 0 in
    let y = get_or sets b 0 in
    united-at sets a b a a_below ∙ united_first x y x (eqb x (max x y)) refl (inl refl)
    ∙ sym (united-at sets a b b b_below ∙ united_first x y y (eqb y (max x y)) refl (inr refl))

pub united-kept : (sets : List ℕ) (a b p q : ℕ) → p < length sets → q < length sets → get_or sets p 0 ≡ get_or sets q 0
    → get_or (united sets a b) p 0 ≡ get_or (united sets a b) q 0
united-kept sets a b p q p_below q_below e =
    united-at sets a b p p_below ∙ ap (least_united (get_or sets a 0) (get_or sets b 0)) e ∙ sym (united-at sets a b q q_below)

united_joined : (g : Graph) (p x y c l : ℕ) → Joined g p c → Joined g x y → Joined g y x → (l ≡ c) ⊎ (((c ≡ x) × (l ≡ y)) ⊎ ((c ≡ y) × (l ≡ x))) → Joined g p l
united_joined g p x y c l h there back (inl e) = subst (Joined g p) (sym e) h
united_joined g p x y c l h there back (inr (inl e)) = subst (Joined g p) (sym e.1) (Joined-trans g p x y (subst (Joined g p) e.0 h) there)
united_joined g p x y c l h there back (inr (inr e)) = subst (Joined g p) (sym e.1) (Joined-trans g p y x (subst (Joined g p) e.0 h) back)

pub united-joined : (g : Graph) (sets : List ℕ) (a b : ℕ) → AreJoined g sets → IsSymmetric g → a < g.size → b < g.size → Joined g a b → AreJoined g (united sets a b)
united-joined g sets a b are both a_below b_below h =
    let x = get_or sets a 0 in
    let y = get_or sets b 0 in
    let there : Joined g x y = Joined-trans g x a y (Joined-sym g both a x (are.joined a a_below)) (Joined-trans g a b y h (are.joined b b_below)) in
    let back = Joined-sym g both x y there in
    record {
      length = length-united sets a b ∙ are.length;
      low = λ p below.
          let c = get_or sets p 0 in
          let low = are.low p below in
          let at = united-at sets a b p (subst (λ n. p < n) (sym are.length) below) in
          omega (arith, at, united_low x y c (eqb c (max x y)) refl, low);
      joined = λ p below.
          subst (Joined g p) (sym (united-at sets a b p (subst (λ n. p < n) (sym are.length) below)))
          (united_joined g p x y (get_or sets p 0) _ (are.joined p below) there back (least_united-cases x y (get_or sets p 0)));
    }

-- ---- all unions
pub joined-classes : (g : Graph) (sets : List ℕ) → AreJoined g sets → ((p q : ℕ) → steps g p q ≡ true → get_or sets p 0 ≡ get_or sets q 0) → AreClasses g sets
joined-classes g sets are kept = record {
  length = are.length;
  least = λ p below.
      let m = least g p in
      let m_below = least-below g p below in
      let way = least-joined g p below in
      let same : get_or sets p 0 ≡ get_or sets m 0
      = path-keeps g (λ x. get_or sets p 0 ≡ get_or sets x 0) (λ x y s e. e ∙ kept x y s) p m way.0 way.1 refl in
      let low = are.low m m_below in
      let p_low = are.low p below in
      let least = least-least g p (get_or sets p 0) below (omega arith) (are.joined p below) in
      omega arith;
}
