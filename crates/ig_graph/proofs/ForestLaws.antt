-- Laws on the forest of parents.
use Rattle.std.proofs.Common.{ℕ, zero, suc, ◌+◌, ◌<◌, ◌≤◌, ◌^◌, ◌≡◌, cond, eqb, min, max, List, [], ◌∷◌, ◌++◌, length, get_or, set, refl, sym, ap, ◌∙◌, subst, ◌⊎◌, inl, inr, arith, length-set, get_or-set_same, get_or-set_other}
use Rattle.std.proofs.lemmas.Bool.{cases_lt, cases_eq, eq-eqb, ne_eqb, cond-true, cond-false}
use Rattle.std.proofs.lemmas.List.{map-id, get_or_past, ext_get_or}
use Rattle.std.proofs.lemmas.List.FromFn.{map-range_with_len_more, length-range_with_len, length-map-range_with_len, get_or-map-range_with_len}
use Rattle.ig_graph.specs.Forest.{above, top, tops, AreParents}
use Rattle.ig_graph.specs.Kept.{IsSameForest}
use Rattle.ig_graph.specs.Sets.{each_alone, least_united, united}
use Rattle.ig_graph.specs.SetLaws.{alone-at, united-at, length-united}

pub parent-low : (ps : List ℕ) → AreParents ps → (i : ℕ) → get_or ps i 0 ≤ i
parent-low ps are i = by_case (cases_lt i (length ps)) where
  by_case : (i < length ps) ⊎ (length ps ≤ i) → get_or ps i 0 ≤ i
  by_case (inl l) = are.low i l
  by_case (inr l) = omega (arith, get_or_past ps i 0 l)

above-fixed : (ps : List ℕ) (k r : ℕ) → get_or ps r 0 ≡ r → above ps k r ≡ r
above-fixed ps zero r e = refl
above-fixed ps (suc k) r e = ap (above ps k) e ∙ above-fixed ps k r e

above-more : (ps : List ℕ) (k i : ℕ) → above ps (suc k) i ≡ get_or ps (above ps k i) 0
above-more ps zero i = refl
above-more ps (suc k) i = above-more ps k (get_or ps i 0)

above-le : (ps : List ℕ) → AreParents ps → (k i : ℕ) → above ps k i ≤ i
above-le ps are zero i = omega arith
above-le ps are (suc k) i = omega (arith, above-le ps are k (get_or ps i 0), parent-low ps are i)

above-settled : (ps : List ℕ) → AreParents ps → (k j : ℕ) → j ≤ k → get_or ps (above ps k j) 0 ≡ above ps k j
above-settled ps are zero j l = omega (arith, parent-low ps are j)
above-settled ps are (suc k) j l = by_case ps k j (λ h. above-settled ps are k (get_or ps j 0) h) (parent-low ps are j) l (cases_eq (get_or ps j 0) j) where
  by_case : (ps : List ℕ) (k j : ℕ) → (get_or ps j 0 ≤ k → get_or ps (above ps k (get_or ps j 0)) 0 ≡ above ps k (get_or ps j 0))
      → get_or ps j 0 ≤ j → j ≤ suc k → (get_or ps j 0 ≡ j) ⊎ (get_or ps j 0 ≡ j → ⊥) → get_or ps (above ps (suc k) j) 0 ≡ above ps (suc k) j
  by_case ps k j deeper low l (inl e) = let f = above-fixed ps (suc k) j e in ap (λ i. get_or ps i 0) f ∙ e ∙ sym f
  by_case ps k j deeper low l (inr n) = deeper (omega arith)

above-top : (ps : List ℕ) → AreParents ps → (k j : ℕ) → j ≤ k → above ps k j ≡ top ps j
above-top ps are zero j l = let e : 0 ≡ j = omega arith in ap (λ k. above ps k j) e
above-top ps are (suc k) j l = by_case ps are k j (λ h. above-top ps are k j h) l (cases_eq j (suc k)) where
  by_case : (ps : List ℕ) → AreParents ps → (k j : ℕ) → (j ≤ k → above ps k j ≡ top ps j) → j ≤ suc k → (j ≡ suc k) ⊎ (j ≡ suc k → ⊥) → above ps (suc k) j ≡ top ps j
  by_case ps are k j less l (inl e) = ap (λ n. above ps n j) (sym e)
  by_case ps are k j less l (inr n) =
      let h : j ≤ k = omega arith in
      above-more ps k j ∙ above-settled ps are k j h ∙ less h

-- ---- the highest
pub top-le : (ps : List ℕ) → AreParents ps → (i : ℕ) → top ps i ≤ i
top-le ps are i = above-le ps are i i

pub top-root : (ps : List ℕ) → AreParents ps → (i : ℕ) → get_or ps (top ps i) 0 ≡ top ps i
top-root ps are i = above-settled ps are i i (omega arith)

pub root-top : (ps : List ℕ) (r : ℕ) → get_or ps r 0 ≡ r → top ps r ≡ r
root-top ps r e = above-fixed ps r r e

pub top-parent : (ps : List ℕ) → AreParents ps → (i : ℕ) → top ps (get_or ps i 0) ≡ top ps i
top-parent ps are i =
    sym (above-top ps are i (get_or ps i 0) (parent-low ps are i)) ∙ above-more ps i i ∙ above-settled ps are i i (omega arith)

along : (new : List ℕ) (m : ℕ → ℕ) (n : ℕ) → AreParents new → ((i : ℕ) → i < n → m (get_or new i 0) ≡ m i) → (k i : ℕ) → i < n → m (above new k i) ≡ m i
along new m n are keeps zero i l = refl
along new m n are keeps (suc k) i l = along new m n are keeps k (get_or new i 0) (omega (arith, parent-low new are i)) ∙ keeps i l

-- what each parent keeps, and what is right at the highest, is the highest
pub top-is : (new : List ℕ) (m : ℕ → ℕ) (n : ℕ) → AreParents new → ((i : ℕ) → i < n → m (get_or new i 0) ≡ m i) → ((r : ℕ) → r < n → get_or new r 0 ≡ r → m r ≡ r)
    → (i : ℕ) → i < n → top new i ≡ m i
top-is new m n are keeps right i l =
    sym (right (top new i) (omega (arith, top-le new are i)) (top-root new are i)) ∙ along new m n are keeps i i l

-- ---- writes
pub set-parents : (ps : List ℕ) (i v : ℕ) → AreParents ps → v ≤ i → i < length ps → AreParents (set ps i v)
set-parents ps i v are low below = record {
  low = λ j l. by_case j (cases_eq j i);
  bound = subst (λ n. n < 2 ^ 32) (sym (length-set ps i v)) are.bound;
} where
  by_case : (j : ℕ) → (j ≡ i) ⊎ (j ≡ i → ⊥) → get_or (set ps i v) j 0 ≤ j
  by_case j (inl e) = let s : get_or (set ps i v) j 0 ≡ v = ap (λ k. get_or (set ps i v) k 0) e ∙ get_or-set_same ps i v 0 below in omega arith
  by_case j (inr n) = let s : get_or (set ps i v) j 0 ≡ get_or ps j 0 = get_or-set_other ps i j v 0 n in omega (arith, s, parent-low ps are j)

-- a shorter way
module _ (ps : List ℕ) (at : ℕ) (are : AreParents ps) (below : at < length ps) where
  above_two : ℕ
  above_two = get_or ps (get_or ps at 0) 0

  abbrev shorter : List ℕ
  shorter = set ps at (get_or ps (get_or ps at 0) 0)

  shorter-keeps : (i : ℕ) → (i ≡ at) ⊎ (i ≡ at → ⊥) → top ps (get_or shorter i 0) ≡ top ps i
  shorter-keeps i (inl e) =
      let s : get_or shorter i 0 ≡ get_or ps (get_or ps at 0) 0 = ap (λ k. get_or shorter k 0) e ∙ get_or-set_same ps at (get_or ps (get_or ps at 0) 0) 0 below in
      ap (top ps) s ∙ top-parent ps are (get_or ps at 0) ∙ top-parent ps are at ∙ ap (top ps) (sym e)
  shorter-keeps i (inr n) = ap (top ps) (get_or-set_other ps at i (get_or ps (get_or ps at 0) 0) 0 n) ∙ top-parent ps are i

  shorter-right : (r : ℕ) → get_or shorter r 0 ≡ r → (r ≡ at) ⊎ (r ≡ at → ⊥) → top ps r ≡ r
  shorter-right r e (inl s) =
      let here : get_or ps (get_or ps at 0) 0 ≡ r = sym (ap (λ k. get_or shorter k 0) s ∙ get_or-set_same ps at (get_or ps (get_or ps at 0) 0) 0 below) ∙ e in
      let low = parent-low ps are (get_or ps at 0) in
      let low_at = parent-low ps are at in
      let fixed : get_or ps at 0 ≡ at = omega arith in
      root-top ps r (ap (λ k. get_or ps k 0) s ∙ fixed ∙ sym s)
  shorter-right r e (inr n) = root-top ps r (sym (get_or-set_other ps at r (get_or ps (get_or ps at 0) 0) 0 n) ∙ e)

  shorter-parents : AreParents shorter
  shorter-parents = set-parents ps at (get_or ps (get_or ps at 0) 0) are (omega (arith, parent-low ps are at, parent-low ps are (get_or ps at 0))) below

  pub halved : IsSameForest ps shorter
  halved = record {
    size = length-set ps at (get_or ps (get_or ps at 0) 0);
    parents = shorter-parents;
    same = top-is shorter (top ps) (length ps) shorter-parents (λ i l. shorter-keeps i (cases_eq i at)) (λ r l e. shorter-right r e (cases_eq r at));
  }

-- the greater of two highest numbers gets the lesser as its parent
module _ (ps : List ℕ) (hi lo : ℕ) (are : AreParents ps) (below : hi < length ps) (order : lo ≤ hi) (hi_root : get_or ps hi 0 ≡ hi) (lo_root : get_or ps lo 0 ≡ lo) where
  abbrev linked : List ℕ
  linked = set ps hi lo

  abbrev new_top : ℕ → ℕ
  new_top i = cond (eqb (top ps i) hi) lo (top ps i)

  at_hi : get_or linked hi 0 ≡ lo
  at_hi = get_or-set_same ps hi lo 0 below

  top_hi : new_top hi ≡ lo
  top_hi = cond-true {A = ℕ} (eqb (top ps hi) hi) lo (top ps hi) (eq-eqb (top ps hi) hi (root-top ps hi hi_root))

  top_lo : (lo ≡ hi) ⊎ (lo ≡ hi → ⊥) → new_top lo ≡ lo
  top_lo (inl e) = ap new_top e ∙ top_hi
  top_lo (inr n) =
      let t = root-top ps lo lo_root in
      cond-false {A = ℕ} (eqb (top ps lo) hi) lo (top ps lo) (ne_eqb (top ps lo) hi (λ e. n (sym t ∙ e))) ∙ t

  linked-keeps : (i : ℕ) → (i ≡ hi) ⊎ (i ≡ hi → ⊥) → new_top (get_or linked i 0) ≡ new_top i
  linked-keeps i (inl e) =
      ap (λ k. new_top (get_or linked k 0)) e ∙ ap new_top at_hi ∙ top_lo (cases_eq lo hi) ∙ sym top_hi ∙ ap new_top (sym e)
  linked-keeps i (inr n) =
      ap new_top (get_or-set_other ps hi i lo 0 n) ∙ ap (λ t. cond (eqb t hi) lo t) (top-parent ps are i)

  linked-right : (r : ℕ) → get_or linked r 0 ≡ r → (r ≡ hi) ⊎ (r ≡ hi → ⊥) → new_top r ≡ r
  linked-right r e (inl s) =
      let same : lo ≡ r = sym at_hi ∙ ap (λ k. get_or linked k 0) (sym s) ∙ e in
      ap new_top s ∙ top_hi ∙ same
  linked-right r e (inr n) =
      let t = root-top ps r (sym (get_or-set_other ps hi r lo 0 n) ∙ e) in
      cond-false {A = ℕ} (eqb (top ps r) hi) lo (top ps r) (ne_eqb (top ps r) hi (λ s. n (sym t ∙ s))) ∙ t

  pub linked-parents : AreParents linked
  linked-parents = set-parents ps hi lo are order below

  pub linked-top : (i : ℕ) → i < length ps → top linked i ≡ cond (eqb (top ps i) hi) lo (top ps i)
  linked-top = top-is linked new_top (length ps) linked-parents (λ i l. linked-keeps i (cases_eq i hi)) (λ r l e. linked-right r e (cases_eq r hi))

-- ---- the lists of sets
pub length-tops : (ps : List ℕ) → length (tops ps) ≡ length ps
length-tops ps = length-map-range_with_len (top ps) 0 (length ps)

pub tops-at : (ps : List ℕ) (i : ℕ) → i < length ps → get_or (tops ps) i 0 ≡ top ps i
tops-at ps i l = get_or-map-range_with_len (top ps) 0 (length ps) i i 0 l (omega arith)

-- two sets put together: `ps` are the parents before, and `now` those after both were found
pub record IsLinked (ps now : List ℕ) (a b hi lo : ℕ) : Type 0 where
  pub hi_is : hi ≡ max (top ps a) (top ps b)
  pub lo_is : lo ≡ min (top ps a) (top ps b)
  pub hi_root : get_or now hi 0 ≡ hi
  pub lo_root : get_or now lo 0 ≡ lo

united_tops : (ps now : List ℕ) (a b hi lo : ℕ) → IsSameForest ps now → a < length ps → b < length ps → hi < length ps → IsLinked ps now a b hi lo
    → (i : ℕ) → i < length ps → top (set now hi lo) i ≡ get_or (united (tops ps) a b) i 0
united_tops ps now a b hi lo same la lb lh is i l =
    let li : i < length now = subst (λ n. i < n) (sym same.size) l in
    let lhi : hi < length now = subst (λ n. hi < n) (sym same.size) lh in
    let lit : i < length (tops ps) = subst (λ n. i < n) (sym (length-tops ps)) l in
    linked-top now hi lo same.parents lhi (omega (arith, is.hi_is, is.lo_is)) is.hi_root is.lo_root i li
    ∙ ap (λ t. cond (eqb t hi) lo t) (same.same i l)
    ∙ ap (λ h. cond (eqb (top ps i) h) lo (top ps i)) is.hi_is
    ∙ ap (λ m. cond (eqb (top ps i) (max (top ps a) (top ps b))) m (top ps i)) is.lo_is
    ∙ ap (λ x. least_united x (top ps b) (top ps i)) (sym (tops-at ps a la))
    ∙ ap (λ y. least_united (get_or (tops ps) a 0) y (top ps i)) (sym (tops-at ps b lb))
    ∙ ap (least_united (get_or (tops ps) a 0) (get_or (tops ps) b 0)) (sym (tops-at ps i l))
    ∙ sym (united-at (tops ps) a b i lit)

pub linked-united : (ps now : List ℕ) (a b hi lo : ℕ) → IsSameForest ps now → a < length ps → b < length ps → hi < length ps → IsLinked ps now a b hi lo
    → tops (set now hi lo) ≡ united (tops ps) a b
linked-united ps now a b hi lo same la lb lh is =
    let long : length (set now hi lo) ≡ length ps = length-set now hi lo ∙ same.size in
    ext_get_or 0 (tops (set now hi lo)) (united (tops ps) a b)
    (length-tops (set now hi lo) ∙ long ∙ sym (length-tops ps) ∙ sym (length-united (tops ps) a b))
    (λ i l.
    let li : i < length (set now hi lo) = subst (λ n. i < n) (length-tops (set now hi lo)) l in
    tops-at (set now hi lo) i li ∙ united_tops ps now a b hi lo same la lb lh is i (subst (λ n. i < n) long li))

pub same-self : (ps : List ℕ) → AreParents ps → IsSameForest ps ps
same-self ps are = record { size = refl; parents = are; same = λ i l. refl }

pub same-then : (a b c : List ℕ) → IsSameForest a b → IsSameForest b c → IsSameForest a c
same-then a b c x y = record {
  size = y.size ∙ x.size;
  parents = y.parents;
  same = λ i l. y.same i (subst (λ n. i < n) (sym x.size) l) ∙ x.same i l;
}

pub root-kept : (old new : List ℕ) → IsSameForest old new → (i : ℕ) → i < length old → get_or new (top old i) 0 ≡ top old i
root-kept old new same i l = subst (λ t. get_or new t 0 ≡ t) (same.same i l) (top-root new same.parents i)

-- what two searches found
pub record AreFound (old now : List ℕ) (a b x y : ℕ) : Type 0 where
  pub same : IsSameForest old now
  pub a_below : a < length old
  pub b_below : b < length old
  pub x_is : x ≡ top old a
  pub y_is : y ≡ top old b
  pub x_below : x < length old
  pub y_below : y < length old
  pub x_root : get_or now x 0 ≡ x
  pub y_root : get_or now y 0 ≡ y

pub both-found : (old one two : List ℕ) (a b x y : ℕ) → AreParents old → IsSameForest old one → IsSameForest one two → a < length old → b < length old
    → x ≡ top old a → y ≡ top one b → AreFound old two a b x y
both-found old one two a b x y are first second la lb ex ey =
    let same = same-then old one two first second in
    let y_is : y ≡ top old b = ey ∙ first.same b lb in
    record {
      same = same;
      a_below = la;
      b_below = lb;
      x_is = ex;
      y_is = y_is;
      x_below = omega (arith, top-le old are a);
      y_below = omega (arith, top-le old are b);
      x_root = subst (λ t. get_or two t 0 ≡ t) (sym ex) (root-kept old two same a la);
      y_root = subst (λ t. get_or two t 0 ≡ t) (sym y_is) (root-kept old two same b lb);
    }

pub united-less : (old now : List ℕ) (a b x y : ℕ) → AreFound old now a b x y → x < y → tops (set now y x) ≡ united (tops old) a b
united-less old now a b x y found less =
    linked-united old now a b y x found.same found.a_below found.b_below found.y_below
    (record { hi_is = omega (arith, found.x_is, found.y_is); lo_is = omega (arith, found.x_is, found.y_is); hi_root = found.y_root; lo_root = found.x_root })

pub united-more : (old now : List ℕ) (a b x y : ℕ) → AreFound old now a b x y → y ≤ x → tops (set now x y) ≡ united (tops old) a b
united-more old now a b x y found more =
    linked-united old now a b x y found.same found.a_below found.b_below found.x_below
    (record { hi_is = omega (arith, found.x_is, found.y_is); lo_is = omega (arith, found.x_is, found.y_is); hi_root = found.x_root; lo_root = found.y_root })

-- ---- the start
pub alone-parents : (n : ℕ) → n < 2 ^ 32 → AreParents (each_alone n)
alone-parents n small = record {
  low = λ i l. omega (arith, alone-at n i (subst (λ m. i < m) (length-range_with_len 0 n) l));
  bound = omega (arith, length-range_with_len 0 n);
}

pub tops-alone : (n : ℕ) → tops (each_alone n) ≡ each_alone n
tops-alone n =
    ext_get_or 0 (tops (each_alone n)) (each_alone n) (length-tops (each_alone n)) (λ i l.
    let below : i < length (each_alone n) = subst (λ m. i < m) (length-tops (each_alone n)) l in
    let self = alone-at n i (subst (λ m. i < m) (length-range_with_len 0 n) below) in
    tops-at (each_alone n) i below ∙ root-top (each_alone n) i self ∙ sym self)

pub alone-more : (n : ℕ) → each_alone (n + 1) ≡ each_alone n ++ n ∷ []
alone-more n =
    sym (map-id (each_alone (n + 1))) ∙ map-range_with_len_more (λ (x : ℕ). x) 0 n n (omega arith) ∙ ap (λ xs. xs ++ n ∷ []) (map-id (each_alone n))
