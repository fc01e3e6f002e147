-- Laws on the sets of runs, as runs that touch are put together.
use Rattle.std.proofs.Common.{ℕ, zero, suc, ◌+◌, ◌*◌, ◌/◌, ◌<◌, ◌≤◌, ◌≡◌, cond, eqb, Bool, true, false, List, length, get_or, refl, sym, ap, ◌∙◌, subst, ◌⊎◌, inl, inr, arith}
use Rattle.std.proofs.lemmas.Bool.{cases_eq, cases_lt, cases_order, eqb-true, eq-eqb, ltb-true, and_parts, and_from, false≢true}
use Rattle.std.proofs.lemmas.Nat.{div_below, le-div}
use Rattle.ig_graph.specs.Sets.{united}
use Rattle.ig_graph.specs.SetLaws.{length-united, united-same, united-kept, united-joined}
use Rattle.ig_label.specs.declared.rows.Run.{Run}
use Rattle.ig_label.specs.Runs.{run_at, end_of}
use Rattle.ig_label.specs.RunGraph.{touches, touches_row}
use Rattle.ig_label.specs.Joining.{AreAscending, HasJoined, HasJoinedTo}

pub record DoTouch (shift : ℕ) (a b : Run) : Type 0 where
  pub label : a.label ≡ b.label
  pub low : a.first + shift < end_of b
  pub high : b.first < end_of a + shift

pub touch-is : (shift : ℕ) (a b : Run) → touches shift a b ≡ true → DoTouch shift a b
touch-is shift a b h =
    let p = and_parts _ _ h in
    let q = and_parts _ _ p.1 in
    record { label = eqb-true a.label b.label p.0; low = ltb-true (a.first + shift) (end_of b) q.0; high = ltb-true b.first (end_of a + shift) q.1 }

-- ---- one pair
-- the sets, and whether two runs were told of
pub record HasJoinedPair (runs : List Run) (shift bound from low high : ℕ) (old new : List ℕ) : Type 0 where
  pub joined : HasJoined runs shift bound from low high old new
  pub here : touches shift (run_at runs low) (run_at runs high) ≡ true → get_or new low 0 ≡ get_or new high 0

pub record IsPair (runs : List Run) (bound from low high : ℕ) : Type 0 where
  pub low_from : from ≤ low
  pub high_from : from ≤ high
  pub low_below : low < length runs
  pub high_below : high < length runs
  pub low_before : (run_at runs low).first < bound
  pub high_before : (run_at runs high).first < bound

module _ (runs : List Run) (shift bound from low high : ℕ) (old now : List ℕ) (pair : IsPair runs bound from low high) (joined : HasJoined runs shift bound from low high old now) where
  set_below : (i : ℕ) → i < length runs → i < length now
  set_below i l = subst (λ n. i < n) (sym joined.size) l

  one_united : touches shift (run_at runs low) (run_at runs high) ≡ true → HasJoinedPair runs shift bound from low high old (united now low high)
  one_united t = record {
    joined = record {
      size = length-united now low high ∙ joined.size;
      told = λ i j fi fj li lj o h. united-kept now low high i j (set_below i li) (set_below j lj) (joined.told i j fi fj li lj o h);
      kept = λ i j li lj e. united-kept now low high i j (set_below i li) (set_below j lj) (joined.kept i j li lj e);
      only = λ g size both are pairs.
          united-joined g now low high (joined.only g size both are pairs) both
          (subst (λ n. low < n) (sym size) pair.low_below) (subst (λ n. high < n) (sym size) pair.high_below)
          (pairs low high pair.low_from pair.high_from pair.low_below pair.high_below pair.low_before pair.high_before t);
    };
    here = λ h. united-same now low high (set_below low pair.low_below) (set_below high pair.high_below);
  }

  by_test : (b : Bool) → touches shift (run_at runs low) (run_at runs high) ≡ b → HasJoinedPair runs shift bound from low high old (cond b (united now low high) now)
  by_test true e = one_united e
  by_test false e = record { joined = joined; here = λ h. absurd (false≢true (sym e ∙ h)) }

  pub pair-joined : (new : List ℕ) → new ≡ cond (touches shift (run_at runs low) (run_at runs high)) (united now low high) now → HasJoinedPair runs shift bound from low high old new
  pair-joined new e = subst (HasJoinedPair runs shift bound from low high old) (sym e) (by_test (touches shift (run_at runs low) (run_at runs high)) refl)

-- ---- a place goes on
module _ (runs : List Run) (shift bound from low high : ℕ) (old new : List ℕ) (are : AreAscending runs) (pair : IsPair runs bound from low high)
    (is : HasJoinedPair runs shift bound from low high old new) where
  low_told : end_of (run_at runs low) + shift < end_of (run_at runs high) → (i j : ℕ) → from ≤ i → from ≤ j → i < length runs → j < length runs
      → touches shift (run_at runs i) (run_at runs j) ≡ true → (i ≡ low) ⊎ (i ≡ low → ⊥) → (j ≡ high) ⊎ ((j < high) ⊎ (high < j)) → (i < low + 1) ⊎ (j < high) → get_or new i 0 ≡ get_or new j 0
  low_told less i j fi fj li lj h (inl ei) (inl ej) o =
      ap (λ k. get_or new k 0) ei ∙ is.here (subst (λ k. touches shift (run_at runs low) (run_at runs k) ≡ true) ej (subst (λ k. touches shift (run_at runs k) (run_at runs j) ≡ true) ei h))
      ∙ ap (λ k. get_or new k 0) (sym ej)
  low_told less i j fi fj li lj h (inl ei) (inr (inl before)) o = is.joined.told i j fi fj li lj (inr before) h
  low_told less i j fi fj li lj h (inl ei) (inr (inr after)) o =
      let t = touch-is shift (run_at runs i) (run_at runs j) h in
      absurd (omega (arith, t.high, are.ascend high j after lj, less, ap (λ k. end_of (run_at runs k)) ei))
  low_told less i j fi fj li lj h (inr n) q (inl l) = is.joined.told i j fi fj li lj (inl (omega arith)) h
  low_told less i j fi fj li lj h (inr n) q (inr l) = is.joined.told i j fi fj li lj (inr l) h

  pub low_more : end_of (run_at runs low) + shift < end_of (run_at runs high) → HasJoined runs shift bound from (low + 1) high old new
  low_more less = record {
    size = is.joined.size;
    told = λ i j fi fj li lj o h. low_told less i j fi fj li lj h (cases_eq i low) (cases_order j high) o;
    kept = is.joined.kept;
    only = is.joined.only;
  }

  high_told : end_of (run_at runs high) ≤ end_of (run_at runs low) + shift → (i j : ℕ) → from ≤ i → from ≤ j → i < length runs → j < length runs
      → touches shift (run_at runs i) (run_at runs j) ≡ true → (j ≡ high) ⊎ (j ≡ high → ⊥) → (i ≡ low) ⊎ ((i < low) ⊎ (low < i)) → (i < low) ⊎ (j < high + 1) → get_or new i 0 ≡ get_or new j 0
  high_told most i j fi fj li lj h (inl ej) (inl ei) o =
      ap (λ k. get_or new k 0) ei ∙ is.here (subst (λ k. touches shift (run_at runs low) (run_at runs k) ≡ true) ej (subst (λ k. touches shift (run_at runs k) (run_at runs j) ≡ true) ei h))
      ∙ ap (λ k. get_or new k 0) (sym ej)
  high_told most i j fi fj li lj h (inl ej) (inr (inl before)) o = is.joined.told i j fi fj li lj (inl before) h
  high_told most i j fi fj li lj h (inl ej) (inr (inr after)) o =
      let t = touch-is shift (run_at runs i) (run_at runs j) h in
      absurd (omega (arith, t.low, are.ascend low i after li, most, ap (λ k. end_of (run_at runs k)) ej))
  high_told most i j fi fj li lj h (inr n) q (inl l) = is.joined.told i j fi fj li lj (inl l) h
  high_told most i j fi fj li lj h (inr n) q (inr l) = is.joined.told i j fi fj li lj (inr (omega arith)) h

  pub high_more : end_of (run_at runs high) ≤ end_of (run_at runs low) + shift → HasJoined runs shift bound from low (high + 1) old new
  high_more most = record {
    size = is.joined.size;
    told = λ i j fi fj li lj o h. high_told most i j fi fj li lj h (cases_eq j high) (cases_order i low) o;
    kept = is.joined.kept;
    only = is.joined.only;
  }

-- the places that went on, without those of the first
pub ended : (runs : List Run) (shift bound from low high : ℕ) (old new : List ℕ) → HasJoined runs shift bound from low high old new → HasJoined runs shift bound from from high old new
ended runs shift bound from low high old new is = record {
  size = is.size;
  told = λ i j fi fj li lj o h. is.told i j fi fj li lj (by_case i j fi o) h;
  kept = is.kept;
  only = is.only;
} where
  by_case : (i j : ℕ) → from ≤ i → (i < from) ⊎ (j < high) → (i < low) ⊎ (j < high)
  by_case i j fi (inl l) = absurd (omega arith)
  by_case i j fi (inr l) = inr l

pub begun : (runs : List Run) (shift bound from : ℕ) (old : List ℕ) → length old ≡ length runs → HasJoined runs shift bound from from from old old
begun runs shift bound from old size = record {
  size = size;
  told = λ i j fi fj li lj o h. absurd (by_case i j fi fj o);
  kept = λ i j li lj e. e;
  only = λ g size both are pairs. are;
} where
  by_case : (i j : ℕ) → from ≤ i → from ≤ j → (i < from) ⊎ (j < from) → ⊥
  by_case i j fi fj (inl l) = omega arith
  by_case i j fi fj (inr l) = omega arith

-- ---- plane by plane
-- The runs before `from` are those that begin before `bound`, where a plane begins; those that touch in one plane were put together.
pub record ArePlanes (width plane bound from : ℕ) (runs : List Run) (old new : List ℕ) : Type 0 where
  pub whole : (k : ℕ) × (bound ≡ k * plane)
  pub within : from ≤ length runs
  pub before : (i : ℕ) → i < from → (run_at runs i).first < bound
  pub after : from < length runs → bound ≤ (run_at runs from).first
  pub joined : HasJoinedTo (touches_row width plane) from runs old new

-- what one plane more did
pub record IsPlane (width bound from to : ℕ) (runs : List Run) (old new : List ℕ) : Type 0 where
  pub order : from ≤ to
  pub within : to ≤ length runs
  pub before : (i : ℕ) → from ≤ i → i < to → (run_at runs i).first < bound
  pub after : to < length runs → bound ≤ (run_at runs to).first
  pub joined : HasJoined runs width bound from from to old new

pub no_planes : (width plane : ℕ) (runs : List Run) (old : List ℕ) → length old ≡ length runs → ArePlanes width plane 0 0 runs old old
no_planes width plane runs old size = record {
  whole = (0, omega arith);
  within = omega arith;
  before = λ i l. absurd (omega arith);
  after = λ l. omega arith;
  joined = record {
    size = size;
    told = λ i j li lj l h. absurd (omega arith);
    kept = λ i j li lj e. e;
    only = λ g same both are pairs. are;
  };
}

module _ (width plane bound from to : ℕ) (runs : List Run) (old now new : List ℕ) (some : 1 ≤ plane) (are : AreAscending runs)
    (planes : ArePlanes width plane bound from runs old now) (next : IsPlane width (bound + plane) from to runs now new) where
  from_at : (i : ℕ) → from ≤ i → i < length runs → bound ≤ (run_at runs i).first
  from_at i low l = by_case (cases_eq from i) where
    by_case : (from ≡ i) ⊎ (from ≡ i → ⊥) → bound ≤ (run_at runs i).first
    by_case (inl e) = subst (λ k. bound ≤ (run_at runs k).first) e (planes.after (omega arith))
    by_case (inr n) = omega (arith, planes.after (omega arith), are.ascend from i (omega arith) l)

  plane_from : (i : ℕ) → from ≤ i → i < length runs → planes.whole.0 ≤ (run_at runs i).first / plane
  plane_from i low l = le-div planes.whole.0 (run_at runs i).first plane some (omega (arith, planes.whole.1, from_at i low l))

  plane_before : (i : ℕ) → (run_at runs i).first < bound → (run_at runs i).first / plane < planes.whole.0
  plane_before i l = div_below (run_at runs i).first plane planes.whole.0 some (omega (arith, planes.whole.1))

  plane_to : (i : ℕ) → (run_at runs i).first < bound + plane → (run_at runs i).first / plane < planes.whole.0 + 1
  plane_to i l = div_below (run_at runs i).first plane (planes.whole.0 + 1) some (omega (arith, planes.whole.1))

  row_told : (i j : ℕ) → i < length runs → j < length runs → j < to → touches_row width plane (run_at runs i) (run_at runs j) ≡ true
      → (j < from) ⊎ (from ≤ j) → (i < from) ⊎ (from ≤ i) → get_or new i 0 ≡ get_or new j 0
  row_told i j li lj l h (inl before) o = next.joined.kept i j li lj (planes.joined.told i j li lj before h)
  row_told i j li lj l h (inr after) (inl before) =
      let same = eqb-true ((run_at runs i).first / plane) ((run_at runs j).first / plane) (and_parts (touches width (run_at runs i) (run_at runs j)) (eqb ((run_at runs i).first / plane) ((run_at runs j).first / plane)) h).1 in
      absurd (omega (arith, plane_before i (planes.before i before), plane_from j after lj, same))
  row_told i j li lj l h (inr after) (inr both) = next.joined.told i j both after li lj (inr l) (and_parts _ _ h).0

  row_pair : (i j : ℕ) → from ≤ i → from ≤ j → i < length runs → j < length runs → (run_at runs i).first < bound + plane → (run_at runs j).first < bound + plane
      → touches width (run_at runs i) (run_at runs j) ≡ true → touches_row width plane (run_at runs i) (run_at runs j) ≡ true
  row_pair i j fi fj li lj bi bj h =
      and_from _ _ h (eq-eqb ((run_at runs i).first / plane) ((run_at runs j).first / plane)
      (omega (arith, plane_from i fi li, plane_from j fj lj, plane_to i bi, plane_to j bj)))

  before_to : (i : ℕ) → i < to → (i < from) ⊎ (from ≤ i) → (run_at runs i).first < bound + plane
  before_to i l (inl less) = omega (arith, planes.before i less)
  before_to i l (inr more) = next.before i more l

  pub planes_more : ArePlanes width plane (bound + plane) to runs old new
  planes_more = record {
    whole = (planes.whole.0 + 1, omega (arith, planes.whole.1));
    within = next.within;
    before = λ i l. before_to i l (cases_lt i from);
    after = next.after;
    joined = record {
      size = next.joined.size;
      told = λ i j li lj l h. row_told i j li lj l h (cases_lt j from) (cases_lt i from);
      kept = λ i j li lj e. next.joined.kept i j li lj (planes.joined.kept i j li lj e);
      only = λ g same both joined pairs.
          next.joined.only g same both (planes.joined.only g same both joined pairs)
          (λ i j fi fj li lj bi bj h. pairs i j li lj (row_pair i j fi fj li lj bi bj h));
    };
  }

pub all_planes : (width plane bound from end : ℕ) (runs : List Run) (old new : List ℕ) → AreAscending runs → ((i : ℕ) → i < length runs → end_of (run_at runs i) ≤ end) → end ≤ bound
    → ArePlanes width plane bound from runs old new → HasJoinedTo (touches_row width plane) (length runs) runs old new
all_planes width plane bound from end runs old new are within done planes = by_case (cases_lt from (length runs)) where
  by_case : (from < length runs) ⊎ (length runs ≤ from) → HasJoinedTo (touches_row width plane) (length runs) runs old new
  by_case (inl l) = absurd (omega (arith, planes.after l, within from l, are.some from l))
  by_case (inr l) = let e : from ≡ length runs = omega (arith, planes.within) in subst (λ k. HasJoinedTo (touches_row width plane) k runs old new) e planes.joined

pub plane-small : (plane end n : ℕ) → end ≡ n * plane → 0 < end → plane ≤ end
plane-small plane end zero e some = absurd (omega arith)
plane-small plane end (suc n) e some = omega (arith, e)
