-- The runs of a box are a quotient of its voxels.
use Rattle.std.proofs.Common.{ℕ, zero, suc, ◌+◌, ◌-◌, ◌*◌, ◌%◌, ◌/◌, ◌<◌, ◌≤◌, ◌≡◌, ◌≢◌, max, ◌&&◌, Bool, true, List, length, get_or, refl, sym, ap, ◌∙◌, subst, ◌⊎◌, inl, inr, arith}
use Rattle.std.specs.Prelude.{nat_le, nat_lt}
use Rattle.std.proofs.Math.Nat.{div-div-eq-div-mul}
use Rattle.std.proofs.lemmas.Bool.{and_parts, and_from, or_cases, eqb-true, eq-eqb, leb-true, le-leb, ltb-true, lt-ltb, cases_lt, cases_order}
use Rattle.ig_space.specs.Geometry.{count}
use Rattle.ig_space.specs.Volume.{Voxels}
use Rattle.ig_graph.specs.Counts.{first_below}
use Rattle.ig_graph.specs.CountLaws.{IsFound, first_below-found}
use Rattle.ig_graph.specs.Graph.{Graph, is_in, steps, Joined}
use Rattle.ig_graph.specs.PathLaws.{or_first, or_second, steps-from, steps-to, steps-adj, in-below, Joined-same, Joined-step, Joined-trans, Joined-sym, Joined-in}
use Rattle.ig_graph.specs.Quotients.{Crossing, IsQuotient, Numbered, IsOrdered}
use Rattle.ig_label.specs.declared.rows.Run.{Run}
use Rattle.ig_label.specs.VoxelGraph.{label_at, voxel_graph}
use Rattle.ig_label.specs.Runs.{run_at, end_of, IsIn, AreRuns}
use Rattle.ig_label.specs.RunGraph.{touches, touches_row, is_above, run_graph}
use Rattle.ig_label.proofs.JoinLaws.{touch-is}
use Rattle.ig_label.proofs.ClassLaws.{runs-symmetric, above-step}
use Rattle.ig_label.proofs.VoxelLaws.{Up, along_x, along_y, along_z, voxels-symmetric, node-label, label-node, row-mod, row-div, up-step, step-up, step-label}

-- the run has the place
abbrev pub holds : List Run → ℕ → ℕ → Bool
holds runs p i = nat_le (run_at runs i).first p && nat_lt p (end_of (run_at runs i))

-- the number of the run that has the place
abbrev pub run_of : List Run → ℕ → ℕ
run_of runs p = first_below (holds runs p) (length runs) 0

abbrev pub first_of : List Run → ℕ → ℕ
first_of runs i = (run_at runs i).first

holds-in : (runs : List Run) (p i : ℕ) → holds runs p i ≡ true → IsIn (run_at runs i) p
holds-in runs p i h =
    let s = and_parts _ _ h in
    record { from = leb-true (run_at runs i).first p s.0; to = ltb-true p (end_of (run_at runs i)) s.1 }

in-holds : (runs : List Run) (p i : ℕ) → IsIn (run_at runs i) p → holds runs p i ≡ true
in-holds runs p i h = and_from _ _ (le-leb (run_at runs i).first p h.from) (lt-ltb p (end_of (run_at runs i)) h.to)

touches-from : (shift : ℕ) (a b : Run) → a.label ≡ b.label → a.first + shift < end_of b → b.first < end_of a + shift → touches shift a b ≡ true
touches-from shift a b e low high =
    and_from _ _ (eq-eqb a.label b.label e) (and_from _ _ (lt-ltb (a.first + shift) (end_of b) low) (lt-ltb b.first (end_of a + shift) high))

-- a volume, and all its runs
pub record HasRuns (v : Voxels) (runs : List Run) : Type 0 where
  pub long : length v.labels ≡ count v.size
  pub some_x : 1 ≤ v.size.x
  pub some_y : 1 ≤ v.size.y
  pub are : AreRuns v.size.x v.labels runs

module _ (v : Voxels) (runs : List Run) (has : HasRuns v runs) where
  abbrev g : Graph
  g = voxel_graph v

  abbrev h : Graph
  h = run_graph v.size runs

  below : (i p : ℕ) → i < length runs → IsIn (run_at runs i) p → p < count v.size
  below i p l w = omega (arith, w.to, has.are.within i l, has.long)

  pub in-node : (i p : ℕ) → i < length runs → IsIn (run_at runs i) p → is_in (voxel_graph v) p ≡ true
  in-node i p l w =
      let run = has.are.each i l in
      label-node v p (below i p l w) (λ e. run.label (sym (run.same p w) ∙ e))

  unique : (i j p : ℕ) → i < length runs → j < length runs → IsIn (run_at runs i) p → IsIn (run_at runs j) p → i ≡ j
  unique i j p li lj wi wj = by_case (cases_order i j) where
    by_case : (i ≡ j) ⊎ ((i < j) ⊎ (j < i)) → i ≡ j
    by_case (inl e) = e
    by_case (inr (inl l)) = absurd (omega (arith, has.are.ascend i j l lj, wi.to, wj.from))
    by_case (inr (inr l)) = absurd (omega (arith, has.are.ascend j i l li, wj.to, wi.from))

  found : (p i : ℕ) → i < length runs → IsIn (run_at runs i) p → IsFound (holds runs p) (length runs) (run_of runs p) i
  found p i l w = first_below-found (holds runs p) (length runs) 0 i l (in-holds runs p i w)

  own : (p i : ℕ) → i < length runs → IsIn (run_at runs i) p → run_of runs p ≡ i
  own p i l w =
      let f = found p i l w in
      unique (run_of runs p) i p f.below l (holds-in runs p (run_of runs p) f.passes) w

  some_run : (p : ℕ) → is_in (voxel_graph v) p ≡ true → (i : ℕ) × (i < length runs) × IsIn (run_at runs i) p
  some_run p hp = has.are.all p (omega (arith, in-below (voxel_graph v) p hp, has.long)) (node-label v p hp)

  pub run-below : (p : ℕ) → is_in (voxel_graph v) p ≡ true → run_of runs p < length runs
  run-below p hp = let w = some_run p hp in (found p w.0 w.1 w.2).below

  pub run-has : (p : ℕ) → is_in (voxel_graph v) p ≡ true → IsIn (run_at runs (run_of runs p)) p
  run-has p hp = let w = some_run p hp in holds-in runs p (run_of runs p) (found p w.0 w.1 w.2).passes

  -- ---- within a run
  row_of : (i p : ℕ) → i < length runs → IsIn (run_at runs i) p → (run_at runs i).first % v.size.x + (p - (run_at runs i).first) < v.size.x
  row_of i p l w = omega (arith, w.from, w.to, (has.are.each i l).in_row)

  mod_at : (i p : ℕ) → i < length runs → IsIn (run_at runs i) p → p % v.size.x ≡ (run_at runs i).first % v.size.x + (p - (run_at runs i).first)
  mod_at i p l w =
      let e : p ≡ (run_at runs i).first + (p - (run_at runs i).first) = omega (arith, w.from) in
      ap (λ n. n % v.size.x) e ∙ row-mod v.size.x (run_at runs i).first (p - (run_at runs i).first) (row_of i p l w)

  div_at : (i p : ℕ) → i < length runs → IsIn (run_at runs i) p → p / v.size.x ≡ (run_at runs i).first / v.size.x
  div_at i p l w =
      let e : p ≡ (run_at runs i).first + (p - (run_at runs i).first) = omega (arith, w.from) in
      ap (λ n. n / v.size.x) e ∙ row-div v.size.x (run_at runs i).first (p - (run_at runs i).first) (row_of i p l w)

  plane_at : (i p : ℕ) → i < length runs → IsIn (run_at runs i) p → (run_at runs i).first / (v.size.x * v.size.y) ≡ p / v.size.x / v.size.y
  plane_at i p l w =
      sym (div-div-eq-div-mul (run_at runs i).first v.size.x v.size.y) ∙ ap (λ n. n / v.size.y) (sym (div_at i p l w))

  label_of : (i p : ℕ) → i < length runs → IsIn (run_at runs i) p → label_at v p ≡ (run_at runs i).label
  label_of i p l w = (has.are.each i l).same p w

  next_in : (i p : ℕ) → i < length runs → IsIn (run_at runs i) p → IsIn (run_at runs i) (p + 1) → steps (voxel_graph v) p (p + 1) ≡ true
  next_in i p l w w' =
      up-step v has.some_x has.some_y p (p + 1) (in-node i p l w) (in-node i (p + 1) l w')
      (along_x (omega (arith, mod_at i p l w, row_of i (p + 1) l w', w.from)) refl) (label_of i p l w ∙ sym (label_of i (p + 1) l w'))

  walk : (i k : ℕ) → i < length runs → k < (run_at runs i).length → Joined (voxel_graph v) (run_at runs i).first ((run_at runs i).first + k)
  walk i zero l s = Joined-same (voxel_graph v) (run_at runs i).first _ (omega arith)
  walk i (suc k) l s =
      let here = (run_at runs i).first + k in
      let before = walk i k l (omega arith) in
      let step = next_in i here l (record { from = omega arith; to = omega arith }) (record { from = omega arith; to = omega arith }) in
      let e : here + 1 ≡ (run_at runs i).first + suc k = omega arith in
      Joined-trans (voxel_graph v) (run_at runs i).first here _ before (subst (Joined (voxel_graph v) here) e (Joined-step (voxel_graph v) here (here + 1) step))

  from_first : (i p : ℕ) → i < length runs → IsIn (run_at runs i) p → Joined (voxel_graph v) (run_at runs i).first p
  from_first i p l w =
      let e : (run_at runs i).first + (p - (run_at runs i).first) ≡ p = omega (arith, w.from) in
      subst (Joined (voxel_graph v) (run_at runs i).first) e (walk i (p - (run_at runs i).first) l (omega (arith, w.from, w.to)))

  in_one : (i p q : ℕ) → i < length runs → IsIn (run_at runs i) p → IsIn (run_at runs i) q → Joined (voxel_graph v) p q
  in_one i p q l wp wq =
      Joined-trans (voxel_graph v) p (run_at runs i).first q
      (Joined-sym (voxel_graph v) (voxels-symmetric v) (run_at runs i).first p (from_first i p l wp)) (from_first i q l wq)

  same_joined : (p q : ℕ) → is_in (voxel_graph v) p ≡ true → is_in (voxel_graph v) q ≡ true → run_of runs p ≡ run_of runs q → Joined (voxel_graph v) p q
  same_joined p q hp hq e = in_one (run_of runs p) p q (run-below p hp) (run-has p hp) (subst (λ i. IsIn (run_at runs i) q) (sym e) (run-has q hq))

  -- ---- a step up, and the runs of both voxels
  goes_on : (i p : ℕ) → i < length runs → IsIn (run_at runs i) p → p % v.size.x + 1 < v.size.x → label_at v p ≡ label_at v (p + 1) → (p + 1 < end_of (run_at runs i)) ⊎ (end_of (run_at runs i) ≤ p + 1)
      → IsIn (run_at runs i) (p + 1)
  goes_on i p l w row e (inl less) = record { from = omega (arith, w.from); to = less }
  goes_on i p l w row e (inr more) = absurd (by_end (has.are.each i l).ends) where
    last : end_of (run_at runs i) ≡ p + 1
    last = omega (arith, more, w.to)

    by_end : ((run_at runs i).first % v.size.x + (run_at runs i).length ≡ v.size.x) ⊎ (get_or v.labels (end_of (run_at runs i)) 0 ≢ (run_at runs i).label) → ⊥
    by_end (inl full) = omega (arith, full, mod_at i p l w, row, last, w.from)
    by_end (inr other) = other (ap (λ q. get_or v.labels q 0) last ∙ sym e ∙ label_of i p l w)

  row_above : (i j p q : ℕ) → i < length runs → j < length runs → IsIn (run_at runs i) p → IsIn (run_at runs j) q → label_at v p ≡ label_at v q
      → p / v.size.x / v.size.y ≡ q / v.size.x / v.size.y → q ≡ p + v.size.x → is_above v.size.x (v.size.x * v.size.y) (run_at runs i) (run_at runs j) ≡ true
  row_above i j p q li lj wp wq e same up =
      or_first _ _ (and_from _ _
      (touches-from v.size.x (run_at runs i) (run_at runs j) (sym (label_of i p li wp) ∙ e ∙ label_of j q lj wq) (omega (arith, wp.from, wq.to, up)) (omega (arith, wp.to, wq.from, up)))
      (eq-eqb ((run_at runs i).first / (v.size.x * v.size.y)) ((run_at runs j).first / (v.size.x * v.size.y)) (plane_at i p li wp ∙ same ∙ sym (plane_at j q lj wq))))

  face_above : (i j p q : ℕ) → i < length runs → j < length runs → IsIn (run_at runs i) p → IsIn (run_at runs j) q → label_at v p ≡ label_at v q
      → q ≡ p + v.size.x * v.size.y → is_above v.size.x (v.size.x * v.size.y) (run_at runs i) (run_at runs j) ≡ true
  face_above i j p q li lj wp wq e up =
      or_second _ _ (touches-from (v.size.x * v.size.y) (run_at runs i) (run_at runs j) (sym (label_of i p li wp) ∙ e ∙ label_of j q lj wq)
      (omega (arith, wp.from, wq.to, up)) (omega (arith, wp.to, wq.from, up)))

  up_on : (p q : ℕ) → is_in (voxel_graph v) p ≡ true → is_in (voxel_graph v) q ≡ true → label_at v p ≡ label_at v q → Up v.size p q → Joined (run_graph v.size runs) (run_of runs p) (run_of runs q)
  up_on p q hp hq e (along_x row up) =
      let l = run-below p hp in
      let here : label_at v p ≡ label_at v (p + 1) = e ∙ ap (label_at v) up in
      let w = goes_on (run_of runs p) p l (run-has p hp) row here (cases_lt (p + 1) (end_of (run_at runs (run_of runs p)))) in
      Joined-same (run_graph v.size runs) (run_of runs p) (run_of runs q) (sym (ap (run_of runs) up ∙ own (p + 1) (run_of runs p) l w))
  up_on p q hp hq e (along_y same up) =
      Joined-step (run_graph v.size runs) (run_of runs p) (run_of runs q) (above-step v.size runs (run_of runs p) (run_of runs q) (run-below p hp) (run-below q hq)
      (row_above (run_of runs p) (run_of runs q) p q (run-below p hp) (run-below q hq) (run-has p hp) (run-has q hq) e same up))
  up_on p q hp hq e (along_z up) =
      Joined-step (run_graph v.size runs) (run_of runs p) (run_of runs q) (above-step v.size runs (run_of runs p) (run_of runs q) (run-below p hp) (run-below q hq)
      (face_above (run_of runs p) (run_of runs q) p q (run-below p hp) (run-below q hq) (run-has p hp) (run-has q hq) e up))

  step_on : (p q : ℕ) → is_in (voxel_graph v) p ≡ true → is_in (voxel_graph v) q ≡ true → label_at v p ≡ label_at v q → Up v.size p q ⊎ Up v.size q p
      → Joined (run_graph v.size runs) (run_of runs p) (run_of runs q)
  step_on p q hp hq e (inl up) = up_on p q hp hq e up
  step_on p q hp hq e (inr up) = Joined-sym (run_graph v.size runs) (runs-symmetric v.size runs) (run_of runs q) (run_of runs p) (up_on q p hq hp (sym e) up)

  -- ---- under a step of runs
  -- the voxel that the first has below one of the second
  common : (shift : ℕ) (i j : ℕ) → i < length runs → j < length runs → touches shift (run_at runs i) (run_at runs j) ≡ true → (p : ℕ) × IsIn (run_at runs i) p × IsIn (run_at runs j) (p + shift)
  common shift i j li lj t =
      let d = touch-is shift (run_at runs i) (run_at runs j) t in
      let q = max ((run_at runs i).first + shift) (run_at runs j).first in
      (q - shift, record { from = omega arith; to = omega (arith, d.low, d.high, (has.are.each i li).some, (has.are.each j lj).some) }, record { from = omega arith; to = omega (arith, d.low, d.high, (has.are.each i li).some, (has.are.each j lj).some) })

  crossing : (i j p q : ℕ) → i < length runs → j < length runs → IsIn (run_at runs i) p → IsIn (run_at runs j) q → (run_at runs i).label ≡ (run_at runs j).label → Up v.size p q
      → Crossing (voxel_graph v) (run_of runs) i j
  crossing i j p q li lj wp wq e up = record {
    from = p;
    to = q;
    from_in = in-node i p li wp;
    from_at = own p i li wp;
    to_at = own q j lj wq;
    joined = Joined-step (voxel_graph v) p q (up-step v has.some_x has.some_y p q (in-node i p li wp) (in-node j q lj wq) up (label_of i p li wp ∙ e ∙ sym (label_of j q lj wq)));
  }

  above_under : (i j : ℕ) → i < length runs → j < length runs
      → (touches_row v.size.x (v.size.x * v.size.y) (run_at runs i) (run_at runs j) ≡ true) ⊎ (touches (v.size.x * v.size.y) (run_at runs i) (run_at runs j) ≡ true)
      → Crossing (voxel_graph v) (run_of runs) i j
  above_under i j li lj (inl t) =
      let s = and_parts _ _ t in
      let w = common v.size.x i j li lj s.0 in
      let same = eqb-true ((run_at runs i).first / (v.size.x * v.size.y)) ((run_at runs j).first / (v.size.x * v.size.y)) s.1 in
      crossing i j w.0 (w.0 + v.size.x) li lj w.1 w.2 (touch-is v.size.x (run_at runs i) (run_at runs j) s.0).label
      (along_y (sym (plane_at i w.0 li w.1) ∙ same ∙ plane_at j (w.0 + v.size.x) lj w.2) refl)
  above_under i j li lj (inr t) =
      let w = common (v.size.x * v.size.y) i j li lj t in
      crossing i j w.0 (w.0 + v.size.x * v.size.y) li lj w.1 w.2 (touch-is (v.size.x * v.size.y) (run_at runs i) (run_at runs j) t).label (along_z refl)

  turned : (i j : ℕ) → Crossing (voxel_graph v) (run_of runs) i j → Crossing (voxel_graph v) (run_of runs) j i
  turned i j c = record {
    from = c.to;
    to = c.from;
    from_in = Joined-in (voxel_graph v) c.from c.to c.joined c.from_in;
    from_at = c.to_at;
    to_at = c.from_at;
    joined = Joined-sym (voxel_graph v) (voxels-symmetric v) c.from c.to c.joined;
  }

  step_under : (i j : ℕ) → i < length runs → j < length runs
      → (is_above v.size.x (v.size.x * v.size.y) (run_at runs i) (run_at runs j) ≡ true) ⊎ (is_above v.size.x (v.size.x * v.size.y) (run_at runs j) (run_at runs i) ≡ true)
      → Crossing (voxel_graph v) (run_of runs) i j
  step_under i j li lj (inl t) =
      above_under i j li lj (or_cases (touches_row v.size.x (v.size.x * v.size.y) (run_at runs i) (run_at runs j)) (touches (v.size.x * v.size.y) (run_at runs i) (run_at runs j)) t)
  step_under i j li lj (inr t) =
      turned j i (above_under j i lj li (or_cases (touches_row v.size.x (v.size.x * v.size.y) (run_at runs j) (run_at runs i)) (touches (v.size.x * v.size.y) (run_at runs j) (run_at runs i)) t))

  -- ---- the quotient
  pub runs-quotient : IsQuotient (voxel_graph v) (run_graph v.size runs) (run_of runs)
  runs-quotient = record {
    steps_on = λ p q s. step_on p q (steps-from (voxel_graph v) p q s) (steps-to (voxel_graph v) p q s) (step-label v p q s) (step-up v has.some_x p q s);
    same_joined = same_joined;
    steps_under = λ i j s.
        step_under i j (in-below (run_graph v.size runs) i (steps-from (run_graph v.size runs) i j s)) (in-below (run_graph v.size runs) j (steps-to (run_graph v.size runs) i j s))
        (or_cases (is_above v.size.x (v.size.x * v.size.y) (run_at runs i) (run_at runs j)) (is_above v.size.x (v.size.x * v.size.y) (run_at runs j) (run_at runs i)) (steps-adj (run_graph v.size runs) i j s));
  }

  first_in : (i : ℕ) → i < length runs → IsIn (run_at runs i) (run_at runs i).first
  first_in i l = record { from = omega arith; to = omega (arith, (has.are.each i l).some) }

  pub runs-numbered : Numbered (voxel_graph v) (run_graph v.size runs) (run_of runs) (first_of runs)
  runs-numbered = record {
    g_both = voxels-symmetric v;
    h_both = runs-symmetric v.size runs;
    quotient = runs-quotient;
    firsts = record {
      below = run-below;
      node = λ i l. in-node i (run_at runs i).first l (first_in i l);
      at = λ i l. own (run_at runs i).first i l (first_in i l);
      least = λ p hp. (run-has p hp).from;
    };
  }

  pub runs-ordered : IsOrdered (run_graph v.size runs) (first_of runs)
  runs-ordered = record {
    nodes = λ i l. refl;
    ascends = λ i j o l. omega (arith, has.are.ascend i j o l, (has.are.each i (omega arith)).some);
  }
