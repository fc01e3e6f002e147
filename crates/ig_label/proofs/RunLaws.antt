-- Laws on the runs of rows, one more at a time.
use Rattle.std.proofs.Common.{ℕ, zero, suc, ◌+◌, ◌-◌, ◌*◌, ◌%◌, ◌/◌, ◌<◌, ◌≤◌, ◌≡◌, ◌≢◌, cond, eqb, Bool, true, false, List, [], ◌∷◌, ◌++◌, length, get_or, refl, sym, ap, ◌∙◌, subst, ◌⊎◌, inl, inr, arith, length-append}
use Rattle.std.proofs.Math.Nat.{mul-le-mul_left}
use Rattle.std.proofs.lemmas.Bool.{cases_eq, cases_lt, eqb-true, eqb-false}
use Rattle.std.proofs.lemmas.Nat.{div-add-mod', mod-mul-add}
use Rattle.std.proofs.lemmas.List.{get_or_append_left, get_or_push}
use Rattle.ig_label.specs.declared.rows.Run.{Run}
use Rattle.ig_label.specs.Runs.{run_at, end_of, IsIn, IsRun, IsInSome, AreRunsTo, with_run}

-- ---- rows
pub row-place : (width first place : ℕ) → first % width ≡ 0 → first ≤ place → place < first + width → place % width ≡ place - first
row-place width first place row from to =
    let whole : place ≡ first / width * width + (place - first) = omega (arith, div-add-mod' first width, row) in
    ap (λ n. n % width) whole ∙ mod-mul-add (first / width) width (place - first) (omega arith)

pub record IsRow (width first len : ℕ) : Type 0 where
  pub some : 1 ≤ width
  pub starts : first % width ≡ 0
  pub within : first + width ≤ len

pub row-is : (width rows n first len : ℕ) → len ≡ width * rows → first ≡ n * width → first < len → IsRow width first len
row-is width rows n first len whole at below = by_width (cases_eq width 0) where
  by_width : (width ≡ 0) ⊎ (width ≡ 0 → ⊥) → IsRow width first len
  by_width (inl e) = absurd (let none : len ≡ 0 * rows = whole ∙ ap (λ w. w * rows) e in omega arith)
  by_width (inr some) = by_rows (cases_lt n rows) where
    by_rows : (n < rows) ⊎ (rows ≤ n) → IsRow width first len
    by_rows (inl l) =
        let fits : width * (n + 1) ≤ width * rows = mul-le-mul_left width (omega arith) in
        record {
          some = omega arith;
          starts = ap (λ p. p % width) (at ∙ omega arith) ∙ mod-mul-add n width 0 (omega arith);
          within = omega arith;
        }
    by_rows (inr l) = absurd (let fits : width * rows ≤ width * n = mul-le-mul_left width l in omega arith)

-- ---- one stretch of one label
pub record IsStretch (width : ℕ) (labels : List ℕ) (first from to label : ℕ) : Type 0 where
  pub row : first % width ≡ 0
  pub order : first ≤ from
  pub some : from < to
  pub within : to ≤ first + width
  pub same : (p : ℕ) → from ≤ p → p < to → get_or labels p 0 ≡ label
  pub begins : (from ≡ first) ⊎ (get_or labels (from - 1) 0 ≢ label)
  pub ends : (to ≡ first + width) ⊎ (get_or labels to 0 ≢ label)

abbrev one_run : ℕ → ℕ → ℕ → Run
one_run from to label = record { first = from; length = to - from; label = label }

module _ (width : ℕ) (labels : List ℕ) (first from to label : ℕ) (stretch : IsStretch width labels first from to label) where
  begins-row : (from ≡ first) ⊎ (get_or labels (from - 1) 0 ≢ label) → (from % width ≡ 0) ⊎ (get_or labels (from - 1) 0 ≢ label)
  begins-row (inl e) = inl (ap (λ n. n % width) e ∙ stretch.row)
  begins-row (inr n) = inr n

  place : from % width ≡ from - first
  place = row-place width first from stretch.row stretch.order (omega (arith, stretch.some, stretch.within))

  end_is : from + (to - from) ≡ to
  end_is = omega (arith, stretch.some)

  ends-row : (to ≡ first + width) ⊎ (get_or labels to 0 ≢ label) → (from % width + (to - from) ≡ width) ⊎ (get_or labels (from + (to - from)) 0 ≢ label)
  ends-row (inl e) = inl (omega (arith, place, stretch.some, stretch.order))
  ends-row (inr n) = inr (λ e. n (ap (λ p. get_or labels p 0) (sym end_is) ∙ e))

  run-is : (label ≡ 0 → ⊥) → IsRun width labels (one_run from to label)
  run-is some = record {
    some = omega (arith, stretch.some);
    in_row = omega (arith, place, stretch.some, stretch.order, stretch.within);
    label = some;
    same = λ p h. stretch.same p h.from (omega (arith, h.to, stretch.some));
    begins = begins-row stretch.begins;
    ends = ends-row stretch.ends;
  }

  none_more : (runs : List Run) → AreRunsTo width labels from runs → label ≡ 0 → AreRunsTo width labels to runs
  none_more runs are e = record {
    each = are.each;
    ascend = are.ascend;
    within = λ i l. omega (arith, are.within i l, stretch.some);
    all = λ p l some. by_case p l some (cases_lt p from);
  } where
    by_case : (p : ℕ) → p < to → get_or labels p 0 ≢ 0 → (p < from) ⊎ (from ≤ p) → IsInSome runs p
    by_case p l some (inl less) = are.all p less some
    by_case p l some (inr more) = absurd (some (stretch.same p more l ∙ e))

-- the runs with one more
module _ (width : ℕ) (labels : List ℕ) (first from to label : ℕ) (stretch : IsStretch width labels first from to label) (runs : List Run) (are : AreRunsTo width labels from runs)
    (some : label ≡ 0 → ⊥) where
  abbrev grown : List Run
  grown = runs ++ one_run from to label ∷ []

  long : length grown ≡ length runs + 1
  long = length-append runs (one_run from to label ∷ [])

  old : (i : ℕ) → i < length runs → run_at grown i ≡ run_at runs i
  old i l = get_or_append_left runs (one_run from to label ∷ []) _ i l

  new : (i : ℕ) → i ≡ length runs → run_at grown i ≡ one_run from to label
  new i e = get_or_push runs (one_run from to label) _ i (sym e)

  less : (i : ℕ) → i < length grown → (i ≡ length runs → ⊥) → i < length runs
  less i l n = omega (arith, long)

  each : (i : ℕ) → i < length grown → (i ≡ length runs) ⊎ (i ≡ length runs → ⊥) → IsRun width labels (run_at grown i)
  each i l (inl e) = subst (IsRun width labels) (sym (new i e)) (run-is width labels first from to label stretch some)
  each i l (inr n) = subst (IsRun width labels) (sym (old i (less i l n))) (are.each i (less i l n))

  within : (i : ℕ) → i < length grown → (i ≡ length runs) ⊎ (i ≡ length runs → ⊥) → end_of (run_at grown i) ≤ to
  within i l (inl e) = omega (arith, ap end_of (new i e), (end_is width labels first from to label stretch))
  within i l (inr n) = omega (arith, ap end_of (old i (less i l n)), are.within i (less i l n), stretch.some)

  ascend : (i j : ℕ) → i < j → j < length grown → (j ≡ length runs) ⊎ (j ≡ length runs → ⊥) → end_of (run_at grown i) ≤ (run_at grown j).first
  ascend i j order l (inl e) =
      let before : i < length runs = omega arith in
      omega (arith, ap end_of (old i before), are.within i before, ap (λ (r : Run). r.first) (new j e))
  ascend i j order l (inr n) =
      let below = less j l n in
      let before : i < length runs = omega arith in
      omega (arith, ap end_of (old i before), are.ascend i j order below, ap (λ (r : Run). r.first) (old j below))

  by_case : (p : ℕ) → p < to → get_or labels p 0 ≢ 0 → (p < from) ⊎ (from ≤ p) → IsInSome grown p
  by_case p l h (inl before) =
      let w = are.all p before h in
      (w.0, omega (arith, long, w.1), subst (λ r. IsIn r p) (sym (old w.0 w.1)) w.2)
  by_case p l h (inr after) =
      (length runs, omega (arith, long), subst (λ r. IsIn r p) (sym (new (length runs) refl)) (record { from = after; to = omega (arith, (end_is width labels first from to label stretch)) }))

  pub one_more : AreRunsTo width labels to (runs ++ one_run from to label ∷ [])
  one_more = record {
    each = λ i l. each i l (cases_eq i (length runs));
    ascend = λ i j order l. ascend i j order l (cases_eq j (length runs));
    within = λ i l. within i l (cases_eq i (length runs));
    all = λ p l h. by_case p l h (cases_lt p from);
  }

module _ (width : ℕ) (labels : List ℕ) (first from to label : ℕ) (stretch : IsStretch width labels first from to label) where
  by_label : (runs : List Run) → AreRunsTo width labels from runs → (b : Bool) → eqb label 0 ≡ b → AreRunsTo width labels to (cond b runs (runs ++ one_run from to label ∷ []))
  by_label runs are true e = none_more width labels first from to label stretch runs are (eqb-true label 0 e)
  by_label runs are false e = one_more width labels first from to label stretch runs are (eqb-false label 0 e)

  pub stretch_more : (runs : List Run) → AreRunsTo width labels from runs → AreRunsTo width labels to (with_run runs from to label)
  stretch_more runs are = by_label runs are (eqb label 0) refl

pub no_runs : (width : ℕ) (labels : List ℕ) → AreRunsTo width labels 0 []
no_runs width labels = record {
  each = λ i l. absurd (omega arith);
  ascend = λ i j order l. absurd (omega arith);
  within = λ i l. absurd (omega arith);
  all = λ p l h. absurd (omega arith);
}

-- ---- within a row
-- From `from` on all labels before `place` are one, which the label before `from` in the row is not; the runs before stand.
pub record IsWithin (width : ℕ) (labels : List ℕ) (first from place label : ℕ) (runs : List Run) : Type 0 where
  pub so_far : AreRunsTo width labels from runs
  pub order : first ≤ from
  pub some : from < place
  pub same : (p : ℕ) → from ≤ p → p < place → get_or labels p 0 ≡ label
  pub begins : (from ≡ first) ⊎ (get_or labels (from - 1) 0 ≢ label)

module _ (width : ℕ) (labels : List ℕ) (first from place label : ℕ) (runs : List Run) (row : first % width ≡ 0) (is : IsWithin width labels first from place label runs) where
  stretch-at : place ≤ first + width → (place ≡ first + width) ⊎ (get_or labels place 0 ≢ label) → IsStretch width labels first from place label
  stretch-at within ends = record { row = row; order = is.order; some = is.some; within = within; same = is.same; begins = is.begins; ends = ends }

  -- the label goes on
  pub within-same : (from' label' : ℕ) (runs' : List Run) → get_or labels place 0 ≡ label → runs' ≡ runs → from' ≡ from → label' ≡ label
      → IsWithin width labels first from' (place + 1) label' runs'
  within-same from' label' runs' here er ef el =
      subst (λ r. IsWithin width labels first from' (place + 1) label' r) (sym er)
      (subst (λ f. IsWithin width labels first f (place + 1) label' runs) (sym ef)
      (subst (λ l. IsWithin width labels first from (place + 1) l runs) (sym el) (record {
        so_far = is.so_far;
        order = is.order;
        some = omega (arith, is.some);
        same = λ p low high. by_case p low high (cases_eq p place);
        begins = is.begins;
      }))) where
        by_case : (p : ℕ) → from ≤ p → p < place + 1 → (p ≡ place) ⊎ (p ≡ place → ⊥) → get_or labels p 0 ≡ label
        by_case p low high (inl e) = ap (λ q. get_or labels q 0) e ∙ here
        by_case p low high (inr n) = is.same p low (omega arith)

  -- another label begins
  pub within-new : (from' label' : ℕ) (runs' : List Run) → place < first + width → (get_or labels place 0 ≡ label → ⊥) → runs' ≡ with_run runs from place label
      → from' ≡ place → label' ≡ get_or labels place 0 → IsWithin width labels first from' (place + 1) label' runs'
  within-new from' label' runs' below other er ef el =
      subst (λ r. IsWithin width labels first from' (place + 1) label' r) (sym er)
      (subst (λ f. IsWithin width labels first f (place + 1) label' (with_run runs from place label)) (sym ef)
      (subst (λ l. IsWithin width labels first place (place + 1) l (with_run runs from place label)) (sym el) (record {
        so_far = stretch_more width labels first from place label (stretch-at (omega arith) (inr other)) runs is.so_far;
        order = omega (arith, is.order, is.some);
        some = omega arith;
        same = λ p low high. let e : p ≡ place = omega arith in ap (λ q. get_or labels q 0) e;
        begins = inr (λ e. other (sym e ∙ is.same (place - 1) (omega (arith, is.some)) (omega (arith, is.some))));
      })))

  -- the row ends
  pub within-end : (to : ℕ) (runs' : List Run) → place ≡ to → to ≡ first + width → runs' ≡ with_run runs from to label → AreRunsTo width labels to runs'
  within-end to runs' ep et er =
      subst (AreRunsTo width labels to) (sym er)
      (subst (λ t. AreRunsTo width labels t (with_run runs from t label)) ep
      (stretch_more width labels first from place label (stretch-at (omega arith) (inl (ep ∙ et))) runs is.so_far))

-- ---- sides
product-some : (a b : ℕ) → 1 ≤ a * b → (1 ≤ a) × (1 ≤ b)
product-some zero b h = absurd (omega arith)
product-some (suc a) zero h = absurd (omega arith)
product-some (suc a) (suc b) h = (omega arith, omega arith)

-- a box with voxels has sides
pub sides-some : (x y z : ℕ) → 1 ≤ x * (y * z) → (1 ≤ x) × (1 ≤ y)
sides-some x y z h =
    let p = product-some x (y * z) h in
    let q = product-some y z p.1 in
    (p.0, q.0)
