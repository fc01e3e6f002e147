-- Sums over the cells of a grid add up to the sum over the whole.
use Rattle.std.proofs.Common.{ℕ, zero, suc, ◌+◌, ◌<◌, ◌≤◌, Bool, true, false, ◌≡◌, cond, eqb, refl, sym, ap, ◌∙◌, subst, ◌⊎◌, inl, inr, arith}
use Rattle.std.proofs.lemmas.Bool.{eq-eqb, ne_eqb, cases_eq, cond-true, cond-false}
use Rattle.ig_space.specs.declared.point.Point.{Point}
use Rattle.ig_space.specs.declared.geometry.Grid.{Grid}
use Rattle.ig_space.specs.Geometry.{count}
use Rattle.ig_space.specs.Grid.{IsGrid, IsIn, cell, cell_count, number_at, size_of}
use Rattle.ig_space.specs.Cells.{number_at-below}
use Rattle.ig_graph.specs.Counts.{how_many}
use Rattle.ig_grid.specs.Sums.{sum_below}
use Rattle.ig_grid.specs.BoxGraph.{voxel_at, place_in, label_of}
use Rattle.ig_grid.specs.BoxLaws.{voxel-in, voxel-place, place-below, place-voxel}
use Rattle.ig_grid.specs.AxisLaws.{in-cell, number-in_cell, in-space}
use Rattle.ig_grid.specs.Links.{cell_of_voxel}
use Rattle.ig_grid.specs.Weights.{weight_in, weight_of_cells, passing_in, voxels_with}

-- ---- sums
pub sum-same : (f h : ℕ → ℕ) (n : ℕ) → ((i : ℕ) → i < n → f i ≡ h i) → sum_below f n ≡ sum_below h n
sum-same f h zero e = refl
sum-same f h (suc n) e = let less = sum-same f h n (λ i l. e i (omega arith)) in omega (arith, e n (omega arith), less)

sum-add : (f h : ℕ → ℕ) (n : ℕ) → sum_below (λ i. f i + h i) n ≡ sum_below f n + sum_below h n
sum-add f h zero = omega arith
sum-add f h (suc n) = omega (arith, sum-add f h n)

sum-none : (f : ℕ → ℕ) (n : ℕ) → ((i : ℕ) → i < n → f i ≡ 0) → sum_below f n ≡ 0
sum-none f zero e = refl
sum-none f (suc n) e = omega (arith, sum-none f n (λ i l. e i (omega arith)), e n (omega arith))

-- what f has at k alone
abbrev at_only : ℕ → ℕ → ℕ → ℕ
at_only k w i = cond (eqb i k) w 0

at-own : (k w i : ℕ) → i ≡ k → at_only k w i ≡ w
at-own k w i e = cond-true (eqb i k) w 0 (eq-eqb i k e)

at-other : (k w i : ℕ) → (i ≡ k → ⊥) → at_only k w i ≡ 0
at-other k w i n = cond-false (eqb i k) w 0 (ne_eqb i k n)

-- without what f has at k
abbrev but_at : (ℕ → ℕ) → ℕ → ℕ → ℕ
but_at f k i = cond (eqb i k) 0 (f i)

but-own : (f : ℕ → ℕ) (k i : ℕ) → i ≡ k → but_at f k i ≡ 0
but-own f k i e = cond-true (eqb i k) 0 (f i) (eq-eqb i k e)

but-other : (f : ℕ → ℕ) (k i : ℕ) → (i ≡ k → ⊥) → but_at f k i ≡ f i
but-other f k i n = cond-false (eqb i k) 0 (f i) (ne_eqb i k n)

sum_one-more : (f : ℕ → ℕ) (k n : ℕ) → k < suc n → (k < n → sum_below f n ≡ f k + sum_below (but_at f k) n) → (n ≡ k) ⊎ (n ≡ k → ⊥)
    → sum_below f (suc n) ≡ f k + sum_below (but_at f k) (suc n)
sum_one-more f k n l less (inl e) =
    let rest = sum-same f (but_at f k) n (λ i below. sym (but-other f k i (λ s. absurd (omega arith)))) in
    omega (arith, rest, but-own f k n e, ap f e)
sum_one-more f k n l less (inr o) = omega (arith, less (omega arith), but-other f k n o)

-- one number's share
sum-but : (f : ℕ → ℕ) (k n : ℕ) → k < n → sum_below f n ≡ f k + sum_below (but_at f k) n
sum-but f k zero l = absurd (omega arith)
sum-but f k (suc n) l = sum_one-more f k n l (λ h. sum-but f k n h) (cases_eq n k)

sum-only : (k w n : ℕ) → k < n → sum_below (at_only k w) n ≡ w
sum-only k w n l =
    let rest = sum-none (but_at (at_only k w) k) n (λ i below. only_but i (cases_eq i k)) in
    omega (arith, sum-but (at_only k w) k n l, at-own k w k refl, rest)
  where
    only_but : (i : ℕ) → (i ≡ k) ⊎ (i ≡ k → ⊥) → but_at (at_only k w) k i ≡ 0
    only_but i (inl e) = but-own (at_only k w) k i e
    only_but i (inr n) = but-other (at_only k w) k i n ∙ at-other k w i n

-- f takes each number below n that has something to one below m that has no less, and no two of them to the same.
record IsCarried (has : ℕ → ℕ) (n : ℕ) (gets : ℕ → ℕ) (m : ℕ) (f : ℕ → ℕ) : Type 0 where
  below : (i : ℕ) → i < n → 0 < has i → f i < m
  fits : (i : ℕ) → i < n → 0 < has i → has i ≤ gets (f i)
  apart : (i j : ℕ) → i < n → j < n → 0 < has i → 0 < has j → f i ≡ f j → i ≡ j

carried_one : (has : ℕ → ℕ) (n : ℕ) (gets : ℕ → ℕ) (m : ℕ) (f : ℕ → ℕ) → ((r : ℕ → ℕ) → IsCarried has n r m f → sum_below has n ≤ sum_below r m)
    → IsCarried has (suc n) gets m f → (has n ≡ 0) ⊎ (has n ≡ 0 → ⊥) → sum_below has (suc n) ≤ sum_below gets m
carried_one has n gets m f less is (inl e) =
    let rest = less gets (record {
      below = λ i l h. is.below i (omega arith) h;
      fits = λ i l h. is.fits i (omega arith) h;
      apart = λ i j li lj hi hj s. is.apart i j (omega arith) (omega arith) hi hj s;
    }) in
    omega (arith, rest)
carried_one has n gets m f less is (inr o) =
    let some : 0 < has n = omega arith in
    let k = f n in
    let rest = less (but_at gets k) (record {
      below = λ i l h. is.below i (omega arith) h;
      fits = λ i l h.
          let other = but-other gets k (f i) (λ s. absurd (omega (arith, is.apart i n (omega arith) (omega arith) h some s))) in
          omega (arith, other, is.fits i (omega arith) h);
      apart = λ i j li lj hi hj s. is.apart i j (omega arith) (omega arith) hi hj s;
    }) in
    omega (arith, rest, sum-but gets k m (is.below n (omega arith) some), is.fits n (omega arith) some)

carried : (has : ℕ → ℕ) (n : ℕ) (gets : ℕ → ℕ) (m : ℕ) (f : ℕ → ℕ) → IsCarried has n gets m f → sum_below has n ≤ sum_below gets m
carried has zero gets m f is = omega arith
carried has (suc n) gets m f is = carried_one has n gets m f (λ r h. carried has n r m f h) is (cases_eq (has n) 0)

-- ---- a sum by cells
-- what a number has where its cell is k
abbrev of_cell : (ℕ → ℕ) → (ℕ → ℕ) → ℕ → ℕ → ℕ
of_cell where_it f k p = cond (eqb k (where_it p)) (f p) 0

by_cells : (where_it f : ℕ → ℕ) (n cells : ℕ) → ((p : ℕ) → p < n → where_it p < cells)
    → sum_below f n ≡ sum_below (λ k. sum_below (of_cell where_it f k) n) cells
by_cells where_it f zero cells below = sym (sum-none (λ k. 0) cells (λ i l. refl))
by_cells where_it f (suc n) cells below =
    let less = by_cells where_it f n cells (λ p l. below p (omega arith)) in
    let one = sum-only (where_it n) (f n) cells (below n (omega arith)) in
    omega (arith, less, one, sum-add (λ k. sum_below (of_cell where_it f k) n) (at_only (where_it n) (f n)) cells)

of-own : (where_it f : ℕ → ℕ) (k p : ℕ) → k ≡ where_it p → of_cell where_it f k p ≡ f p
of-own where_it f k p e = cond-true (eqb k (where_it p)) (f p) 0 (eq-eqb k (where_it p) e)

of_some : (where_it f : ℕ → ℕ) (k p : ℕ) → 0 < of_cell where_it f k p → (k ≡ where_it p) ⊎ (k ≡ where_it p → ⊥) → k ≡ where_it p
of_some where_it f k p h (inl e) = e
of_some where_it f k p h (inr n) = absurd (omega (arith, cond-false {A = ℕ} (eqb k (where_it p)) (f p) 0 (ne_eqb k (where_it p) n)))

module _ (weight : Point → ℕ) (g : Grid) (grid : IsGrid g) (k : ℕ) (below : k < cell_count g) where
  -- what a voxel of the whole weighs in the cell, and what a voxel of the cell does
  abbrev whole_weight : ℕ → ℕ
  whole_weight p = of_cell (cell_of_voxel g) (λ q. weight (voxel_at g.space q)) k p

  abbrev cell_weight : ℕ → ℕ
  cell_weight i = weight (voxel_at (cell g k) i)

  its-cell : (p : ℕ) → 0 < whole_weight p → k ≡ cell_of_voxel g p
  its-cell p h = of_some (cell_of_voxel g) (λ q. weight (voxel_at g.space q)) k p h (cases_eq k (cell_of_voxel g p))

  in-its_cell : (p : ℕ) → p < count (size_of g.space) → 0 < whole_weight p → IsIn (cell g k) (voxel_at g.space p).x (voxel_at g.space p).y (voxel_at g.space p).z
  in-its_cell p l h =
      subst (λ j. IsIn (cell g j) (voxel_at g.space p).x (voxel_at g.space p).y (voxel_at g.space p).z) (sym (its-cell p h)) (in-cell g grid (voxel_at g.space p) (voxel-in g.space p l))

  to-whole : (i : ℕ) → i < count (size_of (cell g k)) → IsIn g.space (voxel_at (cell g k) i).x (voxel_at (cell g k) i).y (voxel_at (cell g k) i).z
  to-whole i l = in-space g grid k (voxel_at (cell g k) i) below (voxel-in (cell g k) i l)

  out-voxel : (i : ℕ) → i < count (size_of (cell g k)) → voxel_at g.space (place_in g.space (voxel_at (cell g k) i)) ≡ voxel_at (cell g k) i
  out-voxel i l = voxel-place g.space (voxel_at (cell g k) i) (to-whole i l)

  out-cell : (i : ℕ) → i < count (size_of (cell g k)) → k ≡ cell_of_voxel g (place_in g.space (voxel_at (cell g k) i))
  out-cell i l =
      sym (ap (λ (a : Point). number_at g a.x a.y a.z) (out-voxel i l) ∙ number-in_cell g k (voxel_at (cell g k) i) below (voxel-in (cell g k) i l))

  out-weight : (i : ℕ) → i < count (size_of (cell g k)) → whole_weight (place_in g.space (voxel_at (cell g k) i)) ≡ cell_weight i
  out-weight i l =
      of-own (cell_of_voxel g) (λ q. weight (voxel_at g.space q)) k (place_in g.space (voxel_at (cell g k) i)) (out-cell i l) ∙ ap weight (out-voxel i l)

  into-cell : sum_below whole_weight (count (size_of g.space)) ≤ sum_below cell_weight (count (size_of (cell g k)))
  into-cell = carried whole_weight (count (size_of g.space)) cell_weight (count (size_of (cell g k))) (λ p. place_in (cell g k) (voxel_at g.space p)) (record {
    below = λ p l h. place-below (cell g k) (voxel_at g.space p) (in-its_cell p l h);
    fits = λ p l h.
        let own = of-own (cell_of_voxel g) (λ q. weight (voxel_at g.space q)) k p (its-cell p h) in
        let same = ap weight (voxel-place (cell g k) (voxel_at g.space p) (in-its_cell p l h)) in
        omega (arith, own, same);
    apart = λ p q lp lq hp hq e.
        let same = sym (voxel-place (cell g k) (voxel_at g.space p) (in-its_cell p lp hp)) ∙ ap (voxel_at (cell g k)) e ∙ voxel-place (cell g k) (voxel_at g.space q) (in-its_cell q lq hq) in
        sym (place-voxel g.space p) ∙ ap (place_in g.space) same ∙ place-voxel g.space q;
  })

  out-of_cell : sum_below cell_weight (count (size_of (cell g k))) ≤ sum_below whole_weight (count (size_of g.space))
  out-of_cell = carried cell_weight (count (size_of (cell g k))) whole_weight (count (size_of g.space)) (λ i. place_in g.space (voxel_at (cell g k) i)) (record {
    below = λ i l h. place-below g.space (voxel_at (cell g k) i) (to-whole i l);
    fits = λ i l h. omega (arith, out-weight i l);
    apart = λ i j li lj hi hj e.
        let same = sym (out-voxel i li) ∙ ap (voxel_at g.space) e ∙ out-voxel j lj in
        sym (place-voxel (cell g k) i) ∙ ap (place_in (cell g k)) same ∙ place-voxel (cell g k) j;
  })

  pub cell-share : sum_below whole_weight (count (size_of g.space)) ≡ sum_below cell_weight (count (size_of (cell g k)))
  cell-share = omega (arith, into-cell, out-of_cell)

pub weights-add : (weight : Point → ℕ) (g : Grid) → IsGrid g → weight_in weight g.space ≡ weight_of_cells weight g
weights-add weight g grid =
    by_cells (cell_of_voxel g) (λ p. weight (voxel_at g.space p)) (count (size_of g.space)) (cell_count g)
    (λ p l. number_at-below g grid (voxel_at g.space p).x (voxel_at g.space p).y (voxel_at g.space p).z (voxel-in g.space p l))
    ∙ sum-same (λ k. sum_below (of_cell (cell_of_voxel g) (λ p. weight (voxel_at g.space p)) k) (count (size_of g.space))) (λ k. weight_in weight (cell g k)) (cell_count g) (λ k l. cell-share weight g grid k l)

-- ---- numbers of voxels
abbrev one_if : Bool → ℕ
one_if true = 1
one_if false = 0

count_step : (test : ℕ → Bool) (n : ℕ) (b : Bool) → how_many test n ≡ sum_below (λ i. one_if (test i)) n
    → cond b (suc (how_many test n)) (how_many test n) ≡ sum_below (λ i. one_if (test i)) n + one_if b
count_step test n true e = omega (arith, e)
count_step test n false e = omega (arith, e)

count-sum : (test : ℕ → Bool) (n : ℕ) → how_many test n ≡ sum_below (λ i. one_if (test i)) n
count-sum test zero = refl
count-sum test (suc n) = count_step test n (test n) (count-sum test n)

pub passing-add : (test : Point → Bool) (g : Grid) → IsGrid g → passing_in test g.space ≡ sum_below (λ k. passing_in test (cell g k)) (cell_count g)
passing-add test g grid =
    count-sum (λ p. test (voxel_at g.space p)) (count (size_of g.space)) ∙ weights-add (λ a. one_if (test a)) g grid
    ∙ sum-same (λ k. weight_in (λ a. one_if (test a)) (cell g k)) (λ k. passing_in test (cell g k)) (cell_count g) (λ k l. sym (count-sum (λ p. test (voxel_at (cell g k) p)) (count (size_of (cell g k)))))

pub labels-add : (volume : ℕ → ℕ → ℕ → ℕ) (g : Grid) → IsGrid g → (label : ℕ)
    → voxels_with volume g.space label ≡ sum_below (λ k. voxels_with volume (cell g k) label) (cell_count g)
labels-add volume g grid label = passing-add (λ a. eqb (label_of volume a) label) g grid
