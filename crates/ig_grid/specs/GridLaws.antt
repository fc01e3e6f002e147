-- The cells of a grid cut the voxels of its space into a tiling.
use Rattle.std.proofs.Common.{ℕ, ◌+◌, ◌<◌, true, ◌≡◌, ◌≢◌, not, ◌||◌, eqb, refl, sym, ap, ◌∙◌, subst, ◌⊎◌, inl, inr}
use Rattle.std.specs.Prelude.{nat_lt}
use Rattle.std.proofs.lemmas.Bool.{and_parts, and_from, or_cases, or_left, or_right, eqb-true, eqb-false, eq-eqb, ne_eqb, lt-ltb, not-true}
use Rattle.ig_space.specs.declared.point.Point.{Point}
use Rattle.ig_space.specs.declared.point.Box3.{Box3}
use Rattle.ig_space.specs.declared.geometry.Grid.{Grid}
use Rattle.ig_space.specs.Geometry.{count}
use Rattle.ig_space.specs.Grid.{IsGrid, IsIn, cell, cell_count, counts, number_at, point_at, size_of}
use Rattle.ig_space.specs.Volume.{place_of}
use Rattle.ig_space.specs.Cells.{IsPlace, cell-number_at, index_of, index_of-place, number_at-below, point_at-is}
use Rattle.ig_graph.specs.Graph.{is_in, steps, part_of}
use Rattle.ig_graph.specs.PathLaws.{in-below, steps-from, steps-to}
use Rattle.ig_grid.specs.SumLaws.{some-found, some-is}
use Rattle.ig_grid.specs.BoxGraph.{voxel_at, place_in, label_of, box_graph}
use Rattle.ig_grid.specs.BoxLaws.{place-voxel, voxel-place, place-below, voxel-in, node-label, label-node, node-in, in-node, step-alike, alike-step, box-symmetric}
use Rattle.ig_grid.specs.Tiling.{IsTiling, IsOver, part_at}
use Rattle.ig_grid.specs.Links.{Axis, x_axis, y_axis, z_axis, along, up, cell_number, is_upper, is_touching, is_linked_along, has_link, cell_of_voxel, grid_tiling, whole_graph}
use Rattle.ig_grid.specs.AxisLaws.{NextCell, same_cell, next_cell, next-cell, in-cell, number-in_cell, in-space, above-first_plane}
use Rattle.ig_grid.specs.StepLaws.{AreNext, next_up, next_down, beside-next, up-alike}
use Rattle.ig_grid.specs.OrderLaws.{cells-keep_order}

-- a link along one axis is one
linked-on : (volume : ℕ → ℕ → ℕ → ℕ) (g : Grid) (axis : Axis) (k a l b : ℕ) → is_linked_along volume g axis k a l b ≡ true → has_link volume g k a l b ≡ true
linked-on volume g x_axis k a l b h = or_left _ _ h
linked-on volume g y_axis k a l b h = or_right _ _ (or_left _ _ h)
linked-on volume g z_axis k a l b h = or_right _ _ (or_right _ _ h)

-- what a voxel that shows a link has
pub record IsTouching (volume : ℕ → ℕ → ℕ → ℕ) (axis : Axis) (box other : Box3) (part beyond i : ℕ) : Type 0 where
  pub last : along axis (voxel_at box i) + 1 ≡ along axis box.hi
  pub some : label_of volume (voxel_at box i) ≢ 0
  pub alike : label_of volume (voxel_at box i) ≡ label_of volume (up axis (voxel_at box i))
  pub own : part_of (box_graph volume box) i ≡ part
  pub others : part_of (box_graph volume other) (place_in other (up axis (voxel_at box i))) ≡ beyond

pub touching-is : (volume : ℕ → ℕ → ℕ → ℕ) (axis : Axis) (box other : Box3) (part beyond i : ℕ) → is_touching volume axis box other part beyond i ≡ true
    → IsTouching volume axis box other part beyond i
touching-is volume axis box other part beyond i h =
    let s = and_parts _ _ h in
    let t = and_parts _ _ s.1 in
    let u = and_parts _ _ t.0 in
    let v = and_parts _ _ t.1 in
    record {
      last = eqb-true (along axis (voxel_at box i) + 1) (along axis box.hi) s.0;
      some = eqb-false (label_of volume (voxel_at box i)) 0 (not-true (eqb (label_of volume (voxel_at box i)) 0) u.0);
      alike = eqb-true (label_of volume (voxel_at box i)) (label_of volume (up axis (voxel_at box i))) u.1;
      own = eqb-true (part_of (box_graph volume box) i) part v.0;
      others = eqb-true (part_of (box_graph volume other) (place_in other (up axis (voxel_at box i)))) beyond v.1;
    }

pub is-touching : (volume : ℕ → ℕ → ℕ → ℕ) (axis : Axis) (box other : Box3) (part beyond i : ℕ) → IsTouching volume axis box other part beyond i
    → is_touching volume axis box other part beyond i ≡ true
is-touching volume axis box other part beyond i w =
    and_from _ _ (eq-eqb (along axis (voxel_at box i) + 1) (along axis box.hi) w.last)
    (and_from _ _ (and_from _ _ (ap not (ne_eqb (label_of volume (voxel_at box i)) 0 w.some)) (eq-eqb (label_of volume (voxel_at box i)) (label_of volume (up axis (voxel_at box i))) w.alike))
    (and_from _ _ (eq-eqb (part_of (box_graph volume box) i) part w.own) (eq-eqb (part_of (box_graph volume other) (place_in other (up axis (voxel_at box i)))) beyond w.others)))

room-of : (axis : Axis) (i size : Point) → IsPlace (up axis i) size → along axis i + 1 < along axis size
room-of x_axis i size place = place.x
room-of y_axis i size place = place.y
room-of z_axis i size place = place.z

module _ (volume : ℕ → ℕ → ℕ → ℕ) (g : Grid) (grid : IsGrid g) where
  -- ---- a voxel of the whole, in its cell
  voxel-in_space : (p : ℕ) → is_in (whole_graph volume g) p ≡ true → IsIn g.space (voxel_at g.space p).x (voxel_at g.space p).y (voxel_at g.space p).z
  voxel-in_space p h = node-in volume g.space p h

  voxel-in_cell : (p : ℕ) → is_in (whole_graph volume g) p ≡ true → IsIn (cell g (cell_of_voxel g p)) (voxel_at g.space p).x (voxel_at g.space p).y (voxel_at g.space p).z
  voxel-in_cell p h = in-cell g grid (voxel_at g.space p) (voxel-in_space p h)

  cell-below : (p : ℕ) → is_in (whole_graph volume g) p ≡ true → cell_of_voxel g p < cell_count g
  cell-below p h = number_at-below g grid (voxel_at g.space p).x (voxel_at g.space p).y (voxel_at g.space p).z (voxel-in_space p h)

  place-in_cell : (p : ℕ) → is_in (whole_graph volume g) p ≡ true → is_in (box_graph volume (cell g (cell_of_voxel g p))) (place_in (cell g (cell_of_voxel g p)) (voxel_at g.space p)) ≡ true
  place-in_cell p h = in-node volume (cell g (cell_of_voxel g p)) (voxel_at g.space p) (voxel-in_cell p h) (node-label volume g.space p h)

  back-is : (p : ℕ) → is_in (whole_graph volume g) p ≡ true → place_in g.space (voxel_at (cell g (cell_of_voxel g p)) (place_in (cell g (cell_of_voxel g p)) (voxel_at g.space p))) ≡ p
  back-is p h = ap (place_in g.space) (voxel-place (cell g (cell_of_voxel g p)) (voxel_at g.space p) (voxel-in_cell p h)) ∙ place-voxel g.space p

  -- ---- a voxel of a cell, in the whole
  out-in_space : (k i : ℕ) → k < cell_count g → is_in (box_graph volume (cell g k)) i ≡ true → IsIn g.space (voxel_at (cell g k) i).x (voxel_at (cell g k) i).y (voxel_at (cell g k) i).z
  out-in_space k i l h = in-space g grid k (voxel_at (cell g k) i) l (node-in volume (cell g k) i h)

  back-in : (k i : ℕ) → k < cell_count g → is_in (box_graph volume (cell g k)) i ≡ true → is_in (whole_graph volume g) (place_in g.space (voxel_at (cell g k) i)) ≡ true
  back-in k i l h = in-node volume g.space (voxel_at (cell g k) i) (out-in_space k i l h) (node-label volume (cell g k) i h)

  -- the voxel is the same one
  back-voxel : (k i : ℕ) → k < cell_count g → is_in (box_graph volume (cell g k)) i ≡ true → voxel_at g.space (place_in g.space (voxel_at (cell g k) i)) ≡ voxel_at (cell g k) i
  back-voxel k i l h = voxel-place g.space (voxel_at (cell g k) i) (out-in_space k i l h)

  cell-is : (k i : ℕ) → k < cell_count g → is_in (box_graph volume (cell g k)) i ≡ true → cell_of_voxel g (place_in g.space (voxel_at (cell g k) i)) ≡ k
  cell-is k i l h =
      ap (λ (a : Point). number_at g a.x a.y a.z) (back-voxel k i l h) ∙ number-in_cell g k (voxel_at (cell g k) i) l (node-in volume (cell g k) i h)

  place-is : (k i : ℕ) → k < cell_count g → is_in (box_graph volume (cell g k)) i ≡ true
      → place_in (cell g (cell_of_voxel g (place_in g.space (voxel_at (cell g k) i)))) (voxel_at g.space (place_in g.space (voxel_at (cell g k) i))) ≡ i
  place-is k i l h =
      let e = cell-is k i l h in
      let v = back-voxel k i l h in
      (λ j. place_in (cell g (e j)) (v j)) ∙ place-voxel (cell g k) i

  -- ---- steps
  step-out : (k i j : ℕ) → k < cell_count g → steps (box_graph volume (cell g k)) i j ≡ true
      → steps (whole_graph volume g) (place_in g.space (voxel_at (cell g k) i)) (place_in g.space (voxel_at (cell g k) j)) ≡ true
  step-out k i j l s =
      let hi = steps-from (box_graph volume (cell g k)) i j s in
      let hj = steps-to (box_graph volume (cell g k)) i j s in
      alike-step volume g.space (voxel_at (cell g k) i) (voxel_at (cell g k) j) (out-in_space k i l hi) (out-in_space k j l hj)
      (node-label volume (cell g k) i hi) (node-label volume (cell g k) j hj) (step-alike volume (cell g k) i j s)

  step-in : (p q : ℕ) → steps (whole_graph volume g) p q ≡ true → cell_of_voxel g p ≡ cell_of_voxel g q
      → steps (box_graph volume (cell g (cell_of_voxel g p))) (place_in (cell g (cell_of_voxel g p)) (voxel_at g.space p)) (place_in (cell g (cell_of_voxel g q)) (voxel_at g.space q)) ≡ true
  step-in p q s e =
      let hp = steps-from (whole_graph volume g) p q s in
      let hq = steps-to (whole_graph volume g) p q s in
      let b = cell g (cell_of_voxel g p) in
      let in_b : IsIn b (voxel_at g.space q).x (voxel_at g.space q).y (voxel_at g.space q).z
      = subst (λ k. IsIn (cell g k) (voxel_at g.space q).x (voxel_at g.space q).y (voxel_at g.space q).z) (sym e) (voxel-in_cell q hq) in
      subst (λ k. steps (box_graph volume b) (place_in b (voxel_at g.space p)) (place_in (cell g k) (voxel_at g.space q)) ≡ true) e
      (alike-step volume b (voxel_at g.space p) (voxel_at g.space q) (voxel-in_cell p hp) in_b (node-label volume g.space p hp) (node-label volume g.space q hq) (step-alike volume g.space p q s))

  -- ---- between cells
  -- the cell of the point one up is the upper neighbour, where it is another cell
  upper-here : (axis : Axis) (a b : Point) → IsIn g.space a.x a.y a.z → IsIn g.space b.x b.y b.z → index_of g b.x b.y b.z ≡ up axis (index_of g a.x a.y a.z)
      → is_upper g axis (number_at g a.x a.y a.z) (number_at g b.x b.y b.z) ≡ true
  upper-here axis a b ha hb e =
      let place = index_of-place g grid a.x a.y a.z ha in
      let i = index_of g a.x a.y a.z in
      let is : point_at (counts g) (number_at g a.x a.y a.z) ≡ i = point_at-is (counts g) i.x i.y i.z place.x place.y in
      let room = room-of axis i (counts g) (subst (λ (j : Point). IsPlace j (counts g)) e (index_of-place g grid b.x b.y b.z hb)) in
      and_from _ _
      (subst (λ (j : Point). nat_lt (along axis j + 1) (along axis (counts g)) ≡ true) (sym is) (lt-ltb (along axis i + 1) (along axis (counts g)) room))
      (eq-eqb (number_at g b.x b.y b.z) (cell_number g (up axis (point_at (counts g) (number_at g a.x a.y a.z))))
      (ap (λ (j : Point). place_of (counts g) j.x j.y j.z) e ∙ ap (λ (j : Point). cell_number g (up axis j)) (sym is)))

  -- a step up into another cell shows a link
  link-here : (axis : Axis) (p q : ℕ) → is_in (whole_graph volume g) p ≡ true → is_in (whole_graph volume g) q ≡ true → voxel_at g.space q ≡ up axis (voxel_at g.space p)
      → label_of volume (voxel_at g.space p) ≡ label_of volume (voxel_at g.space q)
      → is_upper g axis (cell_of_voxel g p) (cell_of_voxel g q) ≡ true
      → along axis (voxel_at g.space p) + 1 ≡ along axis (cell g (cell_of_voxel g p)).hi
      → is_linked_along volume g axis (cell_of_voxel g p) (part_at (grid_tiling volume g) p) (cell_of_voxel g q) (part_at (grid_tiling volume g) q) ≡ true
  link-here axis p q hp hq e same upper last =
      let a = voxel_at g.space p in
      let box = cell g (cell_of_voxel g p) in
      let other = cell g (cell_of_voxel g q) in
      let i = place_in box a in
      let v = voxel-place box a (voxel-in_cell p hp) in
      let own = part_at (grid_tiling volume g) p in
      let others = part_at (grid_tiling volume g) q in
      and_from _ _ upper
      (some-is (is_touching volume axis box other own others) (count (size_of box)) i (place-below box a (voxel-in_cell p hp))
      (is-touching volume axis box other own others i (record {
        last = ap (λ (u : Point). along axis u + 1) v ∙ last;
        some = λ z. node-label volume g.space p hp (ap (label_of volume) (sym v) ∙ z);
        alike = ap (label_of volume) v ∙ same ∙ ap (label_of volume) e ∙ ap (λ (u : Point). label_of volume (up axis u)) (sym v);
        own = refl;
        others = ap (λ (u : Point). part_of (box_graph volume other) (place_in other u)) (ap (up axis) v ∙ sym e);
      })))

  cross-up : (axis : Axis) (p q : ℕ) → is_in (whole_graph volume g) p ≡ true → is_in (whole_graph volume g) q ≡ true → voxel_at g.space q ≡ up axis (voxel_at g.space p)
      → label_of volume (voxel_at g.space p) ≡ label_of volume (voxel_at g.space q) → (cell_of_voxel g p ≡ cell_of_voxel g q → ⊥)
      → NextCell g axis (voxel_at g.space p)
      → has_link volume g (cell_of_voxel g p) (part_at (grid_tiling volume g) p) (cell_of_voxel g q) (part_at (grid_tiling volume g) q) ≡ true
  cross-up axis p q hp hq e same other (same_cell i) = absurd (other (sym (ap (λ (u : Point). number_at g u.x u.y u.z) e ∙ i)))
  cross-up axis p q hp hq e same other (next_cell i last) =
      let a = voxel_at g.space p in
      let b = voxel_at g.space q in
      let upper = upper-here axis a b (voxel-in_space p hp) (voxel-in_space q hq) (ap (λ (u : Point). index_of g u.x u.y u.z) e ∙ i) in
      linked-on volume g axis (cell_of_voxel g p) (part_at (grid_tiling volume g) p) (cell_of_voxel g q) (part_at (grid_tiling volume g) q)
      (link-here axis p q hp hq e same upper (last ∙ ap (λ (c : Box3). along axis c.hi) (sym (cell-number_at g grid a.x a.y a.z (voxel-in_space p hp)))))

  next-of : (axis : Axis) (p q : ℕ) → is_in (whole_graph volume g) p ≡ true → is_in (whole_graph volume g) q ≡ true → voxel_at g.space q ≡ up axis (voxel_at g.space p) → NextCell g axis (voxel_at g.space p)
  next-of axis p q hp hq e =
      next-cell g grid axis (voxel_at g.space p) (voxel-in_space p hp) (subst (λ (u : Point). IsIn g.space u.x u.y u.z) e (voxel-in_space q hq))

  cross-next : (p q : ℕ) → is_in (whole_graph volume g) p ≡ true → is_in (whole_graph volume g) q ≡ true
      → label_of volume (voxel_at g.space p) ≡ label_of volume (voxel_at g.space q) → (cell_of_voxel g p ≡ cell_of_voxel g q → ⊥) → AreNext (voxel_at g.space p) (voxel_at g.space q)
      → (has_link volume g (cell_of_voxel g p) (part_at (grid_tiling volume g) p) (cell_of_voxel g q) (part_at (grid_tiling volume g) q) ≡ true)
      ⊎ (has_link volume g (cell_of_voxel g q) (part_at (grid_tiling volume g) q) (cell_of_voxel g p) (part_at (grid_tiling volume g) p) ≡ true)
  cross-next p q hp hq same other (next_up axis e) = inl (cross-up axis p q hp hq e same other (next-of axis p q hp hq e))
  cross-next p q hp hq same other (next_down axis e) = inr (cross-up axis q p hq hp e (sym same) (λ i. other (sym i)) (next-of axis q p hq hp e))

  cross : (p q : ℕ) → steps (whole_graph volume g) p q ≡ true → (cell_of_voxel g p ≡ cell_of_voxel g q → ⊥)
      → (has_link volume g (cell_of_voxel g p) (part_at (grid_tiling volume g) p) (cell_of_voxel g q) (part_at (grid_tiling volume g) q) ≡ true)
      ⊎ (has_link volume g (cell_of_voxel g q) (part_at (grid_tiling volume g) q) (cell_of_voxel g p) (part_at (grid_tiling volume g) p) ≡ true)
  cross p q s other =
      let a = voxel_at g.space p in
      let b = voxel_at g.space q in
      let alike = and_parts _ _ (step-alike volume g.space p q s) in
      cross-next p q (steps-from (whole_graph volume g) p q s) (steps-to (whole_graph volume g) p q s) (eqb-true (label_of volume a) (label_of volume b) alike.1) other (beside-next a b alike.0)

  -- ---- under a link
  over-along : (axis : Axis) (k a l b : ℕ) → k < cell_count g → l < cell_count g → is_linked_along volume g axis k a l b ≡ true → IsOver (grid_tiling volume g) k a l b
  over-along axis k a l b lk ll h =
      let s = and_parts _ _ h in
      let w = some-found (is_touching volume axis (cell g k) (cell g l) a b) (count (size_of (cell g k))) s.1 in
      let i = w.0 in
      let t = touching-is volume axis (cell g k) (cell g l) a b i w.2 in
      let u = voxel_at (cell g k) i in
      let v = up axis u in
      let u_in = voxel-in (cell g k) i w.1 in
      let v_in = (above-first_plane g grid axis k l u lk s.0 u_in t.last).0 in
      let v_some : label_of volume v ≢ 0 = λ z. t.some (t.alike ∙ z) in
      let step = alike-step volume g.space u v (in-space g grid k u lk u_in) (in-space g grid l v ll v_in) t.some v_some (up-alike volume axis u t.alike) in
      record {
        from = i;
        to = place_in (cell g l) v;
        from_in = label-node volume (cell g k) i w.1 t.some;
        to_in = in-node volume (cell g l) v v_in v_some;
        from_at = t.own;
        to_at = t.others;
        step = subst (λ (x : Point). steps (whole_graph volume g) (place_in g.space u) (place_in g.space x) ≡ true) (sym (voxel-place (cell g l) v v_in)) step;
      }

  over : (k a l b : ℕ) → k < cell_count g → l < cell_count g → has_link volume g k a l b ≡ true → IsOver (grid_tiling volume g) k a l b
  over k a l b lk ll h = by_case (or_cases (is_linked_along volume g x_axis k a l b) _ h) where
    by_rest : (is_linked_along volume g y_axis k a l b ≡ true) ⊎ (is_linked_along volume g z_axis k a l b ≡ true) → IsOver (grid_tiling volume g) k a l b
    by_rest (inl y) = over-along y_axis k a l b lk ll y
    by_rest (inr z) = over-along z_axis k a l b lk ll z

    by_case : (is_linked_along volume g x_axis k a l b ≡ true) ⊎ ((is_linked_along volume g y_axis k a l b || is_linked_along volume g z_axis k a l b) ≡ true) → IsOver (grid_tiling volume g) k a l b
    by_case (inl x) = over-along x_axis k a l b lk ll x
    by_case (inr r) = by_rest (or_cases (is_linked_along volume g y_axis k a l b) (is_linked_along volume g z_axis k a l b) r)

  pub grid-tiling : IsTiling (grid_tiling volume g)
  grid-tiling = record {
    both = box-symmetric volume g.space;
    tile_both = λ k. box-symmetric volume (cell g k);
    cell_below = cell-below;
    place_is_in = place-in_cell;
    back_is = back-is;
    back_is_in = back-in;
    cell_is = cell-is;
    place_is = place-is;
    steps_out = step-out;
    steps_in = step-in;
    order = λ k i j l hi hj le. cells-keep_order g grid k i j l (in-below (box_graph volume (cell g k)) i hi) (in-below (box_graph volume (cell g k)) j hj) le;
    crosses = cross;
    link_over = over;
  }
