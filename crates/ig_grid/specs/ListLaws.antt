-- What the lists of a box's parts tell: each voxel's part, each part's label and first voxel, and the links to the next cell.
use Rattle.std.proofs.Common.{ℕ, zero, suc, ◌+◌, ◌-◌, ◌<◌, ◌≤◌, true, false, ◌≡◌, ◌↔◌, List, length, get_or, take, sum, refl, sym, ap, ◌∙◌, subst, ◌⊎◌, inl, inr, arith}
use Rattle.std.proofs.lemmas.Bool.{and_parts, and_from, cases_Bool, eqb-true}
use Rattle.std.proofs.lemmas.List.{get_or-map, take_all}
use Rattle.std.proofs.lemmas.List.FromFn.{get_or-map-range_with_len}
use Rattle.std.proofs.lemmas.List.Sums.{sum_by_more}
use Rattle.ig_space.specs.declared.point.Box3.{Box3}
use Rattle.ig_space.specs.declared.geometry.Grid.{Grid}
use Rattle.ig_space.specs.Geometry.{count}
use Rattle.ig_space.specs.Grid.{IsGrid, IsIn, cell, cell_count, size_of}
use Rattle.ig_graph.specs.Counts.{how_many}
use Rattle.ig_graph.specs.CountLaws.{length-those_below}
use Rattle.ig_graph.specs.Graph.{is_in, steps, is_root, least, part_of}
use Rattle.ig_graph.specs.PathLaws.{in-below, path-keeps}
use Rattle.ig_graph.specs.LeastLaws.{least-joined, no_part}
use Rattle.ig_grid.specs.Sums.{pair_rank, sum_below}
use Rattle.ig_grid.specs.SumLaws.{some-found, some-is}
use Rattle.ig_grid.specs.BoxGraph.{voxel_at, place_in, label_of, box_graph, HaveParts}
use Rattle.ig_grid.specs.BoxLaws.{box-symmetric, in-node, label-node, node-label, place-below, step-alike, voxel-in, voxel-place}
use Rattle.ig_grid.specs.Tiling.{Tiling, first_in_cell, node, parts_in, part_count}
use Rattle.ig_grid.specs.TilingLaws.{first-least, numbers_of, part-most, part-some}
use Rattle.ig_grid.specs.Links.{Axis, along, first_at, grid_tiling, up, is_upper, is_linked_along, is_touching}
use Rattle.ig_grid.specs.AxisLaws.{above-first_plane}
use Rattle.ig_grid.specs.GridLaws.{IsTouching, is-touching, touching-is}
use Rattle.ig_grid.specs.PlaneLinks.{IsPlaneLink}

-- ---- counts of parts
sum-taken : (many : ℕ → ℕ) (counts : List ℕ) (n : ℕ) → n ≤ length counts → ((k : ℕ) → k < n → get_or counts k 0 ≡ many k) → sum (take n counts) ≡ sum_below many n
sum-taken many counts zero le e = refl
sum-taken many counts (suc n) le e =
    let less = sum-taken many counts n (omega arith) (λ k l. e k (omega arith)) in
    let one : n + 1 ≡ suc n = omega arith in
    let more = sum_by_more (λ x. x) counts n 0 (omega arith) in
    let taken : sum (take (suc n) counts) ≡ sum (take (n + 1) counts) = ap (λ k. sum (take k counts)) (sym one) in
    omega (arith, taken, more, less, e n (omega arith))

pub parts-counted : (t : Tiling) (counts : List ℕ) → length counts ≡ t.cells → ((k : ℕ) → k < t.cells → get_or counts k 0 ≡ parts_in t k) → sum counts ≡ part_count t
parts-counted t counts size e =
    ap sum (sym (take_all t.cells counts (omega (arith, size)))) ∙ sum-taken (parts_in t) counts t.cells (omega (arith, size)) e

-- ---- labels of parts
step-label : (volume : ℕ → ℕ → ℕ → ℕ) (b : Box3) (p q : ℕ) → steps (box_graph volume b) p q ≡ true → label_of volume (voxel_at b p) ≡ label_of volume (voxel_at b q)
step-label volume b p q s = eqb-true (label_of volume (voxel_at b p)) (label_of volume (voxel_at b q)) (and_parts _ _ (step-alike volume b p q s)).1

least-label : (volume : ℕ → ℕ → ℕ → ℕ) (b : Box3) (p : ℕ) → is_in (box_graph volume b) p ≡ true → label_of volume (voxel_at b p) ≡ label_of volume (voxel_at b (least (box_graph volume b) p))
least-label volume b p h =
    let way = least-joined (box_graph volume b) p (in-below (box_graph volume b) p h) in
    path-keeps (box_graph volume b) (λ q. label_of volume (voxel_at b p) ≡ label_of volume (voxel_at b q)) (λ q r s e. e ∙ step-label volume b q r s) p (least (box_graph volume b) p) way.0 way.1 refl

module _ (volume : ℕ → ℕ → ℕ → ℕ) (b : Box3) (local firsts values : List ℕ) (have : HaveParts volume b local firsts values) where
  pub local-part : (p : ℕ) → p < count (size_of b) → get_or local p 0 ≡ part_of (box_graph volume b) p
  local-part p l =
      ap (λ xs. get_or xs p 0) have.local_are ∙ get_or-map-range_with_len (part_of (box_graph volume b)) 0 (count (size_of b)) p p 0 l (omega arith)

  pub first-part_least : (p : ℕ) → is_in (box_graph volume b) p ≡ true → get_or firsts (part_of (box_graph volume b) p - 1) 0 ≡ least (box_graph volume b) p
  first-part_least p h =
      ap (λ xs. get_or xs (part_of (box_graph volume b) p - 1) 0) have.firsts_are ∙ first-least (box_graph volume b) (box-symmetric volume b) p h

  pub value-label : (p : ℕ) → is_in (box_graph volume b) p ≡ true → get_or values (part_of (box_graph volume b) p - 1) 0 ≡ label_of volume (voxel_at b p)
  value-label p h =
      let r = part_of (box_graph volume b) p - 1 in
      let some = part-some (box_graph volume b) p h in
      let most = part-most (box_graph volume b) (box-symmetric volume b) p h in
      let long : length firsts ≡ how_many (is_root (box_graph volume b)) (count (size_of b)) = ap length have.firsts_are ∙ length-those_below (is_root (box_graph volume b)) (count (size_of b)) in
      ap (λ xs. get_or xs r 0) have.values_are
      ∙ get_or-map (λ q. label_of volume (voxel_at b q)) firsts r 0 0 (omega (arith, some, most, long))
      ∙ ap (λ q. label_of volume (voxel_at b q)) (first-part_least p h) ∙ sym (least-label volume b p h)

  -- what has a part is a node
  pub part-node : (p a : ℕ) → p < count (size_of b) → get_or local p 0 ≡ a → 1 ≤ a → is_in (box_graph volume b) p ≡ true
  part-node p a l e some = by_case (cases_Bool (is_in (box_graph volume b) p)) where
    by_case : (is_in (box_graph volume b) p ≡ true) ⊎ (is_in (box_graph volume b) p ≡ false) → is_in (box_graph volume b) p ≡ true
    by_case (inl h) = h
    by_case (inr n) = absurd (omega (arith, (no_part (box_graph volume b) p).1 n, local-part p l, e, some))

-- ---- links
module _ (volume : ℕ → ℕ → ℕ → ℕ) (g : Grid) (grid : IsGrid g) (axis : Axis) (k l : ℕ) (lk : k < cell_count g) (upper : is_upper g axis k l ≡ true)
    (local firsts values others seconds labels : List ℕ) (own : HaveParts volume (cell g k) local firsts values) (next : HaveParts volume (cell g l) others seconds labels) (a b : ℕ) where
  abbrev beside : ℕ → ℕ
  beside i = place_in (cell g l) (up axis (voxel_at (cell g k) i))

  beside-in : (i : ℕ) → i < count (size_of (cell g k)) → along axis (voxel_at (cell g k) i) + 1 ≡ along axis (cell g k).hi
      → IsIn (cell g l) (up axis (voxel_at (cell g k) i)).x (up axis (voxel_at (cell g k) i)).y (up axis (voxel_at (cell g k) i)).z
  beside-in i below last = (above-first_plane g grid axis k l (voxel_at (cell g k) i) lk upper (voxel-in (cell g k) i below) last).0

  shown : (i : ℕ) → i < count (size_of (cell g k)) → IsTouching volume axis (cell g k) (cell g l) a b i → IsPlaneLink axis (cell g k) (cell g l) local values others labels a b
  shown i below t =
      let u = voxel_at (cell g k) i in
      let v_in = beside-in i below t.last in
      let same = voxel-place (cell g l) (up axis u) v_in in
      let node = label-node volume (cell g k) i below t.some in
      let there = in-node volume (cell g l) (up axis u) v_in (λ z. t.some (t.alike ∙ z)) in
      record {
        own_some = subst (λ x. 1 ≤ x) t.own (part-some (box_graph volume (cell g k)) i node);
        other_some = subst (λ x. 1 ≤ x) t.others (part-some (box_graph volume (cell g l)) (beside i) there);
        place = i;
        below = below;
        last = t.last;
        own = local-part volume (cell g k) local firsts values own i below ∙ t.own;
        other_is = local-part volume (cell g l) others seconds labels next (beside i) (place-below (cell g l) (up axis u) v_in) ∙ t.others;
        same_label =
            ap (λ x. get_or values (x - 1) 0) (sym t.own) ∙ value-label volume (cell g k) local firsts values own i node ∙ t.alike ∙ ap (label_of volume) (sym same)
            ∙ sym (value-label volume (cell g l) others seconds labels next (beside i) there) ∙ ap (λ x. get_or labels (x - 1) 0) t.others;
      }

  linked : IsPlaneLink axis (cell g k) (cell g l) local values others labels a b → is_linked_along volume g axis k a l b ≡ true
  linked w =
      let i = w.place in
      let u = voxel_at (cell g k) i in
      let v_in = beside-in i w.below w.last in
      let below = place-below (cell g l) (up axis u) v_in in
      let node = part-node volume (cell g k) local firsts values own i a w.below w.own w.own_some in
      let there = part-node volume (cell g l) others seconds labels next (beside i) b below w.other_is w.other_some in
      let own_is = sym (local-part volume (cell g k) local firsts values own i w.below) ∙ w.own in
      let others_is = sym (local-part volume (cell g l) others seconds labels next (beside i) below) ∙ w.other_is in
      and_from _ _ upper
      (some-is (is_touching volume axis (cell g k) (cell g l) a b) (count (size_of (cell g k))) i w.below
      (is-touching volume axis (cell g k) (cell g l) a b i (record {
        last = w.last;
        some = node-label volume (cell g k) i node;
        alike =
            sym (value-label volume (cell g k) local firsts values own i node) ∙ ap (λ x. get_or values (x - 1) 0) own_is ∙ w.same_label ∙ ap (λ x. get_or labels (x - 1) 0) (sym others_is)
            ∙ value-label volume (cell g l) others seconds labels next (beside i) there ∙ ap (label_of volume) (voxel-place (cell g l) (up axis u) v_in);
        own = own_is;
        others = others_is;
      })))

  pub plane-links : (is_linked_along volume g axis k a l b ≡ true) ↔ IsPlaneLink axis (cell g k) (cell g l) local values others labels a b
  plane-links = (λ h. by_place (some-found (is_touching volume axis (cell g k) (cell g l) a b) (count (size_of (cell g k))) (and_parts _ _ h).1), linked) where
    by_place : (i : ℕ) × (i < count (size_of (cell g k))) × (is_touching volume axis (cell g k) (cell g l) a b i ≡ true) → IsPlaneLink axis (cell g k) (cell g l) local values others labels a b
    by_place w = shown w.0 w.1 (touching-is volume axis (cell g k) (cell g l) a b w.0 w.2)

-- ---- in the whole
-- as many first voxels as the cell has parts
pub firsts-count : (volume : ℕ → ℕ → ℕ → ℕ) (b : Box3) (local firsts values : List ℕ) → HaveParts volume b local firsts values
    → length firsts ≡ how_many (is_root (box_graph volume b)) (count (size_of b))
firsts-count volume b local firsts values have = ap length have.firsts_are ∙ length-those_below (is_root (box_graph volume b)) (count (size_of b))

-- the first voxel of a part in the whole is that of its cell
pub first-in_whole : (volume : ℕ → ℕ → ℕ → ℕ) (g : Grid) (k part : ℕ) (local firsts values : List ℕ) → k < cell_count g → HaveParts volume (cell g k) local firsts values
    → 1 ≤ part → part ≤ length firsts
    → first_at volume g (node (grid_tiling volume g) k part) ≡ place_in g.space (voxel_at (cell g k) (get_or firsts (part - 1) 0))
first-in_whole volume g k part local firsts values lk have some most =
    let t = grid_tiling volume g in
    let n = numbers_of t k part lk some (omega (arith, most, firsts-count volume (cell g k) local firsts values have)) in
    let rank : pair_rank (parts_in t) t.cells (node t k part) ≡ part - 1 = omega (arith, n.2) in
    (λ i. t.back (n.1 i) (first_in_cell t (n.1 i) (rank i)))
    ∙ ap (λ xs. place_in g.space (voxel_at (cell g k) (get_or xs (part - 1) 0))) (sym have.firsts_are)
