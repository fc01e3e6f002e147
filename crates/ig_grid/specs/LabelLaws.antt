-- The labels of a box, labelled by themselves, have the box's parts.
use Rattle.std.proofs.Common.{ℕ, zero, suc, ◌<◌, ◌≤◌, Bool, true, false, ◌≡◌, not, eqb, ◌&&◌, List, [], ◌∷◌, ◌++◌, map, refl, sym, ap, ◌∙◌, subst, ◌⊎◌, inl, inr, arith}
use Rattle.std.specs.List.{range_with_len}
use Rattle.std.proofs.lemmas.Bool.{and_left, and_right, le-ltb, cases_lt}
use Rattle.std.proofs.lemmas.List.{map_push}
use Rattle.ig_space.specs.declared.point.Box3.{Box3}
use Rattle.ig_space.specs.Geometry.{count}
use Rattle.ig_space.specs.Grid.{size_of}
use Rattle.ig_space.specs.Volume.{Voxels}
use Rattle.ig_graph.specs.Counts.{those_below}
use Rattle.ig_graph.specs.CountLaws.{those_below-pass, those_below-fail}
use Rattle.ig_graph.specs.Graph.{Graph, is_in, steps, is_root, part_of}
use Rattle.ig_label.specs.VoxelGraph.{label_at, voxel_graph}
use Rattle.ig_grid.specs.BoxGraph.{voxel_at, label_of, box_graph, HaveParts}
use Rattle.ig_grid.specs.BoxLaws.{below-and, shift-beside}
use Rattle.ig_grid.specs.GraphLaws.{AreSame, part-same, roots-same}

map_step : (f g : ℕ → ℕ) (t : ℕ → Bool) (n : ℕ) (b : Bool) → t n ≡ b → f n ≡ g n → map f (those_below t n) ≡ map g (those_below t n)
    → map f (those_below t (suc n)) ≡ map g (those_below t (suc n))
map_step f g t n true e here h =
    ap (map f) (those_below-pass t n e) ∙ map_push f (those_below t n) n ∙ ap (λ xs. xs ++ f n ∷ []) h ∙ ap (λ x. map g (those_below t n) ++ x ∷ []) here
    ∙ sym (map_push g (those_below t n) n) ∙ ap (map g) (sym (those_below-pass t n e))
map_step f g t n false e here h = ap (map f) (those_below-fail t n e) ∙ h ∙ ap (map g) (sym (those_below-fail t n e))

map-those : (f g : ℕ → ℕ) (t : ℕ → Bool) (n : ℕ) → ((i : ℕ) → i < n → f i ≡ g i) → map f (those_below t n) ≡ map g (those_below t n)
map-those f g t zero h = refl
map-those f g t (suc n) h = map_step f g t n (t n) refl (h n (omega arith)) (map-those f g t n (λ i l. h i (omega arith)))

out : (g : Graph) (p : ℕ) → g.size ≤ p → is_in g p ≡ false
out g p h = and_left _ _ (le-ltb p g.size h)

no_step-from : (g : Graph) (p q : ℕ) → g.size ≤ p → steps g p q ≡ false
no_step-from g p q h = and_left _ _ (out g p h)

no_step-to : (g : Graph) (p q : ℕ) → g.size ≤ q → steps g p q ≡ false
no_step-to g p q h = and_right (is_in g p) _ (and_left _ _ (out g q h))

-- the list of the labels of a box
abbrev labels_of : Box3 → List ℕ → Voxels
labels_of b labels = record { size = size_of b; labels = labels }

module _ (volume : ℕ → ℕ → ℕ → ℕ) (b : Box3) (labels : List ℕ)
    (same : (p : ℕ) → p < count (size_of b) → label_at (labels_of b labels) p ≡ label_of volume (voxel_at b p)) where
  node-same : (p : ℕ) → is_in (voxel_graph (labels_of b labels)) p ≡ is_in (box_graph volume b) p
  node-same p =
      below-and p (count (size_of b)) (not (eqb (label_at (labels_of b labels) p) 0)) (not (eqb (label_of volume (voxel_at b p)) 0))
      (λ l. ap (λ x. not (eqb x 0)) (same p l))

  step_in : (p q : ℕ) → p < count (size_of b) → q < count (size_of b) → steps (voxel_graph (labels_of b labels)) p q ≡ steps (box_graph volume b) p q
  step_in p q lp lq =
      let np = node-same p in
      let nq = node-same q in
      let beside = shift-beside b p q in
      let ep = same p lp in
      let eq = same q lq in
      λ i. np i && (nq i && (beside i && eqb (ep i) (eq i)))

  step-same : (p q : ℕ) → steps (voxel_graph (labels_of b labels)) p q ≡ steps (box_graph volume b) p q
  step-same p q = by_case (cases_lt p (count (size_of b))) (cases_lt q (count (size_of b))) where
    by_case : (p < count (size_of b)) ⊎ (count (size_of b) ≤ p) → (q < count (size_of b)) ⊎ (count (size_of b) ≤ q)
        → steps (voxel_graph (labels_of b labels)) p q ≡ steps (box_graph volume b) p q
    by_case (inl lp) (inl lq) = step_in p q lp lq
    by_case (inl lp) (inr mq) = no_step-to (voxel_graph (labels_of b labels)) p q mq ∙ sym (no_step-to (box_graph volume b) p q mq)
    by_case (inr mp) lq = no_step-from (voxel_graph (labels_of b labels)) p q mp ∙ sym (no_step-from (box_graph volume b) p q mp)

  graphs-same : AreSame (voxel_graph (labels_of b labels)) (box_graph volume b)
  graphs-same = record { size = refl; nodes = node-same; steps_are = step-same }

  has_parts : (local firsts values : List ℕ)
      → local ≡ map (part_of (voxel_graph (labels_of b labels))) (range_with_len 0 (count (size_of b)))
      → firsts ≡ those_below (is_root (voxel_graph (labels_of b labels))) (count (size_of b))
      → values ≡ map (label_at (labels_of b labels)) firsts → HaveParts volume b local firsts values
  has_parts local firsts values el ef ev = record {
    local_are = el ∙ (λ i. map (λ p. part-same (voxel_graph (labels_of b labels)) (box_graph volume b) graphs-same p i) (range_with_len 0 (count (size_of b))));
    firsts_are = ef ∙ roots-same (voxel_graph (labels_of b labels)) (box_graph volume b) graphs-same (count (size_of b));
    values_are =
        ev ∙ ap (map (label_at (labels_of b labels))) ef
        ∙ map-those (label_at (labels_of b labels)) (λ p. label_of volume (voxel_at b p)) (is_root (voxel_graph (labels_of b labels))) (count (size_of b)) same
        ∙ ap (map (λ p. label_of volume (voxel_at b p))) (sym ef);
  }

-- what labelled lists of the labels are, where v is the box
abbrev HasItsParts : (ℕ → ℕ → ℕ → ℕ) → Box3 → List ℕ → List ℕ → List ℕ → Voxels → Type 0
HasItsParts volume b local firsts values v =
    ((p : ℕ) → p < count v.size → label_at v p ≡ label_of volume (voxel_at b p))
    → local ≡ map (part_of (voxel_graph v)) (range_with_len 0 (count v.size))
    → firsts ≡ those_below (is_root (voxel_graph v)) (count v.size)
    → values ≡ map (label_at v) firsts
    → HaveParts volume b local firsts values

pub labelled-parts : (volume : ℕ → ℕ → ℕ → ℕ) (b : Box3) (v : Voxels) (local firsts values : List ℕ) → v.size ≡ size_of b
    → ((p : ℕ) → p < count v.size → label_at v p ≡ label_of volume (voxel_at b p))
    → local ≡ map (part_of (voxel_graph v)) (range_with_len 0 (count v.size))
    → firsts ≡ those_below (is_root (voxel_graph v)) (count v.size)
    → values ≡ map (label_at v) firsts
    → HaveParts volume b local firsts values
labelled-parts volume b v local firsts values e =
    let whole : labels_of b v.labels ≡ v = λ i. record { size = sym e i; labels = v.labels } in
    subst (HasItsParts volume b local firsts values) whole (λ same. has_parts volume b v.labels same local firsts values)
