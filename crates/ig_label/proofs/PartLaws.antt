-- The numbers of classes of runs are the parts of voxels.
use Rattle.std.proofs.Common.{ℕ, zero, suc, ◌<◌, ◌≤◌, ◌^◌, ◌≡◌, eqb, ◌&&◌, Bool, true, false, List, [], ◌∷◌, ◌++◌, length, get_or, map, replicate, refl, sym, ap, ◌∙◌, subst, ◌⊎◌, inl, inr, arith}
use Rattle.std.specs.List.{range_with_len}
use Rattle.std.proofs.lemmas.Bool.{cases_Bool, false≢true}
use Rattle.std.proofs.lemmas.List.{map_push, get_or-replicate, length-replicate}
use Rattle.std.proofs.lemmas.List.FromFn.{fill_by_all}
use Rattle.ig_space.specs.Geometry.{count}
use Rattle.ig_space.specs.Volume.{Voxels}
use Rattle.ig_graph.specs.Counts.{how_many, those_below}
use Rattle.ig_graph.specs.CountLaws.{length-those_below, those_below-pass, those_below-fail}
use Rattle.ig_graph.specs.Graph.{is_in, least, is_root, part_of}
use Rattle.ig_graph.specs.Sets.{AreClasses}
use Rattle.ig_graph.specs.LeastLaws.{least-self, least-below, least-least_same, part-is, part-none}
use Rattle.ig_graph.specs.QuotientLaws.{firsts_by, part_by}
use Rattle.ig_label.specs.declared.rows.Run.{Run}
use Rattle.ig_label.specs.VoxelGraph.{label_at, voxel_graph}
use Rattle.ig_label.specs.Runs.{run_at, AreRuns}
use Rattle.ig_label.specs.RunGraph.{run_graph}
use Rattle.ig_label.specs.Joining.{AreAscending}
use Rattle.ig_label.specs.Numbering.{is_first, AreLeast, number_in, firsts_in, values_in}
use Rattle.ig_label.specs.Painting.{ArePainted}
use Rattle.ig_label.proofs.ClassLaws.{runs-symmetric, run-in}
use Rattle.ig_label.proofs.QuotientOfRuns.{HasRuns, run_of, first_of, in-node, run-below, run-has, runs-numbered, runs-ordered}

-- ---- few runs
run-first : (width : ℕ) (labels : List ℕ) (runs : List Run) → AreRuns width labels runs → (i : ℕ) → i < length runs → i ≤ (run_at runs i).first
run-first width labels runs are zero l = omega arith
run-first width labels runs are (suc i) l =
    omega (arith, run-first width labels runs are i (omega arith), are.ascend i (suc i) (omega arith) l, (are.each i (omega arith)).some)

run-count : (width : ℕ) (labels : List ℕ) (runs : List Run) (n : ℕ) → AreRuns width labels runs → length runs ≡ n → n ≤ length labels
run-count width labels runs zero are e = omega arith
run-count width labels runs (suc n) are e =
    let last : n < length runs = omega arith in
    omega (arith, run-first width labels runs are n last, are.within n last, (are.each n last).some)

pub runs-ascending : (width : ℕ) (labels : List ℕ) (runs : List Run) → length labels ≤ 2 ^ 24 → AreRuns width labels runs → AreAscending runs
runs-ascending width labels runs small are = record {
  some = λ i l. (are.each i l).some;
  ascend = are.ascend;
  within = λ i l. omega (arith, are.within i l);
  few = omega (arith, run-count width labels runs (length runs) are refl);
}

-- ---- lists of numbers that pass
those_step : (s t : ℕ → Bool) (n : ℕ) (b : Bool) → s n ≡ b → t n ≡ b → those_below s n ≡ those_below t n → those_below s (suc n) ≡ those_below t (suc n)
those_step s t n true es et h = those_below-pass s n es ∙ ap (λ xs. xs ++ n ∷ []) h ∙ sym (those_below-pass t n et)
those_step s t n false es et h = those_below-fail s n es ∙ h ∙ sym (those_below-fail t n et)

those-same : (s t : ℕ → Bool) (n : ℕ) → ((i : ℕ) → i < n → s i ≡ t i) → those_below s n ≡ those_below t n
those-same s t zero h = refl
those-same s t (suc n) h = those_step s t n (t n) (h n (omega arith)) refl (those-same s t n (λ i l. h i (omega arith)))

count-same : (s t : ℕ → Bool) (n : ℕ) → ((i : ℕ) → i < n → s i ≡ t i) → how_many s n ≡ how_many t n
count-same s t n h = sym (length-those_below s n) ∙ ap length (those-same s t n h) ∙ length-those_below t n

map_step : (f g : ℕ → ℕ) (t : ℕ → Bool) (n : ℕ) (b : Bool) → t n ≡ b → f n ≡ g n → map f (those_below t n) ≡ map g (those_below t n) → map f (those_below t (suc n)) ≡ map g (those_below t (suc n))
map_step f g t n true e here h =
    ap (map f) (those_below-pass t n e) ∙ map_push f (those_below t n) n ∙ ap (λ xs. xs ++ f n ∷ []) h ∙ ap (λ x. map g (those_below t n) ++ x ∷ []) here
    ∙ sym (map_push g (those_below t n) n) ∙ ap (map g) (sym (those_below-pass t n e))
map_step f g t n false e here h = ap (map f) (those_below-fail t n e) ∙ h ∙ ap (map g) (sym (those_below-fail t n e))

map-those : (f g : ℕ → ℕ) (t : ℕ → Bool) (n : ℕ) → ((i : ℕ) → i < n → f i ≡ g i) → map f (those_below t n) ≡ map g (those_below t n)
map-those f g t zero h = refl
map-those f g t (suc n) h = map_step f g t n (t n) refl (h n (omega arith)) (map-those f g t n (λ i l. h i (omega arith)))

map-twice : (f g : ℕ → ℕ) (xs : List ℕ) → map g (map f xs) ≡ map (λ x. g (f x)) xs
map-twice f g [] = refl
map-twice f g (x ∷ xs) = ap (λ ys. g (f x) ∷ ys) (map-twice f g xs)

-- ---- classes
module _ (v : Voxels) (runs : List Run) (has : HasRuns v runs) (classes : List ℕ) (are : AreClasses (run_graph v.size runs) classes) where
  pub classes-least : AreLeast classes
  classes-least = record {
    low = λ i l. let below = run_below i l in omega (arith, are.least i below, least-self (run_graph v.size runs) i below);
    again = λ i l.
        let below = run_below i l in
        let m_below = least-below (run_graph v.size runs) i below in
        ap (λ k. get_or classes k 0) (are.least i below) ∙ are.least (least (run_graph v.size runs) i) m_below
        ∙ least-least_same (run_graph v.size runs) (runs-symmetric v.size runs) i below ∙ sym (are.least i below);
  } where
    run_below : (i : ℕ) → i < length classes → i < length runs
    run_below i l = subst (λ n. i < n) are.length l

  first-root : (i : ℕ) → i < length runs → is_first classes i ≡ is_root (run_graph v.size runs) i
  first-root i l =
      ap (λ c. eqb c i) (are.least i l) ∙ ap (λ b. b && eqb (least (run_graph v.size runs) i) i) (sym (run-in v.size runs i l))

  part-number : (i : ℕ) → i < length runs → number_in classes i ≡ part_of (run_graph v.size runs) i
  part-number i l =
      let low = least-self (run_graph v.size runs) i l in
      ap (λ c. suc (how_many (is_first classes) c)) (are.least i l)
      ∙ ap suc (count-same (is_first classes) (is_root (run_graph v.size runs)) (least (run_graph v.size runs) i) (λ j lj. first-root j (omega arith)))
      ∙ sym (part-is (run_graph v.size runs) i (run-in v.size runs i l))

  pub all-firsts : firsts_in runs classes (length runs) ≡ those_below (is_root (voxel_graph v)) (count v.size)
  all-firsts =
      ap (map (first_of runs)) (those-same (is_first classes) (is_root (run_graph v.size runs)) (length runs) first-root)
      ∙ firsts_by (voxel_graph v) (run_graph v.size runs) (run_of runs) (first_of runs) (runs-numbered v runs has) (runs-ordered v runs has)

  run-label : (i : ℕ) → i < length runs → (run_at runs i).label ≡ label_at v (run_at runs i).first
  run-label i l =
      let run = has.are.each i l in
      sym (run.same (run_at runs i).first (record { from = omega arith; to = omega (arith, run.some) }))

  pub all-values : values_in runs classes (length runs) ≡ map (label_at v) (firsts_in runs classes (length runs))
  all-values =
      map-those (λ i. (run_at runs i).label) (λ i. label_at v (run_at runs i).first) (is_first classes) (length runs) run-label
      ∙ sym (map-twice (first_of runs) (label_at v) (those_below (is_first classes) (length runs)))

  module _ (parts : List ℕ) (local : List ℕ) (numbers : (i : ℕ) → i < length runs → get_or parts i 0 ≡ number_in classes i)
      (painted : ArePainted runs parts (length runs) (replicate (count v.size) 0) local) where
    local_at : (p : ℕ) → p < count v.size → (is_in (voxel_graph v) p ≡ true) ⊎ (is_in (voxel_graph v) p ≡ false) → get_or local p 0 ≡ part_of (voxel_graph v) p
    local_at p l (inl hp) =
        let below = run-below v runs has p hp in
        painted.inside (run_of runs p) p below below (run-has v runs has p hp) ∙ numbers (run_of runs p) below ∙ part-number (run_of runs p) below
        ∙ part_by (voxel_graph v) (run_graph v.size runs) (run_of runs) (first_of runs) (runs-numbered v runs has) (runs-ordered v runs has) p hp
    local_at p l (inr out) =
        painted.outside p (λ i less li w. false≢true (sym out ∙ in-node v runs has i p li w))
        ∙ get_or-replicate (count v.size) p 0 0 l ∙ sym (part-none (voxel_graph v) p out)

    pub all-local : local ≡ map (part_of (voxel_graph v)) (range_with_len 0 (count v.size))
    all-local =
        fill_by_all (part_of (voxel_graph v)) local (count v.size) 0 (painted.size ∙ length-replicate (count v.size) 0)
        (λ p l. local_at p l (cases_Bool (is_in (voxel_graph v) p)))

-- the same for lists that are these
module _ (v : Voxels) (runs : List Run) (has : HasRuns v runs) (classes : List ℕ) (are : AreClasses (run_graph v.size runs) classes) where
  pub local-is : (rs rs' : List Run) (cs numbers parts start local : List ℕ) → rs ≡ runs → rs' ≡ runs → cs ≡ classes
      → ((i : ℕ) → i < length rs → get_or numbers i 0 ≡ number_in cs i) → parts ≡ numbers → start ≡ replicate (count v.size) 0
      → ArePainted rs' parts (length rs') start local → local ≡ map (part_of (voxel_graph v)) (range_with_len 0 (count v.size))
  local-is rs rs' cs numbers parts start local er er' ec h ep es painted =
      all-local v runs has classes are parts local
      (λ i l. ap (λ ps. get_or ps i 0) ep ∙ h i (subst (λ n. i < n) (ap length (sym er)) l) ∙ ap (λ xs. number_in xs i) ec)
      (subst (λ s. ArePainted runs parts (length runs) s local) es (subst (λ (xs : List Run). ArePainted xs parts (length xs) start local) er' painted))

  pub values-are : (rs : List Run) (cs : List ℕ) → rs ≡ runs → cs ≡ classes → values_in rs cs (length rs) ≡ map (label_at v) (firsts_in rs cs (length rs))
  values-are rs cs er ec =
      subst (λ (xs : List Run). values_in xs cs (length xs) ≡ map (label_at v) (firsts_in xs cs (length xs))) (sym er)
      (subst (λ xs. values_in runs xs (length runs) ≡ map (label_at v) (firsts_in runs xs (length runs))) (sym ec) (all-values v runs has classes are))
