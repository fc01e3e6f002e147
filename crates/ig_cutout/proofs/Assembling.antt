-- Labels of a box grow by those of one chunk after the other.
use Rattle.std.proofs.Common.{arith, ◌≡◌, ◌<◌, ◌+◌, ◌⊎◌, inl, inr, ℕ, true, Bool, if◌then◌else◌, List, [], ◌++◌, length, drop, take, get_or, slice_index, Option, None, Some, refl, ap, sym, ◌∙◌, subst}
use Rattle.std.proofs.Math.Nat.{eq-or-lt_of_le}
use Rattle.std.proofs.Math.Seq.{take-append_seam, take-length}
use Rattle.ig_space.specs.declared.point.Box3.{Box3}
use Rattle.ig_space.specs.declared.geometry.Geometry.{Geometry}
use Rattle.ig_space.specs.declared.place.Place.{Place}
use Rattle.ig_space.specs.Cells.{IsIn-is_in, cell_at-in}
use Rattle.ig_space.specs.Chunk.{chunk_path}
use Rattle.ig_space.specs.Chunks.{chunks_in}
use Rattle.ig_space.specs.Geometry.{Fits-from, count, geometry_fits}
use Rattle.ig_space.specs.Grid.{IsGrid, IsIn, IsWithin, cell_count, chunks_of, hull, is_in, number_at, point_at, size_of, space_of}
use Rattle.ig_space.specs.HullCells.{hull-numbers}
use Rattle.ig_space.specs.Raw.{AllFit}
use Rattle.ig_layer.specs.Faults.{chunk_at, fault_in}
use Rattle.ig_layer.specs.Layer.{label_in, volume_at}
use Rattle.ig_layer.specs.Listed.{all_listed-is}
use Rattle.ig_layer.specs.Texts.{label_by_number, labels_in}
use Rattle.ig_cutout.specs.declared.types.Input.{Input}
use Rattle.ig_cutout.specs.Inputs.{HoldsAll, paths_of}
use Rattle.ig_cutout.specs.Pasted.{IsAdded, IsAssembled, place_at}
use Rattle.ig_cutout.proofs.Chunks.{cells-apart, inputs-count}
use Rattle.ig_cutout.proofs.FirstFault.{found-in}
use Rattle.ig_cutout.proofs.Places.{numbered, within-in}

-- ---- one chunk more
sound-more : (place : Place) (area : Box3) (inputs : List Input) (n k : ℕ) (e d : Input) (found : Option (List ℕ)) (labels : List ℕ) → IsAssembled place area inputs n labels
    → (get_or inputs n d).found ≡ found → fault_in place (chunk_at place area n) found ≡ None → (k ≡ n) ⊎ (k < n)
    → fault_in place (chunk_at place area k) (get_or inputs k d).found ≡ None
sound-more place area inputs n k e d found labels kept is sound (inl last) =
    ap (λ i. fault_in place (chunk_at place area i) (get_or inputs i d).found) last ∙ ap (fault_in place (chunk_at place area n)) is ∙ sound
sound-more place area inputs n k e d found labels kept is sound (inr less) = kept.sound k d less

labels-more : (place : Place) (area : Box3) (inputs : List Input) (n k x y z : ℕ) (d : Input) (found : Option (List ℕ)) (old new : List ℕ)
    → IsGrid (chunks_of place.geometry) → IsWithin area (space_of place.geometry) → n < cell_count (hull (chunks_of place.geometry) area)
    → IsAssembled place area inputs n old → IsAdded place.geometry area (chunk_at place area n) found old new
    → (get_or inputs n d).found ≡ found → (k ≡ n) ⊎ (k < n) → IsIn area x y z → IsIn (chunk_at place area k) x y z
    → label_in place.geometry (chunk_at place area k) (get_or inputs k d).found x y z ≡ Some (slice_index new (place_at area x y z))
labels-more place area inputs n k x y z d found old new grid within below kept added is (inl last) in_area in_chunk =
    ap (λ i. label_in place.geometry (chunk_at place area i) (get_or inputs i d).found x y z) last
    ∙ ap (λ o. label_in place.geometry (chunk_at place area n) o x y z) is
    ∙ added.inside x y z in_area (subst (λ i. IsIn (chunk_at place area i) x y z) last in_chunk)
labels-more place area inputs n k x y z d found old new grid within below kept added is (inr less) in_area in_chunk =
    kept.labels_of k x y z d less in_area in_chunk
    ∙ ap Some (sym (added.outside x y z in_area (λ other. cells-apart (chunks_of place.geometry) area grid within k n x y z less below in_chunk other)))

pub assembled-more : (place : Place) (area : Box3) (inputs : List Input) (n : ℕ) (found : Option (List ℕ)) (old new : List ℕ)
    → IsGrid (chunks_of place.geometry) → IsWithin area (space_of place.geometry) → n < cell_count (hull (chunks_of place.geometry) area)
    → IsAssembled place area inputs n old → IsAdded place.geometry area (chunk_at place area n) found old new
    → ((d : Input) → (get_or inputs n d).found ≡ found) → fault_in place (chunk_at place area n) found ≡ None → AllFit place.geometry.width new
    → IsAssembled place area inputs (n + 1) new
assembled-more place area inputs n found old new grid within below kept added is sound fit = record {
  long = added.long ∙ kept.long;
  sound = λ k d less. sound-more place area inputs n k d d found old kept (is d) sound (eq-or-lt_of_le (omega arith));
  labels_of = λ k x y z d less in_area in_chunk. labels-more place area inputs n k x y z d found old new grid within below kept added (is d) (eq-or-lt_of_le (omega arith)) in_area in_chunk;
  fit = fit;
}

-- ---- the labels of all chunks are those of the files
if_true : (b : Bool) (x y : Option ℕ) → b ≡ true → (if b then x else y) ≡ x
if_true b x y e = rw e refl

pub volume_at-is : (files : List ℕ → Option (List ℕ)) (place : Place) (area : Box3) (inputs : List Input) (labels : List ℕ) (d : Input) (x y z : ℕ)
    → IsGrid (chunks_of place.geometry) → IsWithin area (space_of place.geometry) → paths_of inputs ≡ chunks_in place area → HoldsAll files inputs
    → IsAssembled place area inputs (length inputs) labels → IsIn area x y z → volume_at files place x y z ≡ Some (slice_index labels (place_at area x y z))
volume_at-is files place area inputs labels d x y z grid within paths holds all in_area =
    let g = chunks_of place.geometry in
    let numbers = hull-numbers g area grid within x y z in_area in
    let k = number_at (hull g area) x y z in
    let below : k < length inputs = omega (arith, numbers.0, inputs-count place area inputs paths) in
    let in_space = within-in area (space_of place.geometry) x y z within in_area in
    let in_chunk : IsIn (chunk_at place area k) x y z = subst (λ (c : Box3). IsIn c x y z) (sym numbers.1) (cell_at-in g grid x y z in_space) in
    if_true (is_in (space_of place.geometry) x y z) _ None (IsIn-is_in (space_of place.geometry) x y z in_space)
    ∙ ap (λ (c : Box3). label_in place.geometry c (files (chunk_path place.dir c)) x y z) (sym numbers.1)
    ∙ ap (λ o. label_in place.geometry (chunk_at place area k) o x y z) (found-in place area files inputs k d paths below holds)
    ∙ all.labels_of k x y z d below in_area in_chunk

pub labels_in-is : (files : List ℕ → Option (List ℕ)) (place : Place) (area : Box3) (inputs : List Input) (labels : List ℕ)
    → IsGrid (chunks_of place.geometry) → IsWithin area (space_of place.geometry) → paths_of inputs ≡ chunks_in place area → HoldsAll files inputs
    → IsAssembled place area inputs (length inputs) labels → labels_in (volume_at files place) area ≡ Some labels
labels_in-is files place area inputs labels grid within paths holds all =
    let size = size_of area in
    let d : Input = record { path = []; found = None } in
    let each : (k : ℕ) → k < count size → label_by_number (volume_at files place) area k ≡ Some (slice_index labels k)
    = λ k below.
    let p = point_at size k in
    let v = numbered area k within.x_some within.y_some below in
    volume_at-is files place area inputs labels d (area.lo.x + p.x) (area.lo.y + p.y) (area.lo.z + p.z) grid within paths holds all v.in_box
    ∙ ap (λ n. Some (slice_index labels n)) v.place in
    all_listed-is (label_by_number (volume_at files place) area) (count size) labels (omega (arith, all.long)) each
    ∙ ap (λ n. Some (take n labels)) (sym all.long) ∙ ap Some (take-length labels)

-- ---- the grid of the chunks is one
pub chunks-grid : (g : Geometry) → geometry_fits g ≡ true → IsGrid (chunks_of g)
chunks-grid g fits =
    let f = Fits-from g fits in
    record {
      x_step = f.x_step;
      y_step = f.y_step;
      z_step = f.z_step;
      x_order = omega arith;
      y_order = omega arith;
      z_order = omega arith;
      x_small = f.x_ends;
      y_small = f.y_ends;
      z_small = f.z_ends;
    }

-- labels that were written over as many
pub written-over : (old new : List ℕ) → length new ≡ length old → take (length old) (new ++ drop (length new) old) ≡ new
written-over old new long =
    rw (sym long) (take-append_seam new (drop (length new) old))
