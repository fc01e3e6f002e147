-- Labels of a chunk that were laid into those of an area, by coordinates.
use Rattle.std.proofs.Common.{arith, ◌≡◌, ◌+◌, ◌-◌, ℕ, List, slice_index, refl, ap, sym, ◌∙◌, subst}
use Rattle.ig_space.specs.declared.point.Box3.{Box3}
use Rattle.ig_space.specs.declared.geometry.Width.{Width}
use Rattle.ig_space.specs.declared.geometry.Encoding.{Encoding}
use Rattle.ig_space.specs.declared.geometry.Encoding.TheVariants.{Raw}
use Rattle.ig_space.specs.Grid.{IsIn, IsWithin, Meets, size_of}
use Rattle.ig_space.specs.Volume.{IsInside}
use Rattle.ig_layer.specs.Layer.{label_of}
use Rattle.ig_cutout.specs.Area.{common, layout_of, place_in}
use Rattle.ig_cutout.specs.Laid.{IsLaid, number_in}
use Rattle.ig_cutout.specs.Pasted.{IsCopied, IsPasted, place_at}
use Rattle.ig_cutout.proofs.Places.{IsSameVoxel, common-in, common-left, common-right, in-inside, inside-in, layout-place, place_at-apart, within-in}

same-in : (b : Box3) (x y z x' y' z' : ℕ) → IsSameVoxel x y z x' y' z' → IsIn b x' y' z' → IsIn b x y z
same-in b x y z x' y' z' same h = record {
  x_from = omega (arith, same.x_is, h.x_from);
  x_to = omega (arith, same.x_is, h.x_to);
  y_from = omega (arith, same.y_is, h.y_from);
  y_to = omega (arith, same.y_is, h.y_to);
  z_from = omega (arith, same.z_is, h.z_from);
  z_to = omega (arith, same.z_is, h.z_to);
}

pasted-apart : (area part chunk : Box3) (x y z i j k : ℕ) → IsWithin part area → IsWithin part chunk → IsIn area x y z → (IsIn chunk x y z → ⊥)
    → IsInside (size_of part) i j k → place_at area x y z ≡ place_in (layout_of area part) i j k → ⊥
pasted-apart area part chunk x y z i j k in_area in_chunk h out inside same =
    let v = inside-in part i j k inside in
    let ei : part.lo.x + i - part.lo.x ≡ i = omega arith in
    let ej : part.lo.y + j - part.lo.y ≡ j = omega arith in
    let ek : part.lo.z + k - part.lo.z ≡ k = omega arith in
    let place : place_in (layout_of area part) i j k ≡ place_at area (part.lo.x + i) (part.lo.y + j) (part.lo.z + k)
    = sym (ap (λ n. place_in (layout_of area part) n (part.lo.y + j - part.lo.y) (part.lo.z + k - part.lo.z)) ei
    ∙ ap (λ n. place_in (layout_of area part) i n (part.lo.z + k - part.lo.z)) ej
    ∙ ap (λ n. place_in (layout_of area part) i j n) ek)
    ∙ layout-place area part (part.lo.x + i) (part.lo.y + j) (part.lo.z + k) in_area v in
    let one = place_at-apart area x y z (part.lo.x + i) (part.lo.y + j) (part.lo.z + k) h (within-in part area _ _ _ in_area v) (same ∙ place) in
    out (same-in chunk x y z (part.lo.x + i) (part.lo.y + j) (part.lo.z + k) one (within-in part chunk _ _ _ in_chunk v))

pub copied-laid : (number : ℕ → ℕ) (area chunk : Box3) (old new : List ℕ) → Meets chunk area
    → IsLaid number (layout_of chunk (common chunk area)) (layout_of area (common chunk area)) (size_of (common chunk area)) old new
    → IsCopied number area chunk old new
copied-laid number area chunk old new meets laid =
    let part = common chunk area in
    let in_chunk = common-left chunk area meets in
    let in_area = common-right chunk area meets in
    record {
      long = laid.long;
      inside = λ x y z h k.
          let v = common-in chunk area x y z k h in
          ap (slice_index new) (sym (layout-place area part x y z in_area v))
          ∙ laid.done (x - part.lo.x) (y - part.lo.y) (z - part.lo.z) (in-inside part x y z v)
          ∙ ap number (layout-place chunk part x y z in_chunk v);
      outside = λ x y z h out.
          laid.kept (place_at area x y z) (λ i j k inside same. pasted-apart area part chunk x y z i j k in_area in_chunk h out inside same);
    }

-- the numbers at the places of the chunk's voxels are the labels that its text has
pub pasted-copied : (encoding : Encoding) (width : Width) (number : ℕ → ℕ) (area chunk : Box3) (text old new : List ℕ)
    → ((x y z : ℕ) → IsIn chunk x y z → number (place_at chunk x y z) ≡ label_of encoding width (size_of chunk) text (x - chunk.lo.x) (y - chunk.lo.y) (z - chunk.lo.z))
    → IsCopied number area chunk old new → IsPasted encoding width area chunk text old new
pasted-copied encoding width number area chunk text old new same copied = record {
  long = copied.long;
  inside = λ x y z h k. copied.inside x y z h k ∙ same x y z k;
  outside = copied.outside;
}

pub pasted-raw : (encoding : Encoding) (width : Width) (area chunk : Box3) (text old new : List ℕ) → encoding ≡ Raw
    → IsCopied (number_in width text) area chunk old new → IsPasted encoding width area chunk text old new
pasted-raw encoding width area chunk text old new raw copied =
    subst (λ e. IsPasted e width area chunk text old new) (sym raw) (pasted-copied Raw width (number_in width text) area chunk text old new (λ x y z h. refl) copied)
