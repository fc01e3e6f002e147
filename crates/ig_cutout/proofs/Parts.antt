-- The labels of a box within an area.
use Rattle.std.proofs.Common.{arith, ◌≡◌, ◌≤◌, ◌<◌, ◌+◌, ◌-◌, ◌*◌, ◌⊎◌, inl, inr, ℕ, zero, suc, List, [], ◌∷◌, ◌++◌, length, take, slice_index, Option, None, Some, refl, ap, sym, ◌∙◌, subst, length-append}
use Rattle.std.proofs.Math.Nat.{mul-le-mul_left, eq-or-lt_of_le}
use Rattle.std.proofs.Math.Seq.{take-length}
use Rattle.std.proofs.lemmas.Grind.{same_number_lists}
use Rattle.std.proofs.lemmas.List.{get_or-append_right, get_or_append_left}
use Rattle.ig_space.specs.declared.point.Point.{Point}
use Rattle.ig_space.specs.declared.point.Box3.{Box3}
use Rattle.ig_space.specs.declared.geometry.Width.{Width}
use Rattle.ig_space.specs.Cells.{number-below, point_at-is}
use Rattle.ig_space.specs.Geometry.{count}
use Rattle.ig_space.specs.Grid.{IsIn, IsWithin, Meets, point_at, size_of}
use Rattle.ig_space.specs.Points.{place_of-point_at, point_at-inside}
use Rattle.ig_space.specs.Raw.{AllFit, FitsWidth}
use Rattle.ig_layer.specs.Listed.{all_listed-is}
use Rattle.ig_layer.specs.Texts.{all_listed, label_by_number, labels_in, with_last}
use Rattle.ig_cutout.specs.declared.layout.Layout.{Layout}
use Rattle.ig_cutout.specs.Area.{HasRoom, at_plane, layout_of, place_in}
use Rattle.ig_cutout.specs.Gathered.{part_of, planes_of, rows_of}
use Rattle.ig_cutout.specs.Pasted.{IsCopied, place_at}
use Rattle.ig_cutout.proofs.Gathering.{length-planes, rows-item}
use Rattle.ig_cutout.proofs.Places.{in-inside, layout-place, layout-room, numbered, within-in}
use Rattle.ig_cutout.proofs.Rows.{plane-room}

-- ---- values that are all there
pub record IsLast {A : Type 0} (front : Option (List A)) (last : Option A) (xs : List A) : Type 0 where
  pub before : List A
  pub item : A
  pub front_is : front ≡ Some before
  pub last_is : last ≡ Some item
  pub all : xs ≡ before ++ item ∷ []

last-of : {A : Type 0} (front : Option (List A)) (last : Option A) (xs : List A) → with_last front last ≡ Some xs → IsLast front last xs
last-of (Some ys) (Some y) xs is = record { before = ys; item = y; front_is = refl; last_is = refl; all = cc }
last-of (Some ys) None xs is = absurd (cc)
last-of None last xs is = absurd (cc)

pub all_listed-length : (f : ℕ → Option ℕ) (n : ℕ) (xs : List ℕ) → all_listed f n ≡ Some xs → length xs ≡ n
all_listed-length f zero xs is = let e : [] ≡ xs = cc in sym (ap length e)
all_listed-length f (suc n) xs is =
    let parts = last-of (all_listed f n) (f n) xs is in
    let front = all_listed-length f n parts.before parts.front_is in
    omega (arith, front, ap length parts.all ∙ length-append parts.before (parts.item ∷ []))

item-of : (f : ℕ → Option ℕ) (n k : ℕ) (xs ys : List ℕ) (y : ℕ) → length ys ≡ n → f n ≡ Some y → xs ≡ ys ++ y ∷ []
    → (k ≡ n) ⊎ (k < n) → (k < n → f k ≡ Some (slice_index ys k)) → f k ≡ Some (slice_index xs k)
item-of f n k xs ys y long last all (inl same) before =
    let first : k - n ≡ 0 = omega arith in
    ap f same ∙ last ∙ ap Some (sym (ap (λ zs. slice_index zs k) all ∙ get_or-append_right ys (y ∷ []) n k 0 long (omega arith) ∙ ap (λ i. slice_index (y ∷ []) i) first))
item-of f n k xs ys y long last all (inr less) before =
    before less ∙ ap Some (sym (ap (λ zs. slice_index zs k) all ∙ get_or_append_left ys (y ∷ []) 0 k (omega arith)))

pub all_listed-item : (f : ℕ → Option ℕ) (n k : ℕ) (xs : List ℕ) → all_listed f n ≡ Some xs → k < n → f k ≡ Some (slice_index xs k)
all_listed-item f zero k xs is below = absurd (omega arith)
all_listed-item f (suc n) k xs is below =
    let parts = last-of (all_listed f n) (f n) xs is in
    item-of f n k xs parts.before parts.item (all_listed-length f n parts.before parts.front_is) parts.last_is parts.all (eq-or-lt_of_le (omega arith))
    (λ less. all_listed-item f n k parts.before parts.front_is less)

-- ---- the labels of an area give those of its voxels
pub place_at-below : (area : Box3) (x y z : ℕ) → IsIn area x y z → place_at area x y z < count (size_of area)
place_at-below area x y z h =
    let i = in-inside area x y z h in
    number-below (size_of area) (record { x = x - area.lo.x; y = y - area.lo.y; z = z - area.lo.z }) (record { x = i.x_below; y = i.y_below; z = i.z_below })

pub label-at : (volume : ℕ → ℕ → ℕ → Option ℕ) (area : Box3) (labels : List ℕ) (x y z : ℕ) → labels_in volume area ≡ Some labels → IsIn area x y z
    → volume x y z ≡ Some (slice_index labels (place_at area x y z))
label-at volume area labels x y z is h =
    let i = in-inside area x y z h in
    let point = point_at-is (size_of area) (x - area.lo.x) (y - area.lo.y) (z - area.lo.z) i.x_below i.y_below in
    let ex : x ≡ area.lo.x + (x - area.lo.x) = omega (arith, h.x_from) in
    let ey : y ≡ area.lo.y + (y - area.lo.y) = omega (arith, h.y_from) in
    let ez : z ≡ area.lo.z + (z - area.lo.z) = omega (arith, h.z_from) in
    ap (λ n. volume n y z) ex ∙ ap (λ n. volume (area.lo.x + (x - area.lo.x)) n z) ey ∙ ap (λ n. volume (area.lo.x + (x - area.lo.x)) (area.lo.y + (y - area.lo.y)) n) ez
    ∙ ap (λ (p : Point). volume (area.lo.x + p.x) (area.lo.y + p.y) (area.lo.z + p.z)) (sym point)
    ∙ all_listed-item (label_by_number volume area) (count (size_of area)) (place_at area x y z) labels is (place_at-below area x y z h)

-- ---- the labels of a box within the area
plane-item : (labels : List ℕ) (layout : Layout) (size : Point) (x y z z' : ℕ) → HasRoom 1 layout size (length labels) → z < size.z → x < size.x → y < size.y
    → (z' ≡ z) ⊎ (z' < z)
    → (z' < z → slice_index (planes_of labels layout size.x size.y z) (x + size.x * (y + size.y * z')) ≡ slice_index labels (place_in layout x y z'))
    → slice_index (planes_of labels layout size.x size.y z ++ rows_of labels (at_plane layout z) size.x size.y) (x + size.x * (y + size.y * z')) ≡ slice_index labels (place_in layout x y z')
plane-item labels layout size x y z z' room z_below x_below y_below (inl last) before =
    let long = length-planes labels layout size z room (omega arith) in
    let place : x + size.x * (y + size.y * z') - size.x * size.y * z ≡ x + size.x * y = rw last (omega arith) in
    let from : layout.start + layout.plane * z + x + layout.row * y ≡ place_in layout x y z' = rw last (omega arith) in
    get_or-append_right (planes_of labels layout size.x size.y z) _ (size.x * size.y * z) (x + size.x * (y + size.y * z')) 0 long (rw last (omega arith))
    ∙ ap (slice_index (rows_of labels (at_plane layout z) size.x size.y)) place
    ∙ rows-item labels (at_plane layout z) size x y size.y (plane-room 1 layout size (length labels) z room z_below) (omega arith) x_below y_below
    ∙ ap (slice_index labels) from
plane-item labels layout size x y z z' room z_below x_below y_below (inr less) before =
    let long = length-planes labels layout size z room (omega arith) in
    let row : size.x * y + size.x ≤ size.x * size.y = let h = mul-le-mul_left size.x y_below in omega arith in
    let plane : size.x * size.y * z' + size.x * size.y ≤ size.x * size.y * z = let h = mul-le-mul_left (size.x * size.y) less in omega arith in
    get_or_append_left (planes_of labels layout size.x size.y z) _ 0 (x + size.x * (y + size.y * z')) (omega arith) ∙ before less

pub planes-item : (labels : List ℕ) (layout : Layout) (size : Point) (x y z' z : ℕ) → HasRoom 1 layout size (length labels) → z ≤ size.z → x < size.x → y < size.y → z' < z
    → slice_index (planes_of labels layout size.x size.y z) (x + size.x * (y + size.y * z')) ≡ slice_index labels (place_in layout x y z')
planes-item labels layout size x y z' zero room few x_below y_below below = absurd (omega arith)
planes-item labels layout size x y z' (suc z) room few x_below y_below below =
    plane-item labels layout size x y z z' room (omega arith) x_below y_below (eq-or-lt_of_le (omega arith)) (λ less. planes-item labels layout size x y z' z room (omega arith) x_below y_below less)

-- a part that lies in an area of these labels
pub record IsPartOf (area part : Box3) (labels : List ℕ) : Type 0 where
  pub within : IsWithin part area
  pub long : length labels ≡ count (size_of area)

part-room : (area part : Box3) (labels : List ℕ) → IsPartOf area part labels → HasRoom 1 (layout_of area part) (size_of part) (length labels)
part-room area part labels is =
    let e : 1 * count (size_of area) ≡ length labels = omega (arith, is.long) in
    subst (λ n. HasRoom 1 (layout_of area part) (size_of part) n) e (layout-room 1 area part is.within)

pub part-length : (area part : Box3) (labels : List ℕ) → IsPartOf area part labels → length (part_of area part labels) ≡ count (size_of part)
part-length area part labels is =
    length-planes labels (layout_of area part) (size_of part) (size_of part).z (part-room area part labels is) (omega arith) ∙ omega arith

-- the label of a voxel of the part is the one that the area has
pub part-item : (area part : Box3) (labels : List ℕ) (k : ℕ) → IsPartOf area part labels → k < count (size_of part)
    → slice_index (part_of area part labels) k
    ≡ slice_index labels (place_at area (part.lo.x + (point_at (size_of part) k).x) (part.lo.y + (point_at (size_of part) k).y) (part.lo.z + (point_at (size_of part) k).z))
part-item area part labels k is below =
    let size = size_of part in
    let p = point_at size k in
    let inside = point_at-inside size k (omega (arith, is.within.x_some)) (omega (arith, is.within.y_some)) below in
    let v = numbered part k is.within.x_some is.within.y_some below in
    let ex : part.lo.x + p.x - part.lo.x ≡ p.x = omega arith in
    let ey : part.lo.y + p.y - part.lo.y ≡ p.y = omega arith in
    let ez : part.lo.z + p.z - part.lo.z ≡ p.z = omega arith in
    ap (slice_index (part_of area part labels)) (sym (place_of-point_at size k))
    ∙ planes-item labels (layout_of area part) size p.x p.y p.z size.z (part-room area part labels is) (omega arith) inside.x_below inside.y_below inside.z_below
    ∙ ap (slice_index labels)
    (sym (ap (λ n. place_in (layout_of area part) n (part.lo.y + p.y - part.lo.y) (part.lo.z + p.z - part.lo.z)) ex
    ∙ ap (λ n. place_in (layout_of area part) p.x n (part.lo.z + p.z - part.lo.z)) ey ∙ ap (λ n. place_in (layout_of area part) p.x p.y n) ez)
    ∙ layout-place area part (part.lo.x + p.x) (part.lo.y + p.y) (part.lo.z + p.z) is.within v.in_box)

low-in : (part area : Box3) → IsWithin part area → IsIn part part.lo.x part.lo.y part.lo.z
low-in part area within = record {
  x_from = omega arith;
  x_to = within.x_some;
  y_from = omega arith;
  y_to = within.y_some;
  z_from = omega arith;
  z_to = within.z_some;
}

-- labels that were copied from the area are those of the part
pub part-copied : (area part : Box3) (labels old new : List ℕ) → IsPartOf area part labels → length old ≡ count (size_of part) → IsCopied (slice_index labels) part area old new
    → new ≡ part_of area part labels
part-copied area part labels old new is long copied =
    let size = size_of part in
    let own = part-length area part labels is in
    same_number_lists new (part_of area part labels) (copied.long ∙ long ∙ sym own)
    (λ k below.
    let p = point_at size k in
    let within : k < count size = omega (arith, below, copied.long, long) in
    let v = numbered part k is.within.x_some is.within.y_some within in
    let in_area = within-in part area (part.lo.x + p.x) (part.lo.y + p.y) (part.lo.z + p.z) is.within v.in_box in
    ap (slice_index new) (sym v.place)
    ∙ copied.inside (part.lo.x + p.x) (part.lo.y + p.y) (part.lo.z + p.z) v.in_box in_area
    ∙ sym (part-item area part labels k is within))

-- a part of an area has a voxel in common with it
pub part-meets : (area part : Box3) → IsWithin part area → Meets area part
part-meets area part within = record {
  x = part.lo.x;
  y = part.lo.y;
  z = part.lo.z;
  in_left = within-in part area part.lo.x part.lo.y part.lo.z within (low-in part area within);
  in_right = low-in part area within;
}

pub part-fit : (width : Width) (area part : Box3) (labels : List ℕ) → IsPartOf area part labels → AllFit width labels → AllFit width (part_of area part labels)
part-fit width area part labels is fit =
    λ k below.
    let within : k < count (size_of part) = omega (arith, below, part-length area part labels is) in
    let v = numbered part k is.within.x_some is.within.y_some within in
    let p = point_at (size_of part) k in
    let in_area = within-in part area (part.lo.x + p.x) (part.lo.y + p.y) (part.lo.z + p.z) is.within v.in_box in
    subst (FitsWidth width) (sym (part-item area part labels k is within))
    (fit (place_at area (part.lo.x + p.x) (part.lo.y + p.y) (part.lo.z + p.z)) (omega (arith, is.long, place_at-below area (part.lo.x + p.x) (part.lo.y + p.y) (part.lo.z + p.z) in_area)))

pub labels_in-part : (volume : ℕ → ℕ → ℕ → Option ℕ) (area part : Box3) (labels : List ℕ) → IsPartOf area part labels → labels_in volume area ≡ Some labels
    → labels_in volume part ≡ Some (part_of area part labels)
labels_in-part volume area part labels is all =
    let own = part_of area part labels in
    let long = part-length area part labels is in
    let each : (k : ℕ) → k < count (size_of part) → label_by_number volume part k ≡ Some (slice_index own k)
    = λ k below.
    let p = point_at (size_of part) k in
    let v = numbered part k is.within.x_some is.within.y_some below in
    label-at volume area labels (part.lo.x + p.x) (part.lo.y + p.y) (part.lo.z + p.z) all (within-in part area (part.lo.x + p.x) (part.lo.y + p.y) (part.lo.z + p.z) is.within v.in_box)
    ∙ ap Some (sym (part-item area part labels k is below)) in
    all_listed-is (label_by_number volume part) (count (size_of part)) own (omega (arith, long)) each
    ∙ ap (λ n. Some (take n own)) (sym long) ∙ ap Some (take-length own)
