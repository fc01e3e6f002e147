-- Planes of a box, and their numbers one after the other.
use Rattle.std.proofs.Common.{arith, ◌≡◌, ◌+◌, ◌*◌, ◌<◌, ◌≤◌, ◌^◌, ℕ, List, [], ◌∷◌, ◌++◌, length, map, sum, drop, take, get_or, append_assoc, ◌-◌, None, Result, Ok, Err, IfOk, ap, sym, ◌∙◌}
use Rattle.std.proofs.Math.Nat.{mul-le-mul_left, mul-le-mul_right}
use Rattle.std.proofs.lemmas.List.Concat.{length-flat_map}
use Rattle.std.proofs.Math.Seq.{take-add}
use Rattle.std.proofs.lemmas.List.{append-nil, length-drop, length-take-le, map_push, take_more}
use Rattle.std.proofs.lemmas.List.Sums.{sum-map, sum_by-take-le, sum_by_more}
use Rattle.std.specs.List.{concat}
use Rattle.ig_space.specs.declared.point.Point.{Point}
use Rattle.ig_faces.specs.PlanesFile.{IsBox, place_wrong, plane_sizes, planes_in, planes_wrong}
use Rattle.ig_faces.specs.Records.{first_wrong, number_in, records_in}
use Rattle.ig_faces.proofs.CountedLaws.{whole-file}

pub x_bound : (size : Point) → IsBox size → size.y * size.z ≤ 2 ^ 24
x_bound size box = let h : 1 * (size.y * size.z) ≤ size.x * (size.y * size.z) = mul-le-mul_right (size.y * size.z) box.x_some in let f = box.few in omega arith

pub y_bound : (size : Point) → IsBox size → size.x * size.z ≤ 2 ^ 24
y_bound size box =
    let h : 1 * size.z ≤ size.y * size.z = mul-le-mul_right size.z box.y_some in
    let k : size.x * size.z ≤ size.x * (size.y * size.z) = mul-le-mul_left size.x (omega arith) in
    let f = box.few in omega arith

pub z_bound : (size : Point) → IsBox size → size.x * size.y ≤ 2 ^ 24
z_bound size box =
    let h : size.y * 1 ≤ size.y * size.z = mul-le-mul_left size.y box.z_some in
    let k : size.x * size.y ≤ size.x * (size.y * size.z) = mul-le-mul_left size.x (omega arith) in
    let f = box.few in omega arith

pub length-concat : (planes : List (List ℕ)) → length (concat planes) ≡ sum (map length planes)
length-concat planes = length-flat_map (λ p. p) planes ∙ sym (sum-map length planes)

-- the planes of a written file
pub planes-back : {E : Type 0} (planes : List (List ℕ)) (numbers : List ℕ) (r : Result (List ℕ) E) → numbers ≡ concat planes
    → IfOk r (λ b. records_in (number_in 4) 4 (length numbers) b ≡ numbers)
    → IfOk r (λ b. (size : Point) → map length planes ≡ plane_sizes size → planes_in size b ≡ concat planes)
planes-back planes numbers (Ok b) is back = λ size sizes.
    let many : sum (plane_sizes size) ≡ length numbers = ap sum (sym sizes) ∙ sym (length-concat planes) ∙ ap length (sym is) in
    ap (λ n. records_in (number_in 4) 4 n b) many ∙ back ∙ is
planes-back planes numbers (Err e) is back = tt

-- it is not wrong where its numbers are not
pub planes-right : {E : Type 0} (planes : List (List ℕ)) (numbers : List ℕ) (r : Result (List ℕ) E) → numbers ≡ concat planes
    → IfOk r (λ b. records_in (number_in 4) 4 (length numbers) b ≡ numbers) → IfOk r (λ b. length b ≡ 4 * length numbers)
    → IfOk r (λ b. (size : Point) (top : ℕ) → map length planes ≡ plane_sizes size → first_wrong (place_wrong top) 4 0 None (concat planes) ≡ None → planes_wrong size top b ≡ None)
planes-right planes numbers (Ok b) is back len = λ size top sizes right.
    let many : sum (plane_sizes size) ≡ length numbers = ap sum (sym sizes) ∙ sym (length-concat planes) ∙ ap length (sym is) in
    let whole : length b ≡ 0 + 4 * sum (plane_sizes size) = omega (arith, len, many) in
    whole-file (place_wrong top) (number_in 4) 0 4 (sum (plane_sizes size)) b whole
    ∙ ap (first_wrong (place_wrong top) 4 0 None) (ap (λ n. records_in (number_in 4) 4 n b) many ∙ back ∙ is) ∙ right
planes-right planes numbers (Err e) is back len = tt

concat-push : (planes : List (List ℕ)) (p : List ℕ) → concat (planes ++ p ∷ []) ≡ concat planes ++ p
concat-push [] p = append-nil p
concat-push (q ∷ planes) p = let rest = concat-push planes p in ap (λ l. q ++ l) rest ∙ sym (append_assoc q (concat planes) p)

-- one plane more
pub concat-more : (planes : List (List ℕ)) (i : ℕ) (p : List ℕ) → i < length planes → p ≡ get_or planes i p → concat (take (i + 1) planes) ≡ concat (take i planes) ++ p
concat-more planes i p below at =
    ap concat (take_more planes i p below ∙ ap (λ q. take i planes ++ q ∷ []) (sym at)) ∙ concat-push (take i planes) p

pub cut-step : (planes next : List (List ℕ)) (numbers sizes : List ℕ) (from i : ℕ) (plane : List ℕ) → from ≡ sum (take i sizes) → concat planes ≡ take from numbers
    → map length planes ≡ take i sizes → i < length sizes → sum sizes ≡ length numbers → next ≡ planes ++ plane ∷ []
    → plane ≡ take (from + get_or sizes i 0 - from) (drop from numbers)
    → (from + get_or sizes i 0 ≡ sum (take (i + 1) sizes)) × (concat next ≡ take (from + get_or sizes i 0) numbers) × (map length next ≡ take (i + 1) sizes)
cut-step planes next numbers sizes from i plane at texts lengths below all pushed is =
    let size = get_or sizes i 0 in
    let more : sum (take (i + 1) sizes) ≡ sum (take i sizes) + size = sum_by_more (λ x. x) sizes i 0 below in
    let bound = sum_by-take-le (λ x. x) sizes (i + 1) in
    let same : from + size - from ≡ size = omega arith in
    let own : plane ≡ take size (drop from numbers) = is ∙ ap (λ n. take n (drop from numbers)) same in
    let room : size ≤ length (drop from numbers) = rw length-drop (omega (arith, at, more, bound, all)) in
    let len : length plane ≡ size = ap length own ∙ length-take-le size (drop from numbers) room in (
      omega (arith, at, more),
      ap concat pushed ∙ concat-push planes plane ∙ ap (λ l. l ++ plane) texts ∙ ap (λ l. take from numbers ++ l) own ∙ sym (take-add from size numbers),
      ap (map length) pushed ∙ map_push length planes plane ∙ ap (λ l. l ++ length plane ∷ []) lengths ∙ ap (λ n. take i sizes ++ n ∷ []) len ∙ sym (take_more sizes i 0 below),
    )
