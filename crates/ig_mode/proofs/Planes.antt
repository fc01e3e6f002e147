-- Rows, planes and volumes: where blocks stand in lists.
use Rattle.std.proofs.Common.{arith, ◌≡◌, ◌≤◌, ◌<◌, ◌+◌, ◌-◌, ◌*◌, ◌/◌, ℕ, List, length, take, drop, slice_index, ◌^◌, ap, subst, sym, ◌∙◌}
use Rattle.std.proofs.Math.Nat.{mul-le-mul_left, mul-le-mul_right}
use borrow.Rule.Slice.PartMut.{put_mid}
use Rattle.ig_space.specs.Geometry.{count}
use Rattle.ig_space.specs.declared.point.Point.{Point}
use Rattle.ig_space.specs.Volume.{place_of}
use Rattle.ig_mode.specs.Mode.{block_mode, edge, half_up, mode_of, plane_mode, row_mode}
use Rattle.ig_mode.specs.Mips.{halved_size, mip}
use Rattle.ig_mode.specs.HasMips.{labels_of}
use Rattle.ig_mode.specs.Halves.{begin-below, edge-below}
use Rattle.ig_mode.proofs.Written.{part-in, part-is, part-more, place-in}

-- the modes of two rows that are parts of a list
pub row-of_parts : (wide upper lower k : ℕ) (plane : List ℕ) → k < half_up wide
    → block_mode wide (take (upper + wide - upper) (drop upper plane)) (take (lower + wide - lower) (drop lower plane)) k ≡ row_mode wide plane upper lower k
row-of_parts wide upper lower k plane below =
    let left = begin-below wide k below in
    let right = edge-below wide k below in
    λ i.
    mode_of (part-is upper wide (2 * k) plane left i) (part-is upper wide (edge wide (2 * k + 1)) plane right i)
    (part-is lower wide (2 * k) plane left i) (part-is lower wide (edge wide (2 * k + 1)) plane right i)

-- the modes of a plane that is a part of a volume's labels are those of the volume
pub plane-of_volume : (size : Point) (x y z : ℕ) (labels : List ℕ) → x < half_up size.x → y < half_up size.y
    → plane_mode size.x size.y (take (size.x * size.y * z + size.x * size.y - size.x * size.y * z) (drop (size.x * size.y * z) labels)) x y ≡ mip size (labels_of size labels) x y z
plane-of_volume size x y z labels x_below y_below =
    let long = size.x * size.y in
    let at : (p q : ℕ) → p < size.x → q < size.y → slice_index (take (long * z + long - long * z) (drop (long * z) labels)) (size.x * q + p) ≡ slice_index labels (place_of size p q z)
    = λ p q p_in q_in. let inside = place-in size.x q size.y p p_in q_in in let same : long * z + (size.x * q + p) ≡ place_of size p q z = grind arith in part-is (long * z) long (size.x * q + p) labels (omega arith) ∙ ap (slice_index labels) same in
    let left = begin-below size.x x x_below in
    let right = edge-below size.x x x_below in
    let upper = begin-below size.y y y_below in
    let lower = edge-below size.y y y_below in
    λ i.
    mode_of (at (2 * x) (2 * y) left upper i) (at (edge size.x (2 * x + 1)) (2 * y) right upper i)
    (at (2 * x) (edge size.y (2 * y + 1)) left lower i) (at (edge size.x (2 * x + 1)) (edge size.y (2 * y + 1)) right lower i)

-- one more row
pub rows-more : (wide tall half done second : ℕ) (plane xs row : List ℕ) → half ≡ half_up wide → second ≡ edge tall (2 * done + 1)
    → length row ≡ half → half * done + half ≤ length xs
    → ((x y : ℕ) → x < half_up wide → y < done → slice_index xs (x + half_up wide * y) ≡ plane_mode wide tall plane x y)
    → ((k : ℕ) → k < length row → slice_index row k ≡ row_mode wide plane (wide * (2 * done)) (wide * second) k)
    → (x y : ℕ) → x < half_up wide → y < done + 1
    → slice_index (put_mid (half * done) (half * done + half - half * done) xs row) (x + half_up wide * y) ≡ plane_mode wide tall plane x y
rows-more wide tall half done second plane xs row same lower size within before here x y x_below y_below =
    ap (λ h. slice_index (put_mid (half * done) (half * done + half - half * done) xs row) (x + h * y)) (sym same)
    ∙ part-more half y x done (λ n. plane_mode wide tall plane x n) xs row size within (omega arith) y_below
    (λ less. ap (λ h. slice_index xs (x + h * y)) same ∙ before x y x_below less)
    (here x (omega arith) ∙ ap (λ s. row_mode wide plane (wide * (2 * done)) (wide * s) x) lower)

-- where a voxel of the halved volume stands, by its plane
place-by_plane : (wide tall x y z : ℕ) → x + wide * (y + tall * z) ≡ x + wide * y + wide * tall * z
place-by_plane wide tall x y z = grind arith

-- one more plane
pub planes-more : (size : Point) (short done : ℕ) (labels xs plane : List ℕ) → short ≡ half_up size.x * half_up size.y
    → length plane ≡ short → short * done + short ≤ length xs
    → ((x y z : ℕ) → x < half_up size.x → y < half_up size.y → z < done → slice_index xs (place_of (halved_size size) x y z) ≡ mip size (labels_of size labels) x y z)
    → ((x y : ℕ) → x < half_up size.x → y < half_up size.y → slice_index plane (x + half_up size.x * y)
    ≡ plane_mode size.x size.y (take (size.x * size.y * done + size.x * size.y - size.x * size.y * done) (drop (size.x * size.y * done) labels)) x y)
    → (x y z : ℕ) → x < half_up size.x → y < half_up size.y → z < done + 1
    → slice_index (put_mid (short * done) (short * done + short - short * done) xs plane) (place_of (halved_size size) x y z) ≡ mip size (labels_of size labels) x y z
planes-more size short done labels xs plane same long within before here x y z x_below y_below z_below =
    let p = x + half_up size.x * y in
    let at : (n : ℕ) → place_of (halved_size size) x y n ≡ p + short * n = λ n. place-by_plane (half_up size.x) (half_up size.y) x y n ∙ ap (λ s. p + s * n) (sym same) in
    let inside = place-in (half_up size.x) y (half_up size.y) x x_below y_below in
    ap (slice_index (put_mid (short * done) (short * done + short - short * done) xs plane)) (at z)
    ∙ part-more short z p done (λ n. mip size (labels_of size labels) x y n) xs plane long within (omega arith) z_below
    (λ less. ap (slice_index xs) (sym (at z)) ∙ before x y z x_below y_below less)
    (here x y x_below y_below ∙ plane-of_volume size x y done labels x_below y_below)

-- What a volume with few voxels has room for.
pub record Room (size : Point) : Type 0 where
  pub x : size.x ≤ 2 ^ 24
  pub y : size.y ≤ 2 ^ 24
  pub z : size.z ≤ 2 ^ 24
  pub x_some : 1 ≤ size.x
  pub plane : size.x * size.y ≤ 2 ^ 24
  pub planes : (n : ℕ) → n < size.z → size.x * size.y * n + size.x * size.y ≤ count size

pub room-of : (size : Point) → 1 ≤ count size → count size ≤ 2 ^ 24 → Room size
room-of size some few =
    let x_some : 1 ≤ size.x = grind arith in
    let y_some : 1 ≤ size.y = grind arith in
    let z_some : 1 ≤ size.z = grind arith in
    let yz : 1 ≤ size.y * size.z = grind arith in
    let up : size.x * 1 ≤ count size = mul-le-mul_left size.x yz in
    let flat : size.x * size.y * 1 ≤ size.x * size.y * size.z = mul-le-mul_left (size.x * size.y) z_some in
    let tall : size.y * 1 ≤ size.y * size.z = mul-le-mul_left size.y z_some in
    let high : size.z * 1 ≤ size.z * size.y = mul-le-mul_left size.z y_some in
    let whole : 1 * (size.y * size.z) ≤ count size = mul-le-mul_right (size.y * size.z) x_some in
    let same : size.x * size.y * size.z ≡ count size = grind arith in
    record {
      x = omega arith;
      y = omega arith;
      z = omega arith;
      x_some = x_some;
      plane = omega arith;
      planes = λ n below. omega (arith, part-in (size.x * size.y) n size.z below, same);
    }

pub halves-fewer : (size : Point) → half_up size.x * half_up size.y ≤ size.x * size.y
halves-fewer size =
    let a : half_up size.x * half_up size.y ≤ half_up size.x * size.y = mul-le-mul_left (half_up size.x) (omega arith) in
    let b : half_up size.x * size.y ≤ size.x * size.y = mul-le-mul_right size.y (omega arith) in
    omega arith

-- a plane ends within what is written
pub short-room : (size : Point) (n : ℕ) → n < size.z → half_up size.x * half_up size.y * n + half_up size.x * half_up size.y ≤ count (halved_size size)
short-room size n below =
    let same : half_up size.x * half_up size.y * size.z ≡ count (halved_size size) = grind arith in
    omega (arith, part-in (half_up size.x * half_up size.y) n size.z below)

-- the same where the halved size has a name
pub short-ends : (size half : Point) (n : ℕ) → half ≡ halved_size size → n < size.z → half.x * half.y * n + half.x * half.y ≤ count half
short-ends size half n same below = subst (λ (h : Point). h.x * h.y * n + h.x * h.y ≤ count h) (sym same) (short-room size n below)

pub halves-few : (size : Point) → count (halved_size size) ≤ count size
halves-few size =
    let tall : half_up size.y * size.z ≤ size.y * size.z = mul-le-mul_right size.z (omega arith) in
    let a : half_up size.x * (half_up size.y * size.z) ≤ half_up size.x * (size.y * size.z) = mul-le-mul_left (half_up size.x) tall in
    let b : half_up size.x * (size.y * size.z) ≤ size.x * (size.y * size.z) = mul-le-mul_right (size.y * size.z) (omega arith) in
    omega arith
