-- Rows of a plane.
use Rattle.std.proofs.Common.{arith, ◌≡◌, ◌+◌, ◌-◌, ◌*◌, ◌/◌, ◌%◌, ◌<◌, ◌≤◌, ◌^◌, ℕ, zero, suc, List, [], ◌∷◌, ◌++◌, length, map, slice_index, refl, ap, sym, ◌∙◌, append_assoc}
use Rattle.std.proofs.Math.Nat.{mul-le-mul_left, mul-le-mul_right, mul_comm}
use Rattle.std.proofs.lemmas.Nat.{div-mul-add, mod-mul-add}
use Rattle.std.proofs.lemmas.List.{append-nil, length-append}
use Rattle.ig_space.specs.declared.point.Point.{Point}
use Rattle.ig_space.specs.Chunks.{listed}
use Rattle.ig_space.specs.Geometry.{count}
use Rattle.ig_space.specs.Volume.{place_of}
use Rattle.ig_faces.specs.Faces.{faces, grid_plane, part_at, x_plane, y_plane, z_plane}
use Rattle.ig_faces.specs.PlanesFile.{IsBox, plane_sizes}
use Rattle.ig_faces.proofs.PlaneLaws.{x_bound, z_bound}

pub listed-same : (f g : ℕ → ℕ) (n : ℕ) → ((k : ℕ) → k < n → f k ≡ g k) → listed f n ≡ listed g n
listed-same f g zero same = refl
listed-same f g (suc n) same =
    let rest = listed-same f g n (λ k l. same k (omega arith)) in
    let own = same n (omega arith) in
    cc

listed_append : (f : ℕ → ℕ) (n m : ℕ) → listed f (n + m) ≡ listed f n ++ listed (λ k. f (n + k)) m
listed_append f n zero = let same : n + zero ≡ n = omega arith in ap (listed f) same ∙ sym (append-nil (listed f n))
listed_append f n (suc m) =
    let rest = listed_append f n m in
    let far : n + suc m ≡ suc (n + m) = omega arith in
    ap (listed f) far ∙ ap (λ l. l ++ f (n + m) ∷ []) rest ∙ append_assoc (listed f n) (listed (λ k. f (n + k)) m) (f (n + m) ∷ [])

pub length-listed : (f : ℕ → ℕ) (n : ℕ) → length (listed f n) ≡ n
length-listed f zero = refl
length-listed f (suc n) = let rest = length-listed f n in rw (length-append, rest) (omega arith)

row_place : (local : List ℕ) (from step width leap rows k : ℕ) → 1 ≤ width → k < width
    → slice_index local (from + (width * rows + k) % width * step + (width * rows + k) / width * leap) ≡ slice_index local (from + rows * leap + k * step)
row_place local from step width leap rows k some below =
    let whole : (width * rows + k) / width ≡ rows = ap (λ n. (n + k) / width) (mul_comm width rows) ∙ div-mul-add rows width k below in
    let part : (width * rows + k) % width ≡ k = ap (λ n. (n + k) % width) (mul_comm width rows) ∙ mod-mul-add rows width k below in
    ap (slice_index local) (ap (λ n. from + n * step + (width * rows + k) / width * leap) part ∙ ap (λ n. from + k * step + n * leap) whole ∙ omega arith)

-- one row more
pub plane-more : (local : List ℕ) (from step width leap rows : ℕ) → 1 ≤ width
    → grid_plane local from step width leap (rows + 1) ≡ grid_plane local from step width leap rows ++ listed (λ k. slice_index local (from + rows * leap + k * step)) width
plane-more local from step width leap rows some =
    let f : ℕ → ℕ = λ k. slice_index local (from + k % width * step + k / width * leap) in
    let far : width * (rows + 1) ≡ width * rows + width = omega arith in
    ap (listed f) far ∙ listed_append f (width * rows) width
    ∙ ap (λ l. listed f (width * rows) ++ l) (listed-same (λ k. f (width * rows + k)) (λ k. slice_index local (from + rows * leap + k * step)) width
    (λ k l. row_place local from step width leap rows k some l))

-- ---- the six planes, by steps
pub x-plane : (size : Point) (local : List ℕ) (x : ℕ) → grid_plane local x size.x size.y (size.x * size.y) size.z ≡ x_plane size local x
x-plane size local x =
    listed-same (λ k. slice_index local (x + k % size.y * size.x + k / size.y * (size.x * size.y))) (λ k. part_at size local x (k % size.y) (k / size.y)) (size.y * size.z)
    (λ k l. ap (slice_index local) (omega arith))

pub y-plane : (size : Point) (local : List ℕ) (y : ℕ) → grid_plane local (size.x * y) 1 size.x (size.x * size.y) size.z ≡ y_plane size local y
y-plane size local y =
    listed-same (λ k. slice_index local (size.x * y + k % size.x * 1 + k / size.x * (size.x * size.y))) (λ k. part_at size local (k % size.x) y (k / size.x)) (size.x * size.z)
    (λ k l. ap (slice_index local) (omega arith))

pub z-plane : (size : Point) (local : List ℕ) (z : ℕ) → grid_plane local (size.x * size.y * z) 1 size.x size.x size.y ≡ z_plane size local z
z-plane size local z =
    listed-same (λ k. slice_index local (size.x * size.y * z + k % size.x * 1 + k / size.x * size.x)) (λ k. part_at size local (k % size.x) (k / size.x) z) (size.x * size.y)
    (λ k l. ap (slice_index local) (omega arith))

pub faces-sizes : (size : Point) (local : List ℕ) → map length (faces size local) ≡ plane_sizes size
faces-sizes size local =
    let a = length-listed (λ k. part_at size local 0 (k % size.y) (k / size.y)) (size.y * size.z) in
    let b = length-listed (λ k. part_at size local (size.x - 1) (k % size.y) (k / size.y)) (size.y * size.z) in
    let c = length-listed (λ k. part_at size local (k % size.x) 0 (k / size.x)) (size.x * size.z) in
    let d = length-listed (λ k. part_at size local (k % size.x) (size.y - 1) (k / size.x)) (size.x * size.z) in
    let e = length-listed (λ k. part_at size local (k % size.x) (k / size.x) 0) (size.x * size.y) in
    let f = length-listed (λ k. part_at size local (k % size.x) (k / size.x) (size.z - 1)) (size.x * size.y) in
    cc

-- ---- bounds
pub x_side : (size : Point) → IsBox size → size.x ≤ 2 ^ 24
x_side size box = let h : size.x * 1 ≤ size.x * size.y = mul-le-mul_left size.x box.y_some in let f = z_bound size box in omega arith

pub y_side : (size : Point) → IsBox size → size.y ≤ 2 ^ 24
y_side size box = let h : size.y * 1 ≤ size.y * size.z = mul-le-mul_left size.y box.z_some in let f = x_bound size box in omega arith

pub z_side : (size : Point) → IsBox size → size.z ≤ 2 ^ 24
z_side size box = let h : 1 * size.z ≤ size.y * size.z = mul-le-mul_right size.z box.y_some in let f = x_bound size box in omega arith

pub place-within : (size : Point) (x y z : ℕ) → x < size.x → y < size.y → z < size.z → place_of size x y z < count size
place-within size x y z a b c =
    let planes : size.y * (z + 1) ≤ size.y * size.z = mul-le-mul_left size.y (omega arith) in
    let rows : y + size.y * z + 1 ≤ size.y * size.z = omega arith in
    let all : size.x * (y + size.y * z + 1) ≤ size.x * (size.y * size.z) = mul-le-mul_left size.x rows in
    omega arith
