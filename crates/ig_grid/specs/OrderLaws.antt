-- Voxels stand in the order of the whole in each box of it.
use Rattle.std.proofs.Common.{ℕ, ◌+◌, ◌-◌, ◌*◌, ◌/◌, ◌%◌, ◌<◌, ◌≤◌, ◌≡◌, ap, ◌⊎◌, inl, inr, arith}
use Rattle.std.proofs.Math.Nat.{mul-le-mul_left, div-mul-le_self, mod-lt, div-add-mod}
use Rattle.std.proofs.lemmas.Bool.{cases_lt, cases_eq}
use Rattle.std.proofs.lemmas.Nat.{le-div}
use Rattle.ig_space.specs.declared.point.Box3.{Box3}
use Rattle.ig_space.specs.declared.geometry.Grid.{Grid}
use Rattle.ig_space.specs.Geometry.{count}
use Rattle.ig_space.specs.Grid.{IsGrid, IsWithin, cell, cell_count, point_at, size_of}
use Rattle.ig_space.specs.Cells.{cell-within}
use Rattle.ig_space.specs.Volume.{place_of}
use Rattle.ig_grid.specs.BoxGraph.{voxel_at, place_in}

-- a number of two digits of which the higher one rises, or stays with the lower one rising
by_higher : (c p q r s : ℕ) → p < c → r < s → p + c * r < q + c * s
by_higher c p q r s below less =
    let more : c * (r + 1) ≤ c * s = mul-le-mul_left c (omega (arith, less)) in
    grind arith

digits : (n c f j k r s : ℕ) → f + n ≤ c → 0 < n → j < k → (j / n < k / n → r < s) → (j / n ≡ k / n → r ≡ s)
    → (j / n < k / n) ⊎ (k / n ≤ j / n) → f + j % n + c * r < f + k % n + c * s
digits n c f j k r s fits some less up same (inl higher) =
    by_higher c (f + j % n) (f + k % n) r s (omega (arith, fits, mod-lt j some)) (up higher)
digits n c f j k r s fits some less up same (inr other) =
    let lower : n * (k / n) ≤ n * (j / n) = mul-le-mul_left n other in
    let whole_j = div-add-mod j n in
    let whole_k = div-add-mod k n in
    let rest : j % n < k % n = omega (arith, lower, whole_j, whole_k, less) in
    let order = le-div (j / n) k n some (omega (arith, div-mul-le_self j n, less)) in
    let equal : j / n ≡ k / n = omega (arith, order, other) in
    rw (same equal) (omega (arith, rest))

number-less : (nx ny cx cy fx fy fz j k : ℕ) → fx + nx ≤ cx → fy + ny ≤ cy → 0 < nx → 0 < ny → j < k
    → fx + j % nx + cx * (fy + j / nx % ny + cy * (fz + j / nx / ny)) < fx + k % nx + cx * (fy + k / nx % ny + cy * (fz + k / nx / ny))
number-less nx ny cx cy fx fy fz j k x_fits y_fits x_some y_some less =
    digits nx cx fx j k (fy + j / nx % ny + cy * (fz + j / nx / ny)) (fy + k / nx % ny + cy * (fz + k / nx / ny)) x_fits x_some less
    (λ up. digits ny cy fy (j / nx) (k / nx) (fz + j / nx / ny) (fz + k / nx / ny) y_fits y_some up
    (λ high. omega (arith, high)) (λ same. ap (λ n. fz + n) same) (cases_lt (j / nx / ny) (k / nx / ny)))
    (λ same. ap (λ n. fy + n % ny + cy * (fz + n / ny)) same) (cases_lt (j / nx) (k / nx))

-- the place in the whole of a voxel of a box within it, from the first of the box on
from_box : (b space : Box3) → IsWithin b space → (p : ℕ)
    → place_in space (voxel_at b p)
    ≡ place_of (size_of space) (b.lo.x - space.lo.x + (point_at (size_of b) p).x) (b.lo.y - space.lo.y + (point_at (size_of b) p).y) (b.lo.z - space.lo.z + (point_at (size_of b) p).z)
from_box b space within p =
    let a = point_at (size_of b) p in
    let ex : b.lo.x + a.x - space.lo.x ≡ b.lo.x - space.lo.x + a.x = omega (arith, within.x_from) in
    let ey : b.lo.y + a.y - space.lo.y ≡ b.lo.y - space.lo.y + a.y = omega (arith, within.y_from) in
    let ez : b.lo.z + a.z - space.lo.z ≡ b.lo.z - space.lo.z + a.z = omega (arith, within.z_from) in
    λ i. place_of (size_of space) (ex i) (ey i) (ez i)

pub box-less : (b space : Box3) → IsWithin b space → (i j : ℕ) → i < j → place_in space (voxel_at b i) < place_in space (voxel_at b j)
box-less b space within i j less =
    let n = size_of b in
    let c = size_of space in
    let order = number-less n.x n.y c.x c.y (b.lo.x - space.lo.x) (b.lo.y - space.lo.y) (b.lo.z - space.lo.z) i j
    (omega (arith, within.x_from, within.x_some, within.x_to)) (omega (arith, within.y_from, within.y_some, within.y_to))
    (omega (arith, within.x_some)) (omega (arith, within.y_some)) less in
    omega (arith, from_box b space within i, from_box b space within j, order)

box_le : (b space : Box3) → IsWithin b space → (i j : ℕ) → i ≤ j → (i ≡ j) ⊎ (i ≡ j → ⊥) → place_in space (voxel_at b i) ≤ place_in space (voxel_at b j)
box_le b space within i j le (inl e) = omega (arith, ap (λ k. place_in space (voxel_at b k)) e)
box_le b space within i j le (inr n) = omega (arith, box-less b space within i j (omega arith))

pub cells-keep_order : (g : Grid) → IsGrid g
    → (k i j : ℕ) → k < cell_count g → i < count (size_of (cell g k)) → j < count (size_of (cell g k)) → i ≤ j
    → place_in g.space (voxel_at (cell g k) i) ≤ place_in g.space (voxel_at (cell g k) j)
cells-keep_order g grid k i j l li lj le = box_le (cell g k) g.space (cell-within g grid k l) i j le (cases_eq i j)
