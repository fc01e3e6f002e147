-- The numbers of the boxes above a box.
use Rattle.std.proofs.Common.{◌≡◌, ◌≤◌, ◌<◌, ◌+◌, ◌*◌, ◌^◌, ◌++◌, ℕ, Bool, true, false, nat_lt, List, [], ◌∷◌, arith, refl}
use Rattle.std.specs.List.{AllByRecursion}
use Rattle.std.proofs.lemmas.Bool.{ltb-true}
use Rattle.ig_space.specs.declared.point.Point.{Point}
use Rattle.ig_space.specs.Geometry.{count}
use Rattle.ig_space.specs.Grid.{counts, point_at}
use Rattle.ig_space.specs.Points.{point_at-inside}
use Rattle.ig_space.specs.Volume.{IsInside, place_of}
use Rattle.ig_record.specs.declared.stage.Stage.{Stage}
use Rattle.ig_record.specs.Columns.{above, one_where, upper_neighbours}
use Rattle.ig_record.specs.Sound.{is_sound}
use Rattle.ig_record.specs.SoundStages.{IsSound-from}
use Rattle.ig_record.specs.Stage.{task_count, task_grid}

-- a row of so many, and a place in it
row-below : (n m i j : ℕ) → i < n → j < m → i + n * j < n * m
row-below n m i j low high = grind arith

-- the number of a box is below how many there are
pub place-below : (n : Point) (x y z : ℕ) → IsInside n x y z → place_of n x y z < count n
place-below n x y z h = row-below n.x (n.y * n.z) x (y + n.y * z) h.x_below (row-below n.y n.z y z h.y_below h.z_below)

-- what a product has, its factors have
first-some : (a b k : ℕ) → k < a * b → 0 < a
first-some a b k below = grind arith

second-some : (a b k : ℕ) → k < a * b → 0 < b
second-some a b k below = grind arith

-- a number is inside
pub point-inside : (n : Point) (k : ℕ) → k < count n → IsInside n (point_at n k).x (point_at n k).y (point_at n k).z
point-inside n k below =
    let rows = second-some n.x (n.y * n.z) k below in
    point_at-inside n k (first-some n.x (n.y * n.z) k below) (first-some n.y n.z 0 rows) below

one-small : (test : Bool) (k most : ℕ) → (test ≡ true → k < most) → AllByRecursion (λ k. k < most) (one_where test k)
one-small true k most small = (small refl, tt)
one-small false k most small = tt

both-small : (most : ℕ) (xs ys : List ℕ) → AllByRecursion (λ k. k < most) xs → AllByRecursion (λ k. k < most) ys → AllByRecursion (λ k. k < most) (xs ++ ys)
both-small most [] ys a b = b
both-small most (x ∷ xs) ys a b = (a.0, both-small most xs ys a.1 b)

above-small : (n i : Point) (most : ℕ) → IsInside n i.x i.y i.z → count n ≤ most → AllByRecursion (λ k. k < most) (above n i)
above-small n i most h few =
    let less : (x y z : ℕ) → IsInside n x y z → place_of n x y z < most = λ x y z inside. let below = place-below n x y z inside in omega (arith, below, few) in
    both-small most (one_where (nat_lt (i.x + 1) n.x) (place_of n (i.x + 1) i.y i.z)) _
    (one-small (nat_lt (i.x + 1) n.x) _ most (λ more. less (i.x + 1) i.y i.z (record { x_below = ltb-true (i.x + 1) n.x more; y_below = h.y_below; z_below = h.z_below })))
    (both-small most (one_where (nat_lt (i.y + 1) n.y) (place_of n i.x (i.y + 1) i.z)) _
    (one-small (nat_lt (i.y + 1) n.y) _ most (λ more. less i.x (i.y + 1) i.z (record { x_below = h.x_below; y_below = ltb-true (i.y + 1) n.y more; z_below = h.z_below })))
    (one-small (nat_lt (i.z + 1) n.z) _ most (λ more. less i.x i.y (i.z + 1) (record { x_below = h.x_below; y_below = h.y_below; z_below = ltb-true (i.z + 1) n.z more }))))

-- they are tasks
pub neighbours-small : (s : Stage) (k : ℕ) → is_sound s ≡ true → k < task_count s → AllByRecursion (λ k. k < 10 ^ 6) (upper_neighbours s k)
neighbours-small s k h below = above-small (counts (task_grid s)) (point_at (counts (task_grid s)) k) (10 ^ 6) (point-inside (counts (task_grid s)) k below) (IsSound-from s h).few
