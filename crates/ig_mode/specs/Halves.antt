-- Laws on a side that is halved so often.
use Rattle.std.specs.Prelude.{◌≡◌, ℕ, zero, suc, ◌+◌, ◌-◌, ◌*◌, ◌/◌, ◌^◌, ◌<◌, ◌≤◌, min}
use Rattle.std.proofs.Common.{arith, ap, refl, ◌∙◌}
use Rattle.std.proofs.Math.Nat.{pow-succ'}
use Rattle.ig_mode.specs.Mode.{edge, half_up}
use Rattle.ig_mode.specs.Mips.{down_times, up_times}

-- the columns of a block lie in the side
pub begin-below : (side k : ℕ) → k < half_up side → 2 * k < side
begin-below side k below = omega arith

pub edge-below : (side k : ℕ) → k < half_up side → edge side (2 * k + 1) < side
edge-below side k below = omega arith

-- a power with one more, and half of what it divides
pub power-double : (m n : ℕ) → 2 ^ suc m * n ≡ 2 * (2 ^ m * n)
power-double m n = rw (pow-succ' 2 m) (omega arith)

-- so often down from a multiple
pub down-whole : (m n : ℕ) → down_times m (2 ^ m * n) ≡ n
down-whole zero n = omega arith
down-whole (suc m) n =
    let half : 2 ^ suc m * n / 2 ≡ 2 ^ m * n = omega (arith, power-double m n) in
    ap (down_times m) half ∙ down-whole m n

-- so often up from a multiple and some more
pub up-add : (m n side : ℕ) → up_times m (2 ^ m * n + side) ≡ n + up_times m side
up-add zero n side = omega arith
up-add (suc m) n side =
    let half : half_up (2 ^ suc m * n + side) ≡ 2 ^ m * n + half_up side = omega (arith, power-double m n) in
    ap (up_times m) half ∙ up-add m n (half_up side)

pub up-none : (m : ℕ) → up_times m 0 ≡ 0
up-none zero = refl
up-none (suc m) = up-none m

pub up-whole : (m n : ℕ) → up_times m (2 ^ m * n) ≡ n
up-whole m n =
    let more : 2 ^ m * n ≡ 2 ^ m * n + 0 = omega arith in
    ap (up_times m) more ∙ up-add m n 0 ∙ (let none = up-none m in omega arith)

-- the lesser side stays the lesser
pub up-min : (m a b : ℕ) → up_times m (min a b) ≡ min (up_times m a) (up_times m b)
up-min zero a b = refl
up-min (suc m) a b =
    let half : half_up (min a b) ≡ min (half_up a) (half_up b) = omega arith in
    ap (up_times m) half ∙ up-min m (half_up a) (half_up b)

-- a side that is some stays some, and does not grow
pub up-some : (m side : ℕ) → 1 ≤ side → 1 ≤ up_times m side
up-some zero side some = some
up-some (suc m) side some = up-some m (half_up side) (omega arith)

pub ends-lower : (m lo side : ℕ) → down_times m lo + up_times m side ≤ lo + side
ends-lower zero lo side = omega arith
ends-lower (suc m) lo side =
    let rest = ends-lower m (lo / 2) (half_up side) in
    omega arith
