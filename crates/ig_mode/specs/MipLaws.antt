-- Laws on mips, whatever the mode and the labels are.
use Rattle.std.specs.Prelude.{◌≡◌, ℕ, zero, suc, ◌+◌, ◌*◌, ◌<◌}
use Rattle.std.proofs.Common.{refl, subst, sym, ◌∙◌}
use Rattle.ig_space.specs.declared.point.Point.{Point}
use Rattle.ig_space.specs.Volume.{IsInside}
use Rattle.ig_mode.specs.Mode.{edge, half_up}
use Rattle.ig_mode.specs.Mips.{Labels, halved_size, mip_by, mip_times_by, size_times}
use Rattle.ig_mode.specs.Halves.{begin-below, edge-below}

-- two volumes of this size have the same labels
abbrev pub Agree : {A : Type 0} → Point → Labels A → Labels A → Type 0
Agree size v w = (x y z : ℕ) → IsInside size x y z → v x y z ≡ w x y z

-- what the mode of a block does to four facts, one for each of its voxels
pub block-of : (size : Point) (P : ℕ → ℕ → ℕ → Type 0) → ((x y z : ℕ) → IsInside size x y z → P x y z)
    → (x y z : ℕ) → IsInside (halved_size size) x y z
    → P (2 * x) (2 * y) z × P (edge size.x (2 * x + 1)) (2 * y) z × P (2 * x) (edge size.y (2 * y + 1)) z × P (edge size.x (2 * x + 1)) (edge size.y (2 * y + 1)) z
block-of size P each x y z inside =
    let left = begin-below size.x x inside.x_below in
    let right = edge-below size.x x inside.x_below in
    let upper = begin-below size.y y inside.y_below in
    let lower = edge-below size.y y inside.y_below in (
      each (2 * x) (2 * y) z (record { x_below = left; y_below = upper; z_below = inside.z_below }),
      each (edge size.x (2 * x + 1)) (2 * y) z (record { x_below = right; y_below = upper; z_below = inside.z_below }),
      each (2 * x) (edge size.y (2 * y + 1)) z (record { x_below = left; y_below = lower; z_below = inside.z_below }),
      each (edge size.x (2 * x + 1)) (edge size.y (2 * y + 1)) z (record { x_below = right; y_below = lower; z_below = inside.z_below }),
    )

-- the mip reads the labels of the volume alone
mip-agree : {A : Type 0} (mode : A → A → A → A → A) (size : Point) (v w : Labels A) → Agree size v w → Agree (halved_size size) (mip_by mode size v) (mip_by mode size w)
mip-agree mode size v w same x y z inside =
    let four = block-of size (λ x y z. v x y z ≡ w x y z) same x y z inside in
    λ i. mode (four.0 i) (four.1 i) (four.2 i) (four.3 i)

pub mips-agree : {A : Type 0} (mode : A → A → A → A → A) (m : ℕ) (size : Point) (v w : Labels A) → Agree size v w → Agree (size_times m size) (mip_times_by mode m size v) (mip_times_by mode m size w)
mips-agree mode zero size v w same = same
mips-agree mode (suc m) size v w same = mips-agree mode m (halved_size size) (mip_by mode size v) (mip_by mode size w) (mip-agree mode size v w same)

-- one more time, from the end
pub size-after : (m : ℕ) (size : Point) → halved_size (size_times m size) ≡ size_times (suc m) size
size-after zero size = refl
size-after (suc m) size = size-after m (halved_size size)

pub mips-after : {A : Type 0} (mode : A → A → A → A → A) (m : ℕ) (size : Point) (v : Labels A)
    → mip_by mode (size_times m size) (mip_times_by mode m size v) ≡ mip_times_by mode (suc m) size v
mips-after mode zero size v = refl
mips-after mode (suc m) size v = mips-after mode m (halved_size size) (mip_by mode size v)

-- the mip of a volume that agrees with a mip is the next mip
pub next-agree : {A : Type 0} (mode : A → A → A → A → A) (m : ℕ) (size : Point) (v w : Labels A) → Agree (size_times m size) w (mip_times_by mode m size v)
    → Agree (size_times (suc m) size) (mip_by mode (size_times m size) w) (mip_times_by mode (suc m) size v)
next-agree mode m size v w same x y z inside =
    let within : IsInside (halved_size (size_times m size)) x y z = subst (λ (s : Point). IsInside s x y z) (sym (size-after m size)) inside in
    mip-agree mode (size_times m size) w (mip_times_by mode m size v) same x y z within
    ∙ (λ i. mips-after mode m size v i x y z)
