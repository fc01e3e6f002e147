-- A box that holds whole blocks is enough for its part of the mip.
use Rattle.std.specs.Prelude.{◌≡◌, ℕ, zero, suc, ◌+◌, ◌-◌, ◌*◌, ◌/◌, ◌^◌, ◌<◌, ◌≤◌, ◌⊎◌}
use Rattle.std.proofs.Common.{arith, refl, ap, sym, subst, ◌∙◌, inl, inr, ⊎_elim}
use Rattle.std.proofs.Math.Nat.{mul-sub}
use Rattle.ig_space.specs.declared.point.Point.{Point}
use Rattle.ig_space.specs.declared.point.Box3.{Box3}
use Rattle.ig_space.specs.Grid.{size_of}
use Rattle.ig_space.specs.Volume.{IsInside}
use Rattle.ig_mode.specs.Mode.{edge, half_up}
use Rattle.ig_mode.specs.Mips.{Labels, down_times, halved_offset, halved_size, mip_by, mip_times_by, offset_times, part, placed, scale_mip_by, scale_mips_by, size_times, up_times}
use Rattle.ig_mode.specs.Aligned.{IsAligned, IsAlignedAlong}
use Rattle.ig_mode.specs.HalvedGrids.{halved_box, halved_high, halved_low}
use Rattle.ig_mode.specs.Halves.{down-whole, power-double, up-add}
use Rattle.ig_mode.specs.MipLaws.{Agree, mips-agree}

-- ---- one axis, counted from the side's begin
record Inner (m side lo size : ℕ) : Type 0 where
  place : ℕ
  begins : lo ≡ 2 ^ m * place
  within : lo + size ≤ side
  ends : ((n : ℕ) × (size ≡ 2 ^ m * n)) ⊎ (lo + size ≡ side)

inner-ends : (m side lo size place : ℕ) → lo ≡ 2 * (2 ^ m * place) → ((n : ℕ) × (size ≡ 2 ^ suc m * n)) ⊎ (lo + size ≡ side)
    → ((n : ℕ) × (half_up size ≡ 2 ^ m * n)) ⊎ (lo / 2 + half_up size ≡ half_up side)
inner-ends m side lo size place begins (inl (n, whole)) = inl (n, omega (arith, whole, power-double m n))
inner-ends m side lo size place begins (inr last) = inr (omega arith)

inner-within : (m side lo size place : ℕ) → lo ≡ 2 * (2 ^ m * place) → lo + size ≤ side → lo / 2 + half_up size ≤ half_up side
inner-within m side lo size place begins within = omega arith

inner-half : (m side lo size : ℕ) → Inner (suc m) side lo size → Inner m (half_up side) (lo / 2) (half_up size)
inner-half m side lo size h =
    let even : lo ≡ 2 * (2 ^ m * h.place) = h.begins ∙ power-double m h.place in
    record {
      place = h.place;
      begins = omega arith;
      within = inner-within m side lo size h.place even h.within;
      ends = inner-ends m side lo size h.place even h.ends;
    }

-- the columns of a block, in the side
column-begin : (m side lo size x : ℕ) → Inner (suc m) side lo size → lo + 2 * x ≡ 2 * (lo / 2 + x)
column-begin m side lo size x h = let even : lo ≡ 2 * (2 ^ m * h.place) = h.begins ∙ power-double m h.place in omega arith

edge-by : (side lo size half n x : ℕ) → lo ≡ 2 * half → lo + size ≤ side → x < half_up size → (size ≡ 2 * n) ⊎ (lo + size ≡ side)
    → lo + edge size (2 * x + 1) ≡ edge side (2 * (lo / 2 + x) + 1)
edge-by side lo size half n x even within below (inl whole) = omega arith
edge-by side lo size half n x even within below (inr last) = omega arith

column-edge : (m side lo size x : ℕ) → Inner (suc m) side lo size → x < half_up size → lo + edge size (2 * x + 1) ≡ edge side (2 * (lo / 2 + x) + 1)
column-edge m side lo size x h below =
    let even : lo ≡ 2 * (2 ^ m * h.place) = h.begins ∙ power-double m h.place in
    ⊎_elim
    (λ (whole : (n : ℕ) × (size ≡ 2 ^ suc m * n)). edge-by side lo size (2 ^ m * h.place) (2 ^ m * whole.0) x even h.within below (inl (whole.1 ∙ power-double m whole.0)))
    (λ (last : lo + size ≡ side). edge-by side lo size (2 ^ m * h.place) 0 x even h.within below (inr last))
    h.ends

-- ---- a part of a volume, counted from the volume's low corner
part-step : {A : Type 0} (mode : A → A → A → A → A) (m : ℕ) (size side lo : Point) (v : Labels A) → Inner (suc m) side.x lo.x size.x → Inner (suc m) side.y lo.y size.y
    → Agree (halved_size size) (mip_by mode size (part lo v)) (part (halved_offset lo) (mip_by mode side v))
part-step mode m size side lo v along_x along_y x y z inside =
    let left = column-begin m side.x lo.x size.x x along_x in
    let right = column-edge m side.x lo.x size.x x along_x inside.x_below in
    let upper = column-begin m side.y lo.y size.y y along_y in
    let lower = column-edge m side.y lo.y size.y y along_y inside.y_below in
    λ i. mode (v (left i) (upper i) (lo.z + z)) (v (right i) (upper i) (lo.z + z)) (v (left i) (lower i) (lo.z + z)) (v (right i) (lower i) (lo.z + z))

mips-part : {A : Type 0} (mode : A → A → A → A → A) (m : ℕ) (size side lo : Point) (v : Labels A) → Inner m side.x lo.x size.x → Inner m side.y lo.y size.y
    → Agree (size_times m size) (mip_times_by mode m size (part lo v)) (part (offset_times m lo) (mip_times_by mode m side v))
mips-part mode zero size side lo v along_x along_y x y z inside = refl
mips-part mode (suc m) size side lo v along_x along_y x y z inside =
    mips-agree mode m (halved_size size) (mip_by mode size (part lo v)) (part (halved_offset lo) (mip_by mode side v))
    (part-step mode m size side lo v along_x along_y) x y z inside
    ∙ mips-part mode m (halved_size size) (halved_size side) (halved_offset lo) (mip_by mode side v)
    (inner-half m side.x lo.x size.x along_x) (inner-half m side.y lo.y size.y along_y) x y z inside

-- ---- by the coordinates of the volume
part-placed : {A : Type 0} (at : Point) (v : Labels A) → part at (placed at v) ≡ v
part-placed at v =
    let back : (a x : ℕ) → a + x - a ≡ x = λ a x. omega arith in
    λ i x y z. v (back at.x x i) (back at.y y i) (back at.z z i)

pub scale-mips : {A : Type 0} (mode : A → A → A → A → A) (m : ℕ) (offset size : Point) (v : Labels A)
    → part (offset_times m offset) (scale_mips_by mode m offset size v) ≡ mip_times_by mode m size (part offset v)
scale-mips mode zero offset size v = refl
scale-mips mode (suc m) offset size v =
    scale-mips mode m (halved_offset offset) (halved_size size) (scale_mip_by mode offset size v)
    ∙ ap (mip_times_by mode m (halved_size size)) (part-placed (halved_offset offset) (mip_by mode size (part offset v)))

ends-from : (m lo hi from to : ℕ) → (place : ℕ) → from ≡ lo + 2 ^ m * place → from ≤ to → ((n : ℕ) × (to ≡ lo + 2 ^ m * n)) ⊎ (to ≡ hi)
    → ((n : ℕ) × (to - from ≡ 2 ^ m * n)) ⊎ (from - lo + (to - from) ≡ hi - lo)
ends-from m lo hi from to place begins order (inl (n, whole)) = inl (n - place, omega (arith, whole, mul-sub (2 ^ m) n place))
ends-from m lo hi from to place begins order (inr last) = inr (omega arith)

inner-of : (m lo hi from to : ℕ) → IsAlignedAlong m lo hi from to → Inner m (hi - lo) (from - lo) (to - from)
inner-of m lo hi from to h = record {
  place = h.place;
  begins = omega (arith, h.begins);
  within = omega (arith, h.begins, h.order, h.within);
  ends = ends-from m lo hi from to h.place h.begins h.order h.ends;
}

-- The mip taken m times of a box with whole blocks is that part of the mip of the whole.
pub own-part : {A : Type 0} (mode : A → A → A → A → A) (m : ℕ) (space b : Box3) (v : Labels A) → IsAligned m space b
    → (x y z : ℕ) → IsInside (size_times m (size_of b)) x y z
    → mip_times_by mode m (size_of b) (part b.lo v) x y z
    ≡ scale_mips_by mode m space.lo (size_of space) v (halved_low m space.lo.x b.lo.x + x) (halved_low m space.lo.y b.lo.y + y) (b.lo.z + z)
own-part mode m space b v h x y z inside =
    let lo : Point = record { x = b.lo.x - space.lo.x; y = b.lo.y - space.lo.y; z = b.lo.z - space.lo.z } in
    let at_x : (p : ℕ) → b.lo.x + p ≡ space.lo.x + (b.lo.x - space.lo.x + p) = λ p. omega (arith, h.x.begins) in
    let at_y : (p : ℕ) → b.lo.y + p ≡ space.lo.y + (b.lo.y - space.lo.y + p) = λ p. omega (arith, h.y.begins) in
    let at_z : (p : ℕ) → b.lo.z + p ≡ space.lo.z + (b.lo.z - space.lo.z + p) = λ p. omega (arith, h.z_from) in
    let out_x : down_times m space.lo.x + (down_times m (b.lo.x - space.lo.x) + x) ≡ halved_low m space.lo.x b.lo.x + x = omega arith in
    let out_y : down_times m space.lo.y + (down_times m (b.lo.y - space.lo.y) + y) ≡ halved_low m space.lo.y b.lo.y + y = omega arith in
    let whole = scale_mips_by mode m space.lo (size_of space) v in
    (λ i. mip_times_by mode m (size_of b) (λ p q r. v (at_x p i) (at_y q i) (at_z r i)) x y z)
    ∙ mips-part mode m (size_of b) (size_of space) lo (part space.lo v)
    (inner-of m space.lo.x space.hi.x b.lo.x b.hi.x h.x) (inner-of m space.lo.y space.hi.y b.lo.y b.hi.y h.y) x y z inside
    ∙ (λ i. sym (scale-mips mode m space.lo (size_of space) v) i (down_times m (b.lo.x - space.lo.x) + x) (down_times m (b.lo.y - space.lo.y) + y) (b.lo.z - space.lo.z + z))
    ∙ (λ i. whole (out_x i) (out_y i) (sym (at_z z) i))

-- the box of the halved scale has the halved size
size-along : (m lo hi from to : ℕ) → IsAlignedAlong m lo hi from to → halved_high m lo to - halved_low m lo from ≡ up_times m (to - from)
size-along m lo hi from to h =
    let start : from - lo ≡ 2 ^ m * h.place = omega (arith, h.begins) in
    let end : to - lo ≡ 2 ^ m * h.place + (to - from) = omega (arith, h.begins, h.order) in
    let low = ap (down_times m) start ∙ down-whole m h.place in
    let high = ap (up_times m) end ∙ up-add m h.place (to - from) in
    omega (arith, low, high)

pub own-size : (m : ℕ) (space b : Box3) → IsAligned m space b → size_of (halved_box m space.lo b) ≡ size_times m (size_of b)
own-size m space b h =
    let along_x = size-along m space.lo.x space.hi.x b.lo.x b.hi.x h.x in
    let along_y = size-along m space.lo.y space.hi.y b.lo.y b.hi.y h.y in
    λ i. record { x = along_x i; y = along_y i; z = b.hi.z - b.lo.z }
