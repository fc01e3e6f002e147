-- What is known of mips, and what mips keep of labels.
use Rattle.std.specs.Prelude.{◌≡◌, ℕ, zero, suc, ◌+◌, ◌-◌, ◌*◌, ◌<◌, ◌≤◌, ◌==◌, ◌||◌, Bool, true, false, List, length, slice_index, Option, None, Some, if◌then◌else◌}
use Rattle.std.proofs.Common.{arith, ap, refl, sym, subst, ◌∙◌}
use Rattle.ig_space.specs.declared.geometry.Width.{Width}
use Rattle.ig_space.specs.declared.point.Point.{Point}
use Rattle.ig_space.specs.declared.point.Box3.{Box3}
use Rattle.ig_space.specs.Cells.{number-below}
use Rattle.ig_space.specs.Geometry.{count}
use Rattle.ig_space.specs.Grid.{IsIn, point_at, size_of}
use Rattle.ig_space.specs.Points.{place_of-point_at, point_at-inside}
use Rattle.ig_space.specs.Raw.{AllFit, FitsWidth}
use Rattle.ig_space.specs.Volume.{IsInside, IsWhole, Voxels, place_of, voxel}
use Rattle.ig_mode.specs.Aligned.{IsAligned}
use Rattle.ig_mode.specs.HalvedGrids.{halved_box, halved_low}
use Rattle.ig_mode.specs.HasMips.{HasMip}
use Rattle.ig_mode.specs.Known.{AgreeIn, AllPass, IsKnown, KnownPass, Lasts, Mode, mode_known, scale_mips}
use Rattle.ig_mode.specs.Mode.{edge, mode_of}
use Rattle.ig_mode.specs.Mips.{Labels, halved_offset, halved_size, mip_by, mip_times, mip_times_by, part, scale_mip_by, scale_mips_by, size_times}
use Rattle.ig_mode.specs.MipLaws.{Agree, block-of, mips-agree}
use Rattle.ig_mode.specs.PartLaws.{own-part, own-size}

-- ---- known labels
-- where f goes along with two modes, it goes along with their mips
mips-map : {A B : Type 0} (f : A → B) (mode : Mode A) (mode' : Mode B) → ((a b c d : A) → mode' (f a) (f b) (f c) (f d) ≡ f (mode a b c d)) → (m : ℕ) (size : Point) (v : Labels A)
    → mip_times_by mode' m size (λ x y z. f (v x y z)) ≡ (λ x y z. f (mip_times_by mode m size v x y z))
mips-map f mode mode' same zero size v = refl
mips-map f mode mode' same (suc m) size v =
    ap (mip_times_by mode' m (halved_size size))
    (λ i x y z.
    same (v (2 * x) (2 * y) z) (v (edge size.x (2 * x + 1)) (2 * y) z) (v (2 * x) (edge size.y (2 * y + 1)) z) (v (edge size.x (2 * x + 1)) (edge size.y (2 * y + 1)) z) i)
    ∙ mips-map f mode mode' same m (halved_size size) (mip_by mode size v)

-- where each label of the box is known, so is each of its mip
mips-known : (m : ℕ) (size : Point) (v : Labels (Option ℕ)) (w : Labels ℕ) → Agree size v (λ x y z. Some (w x y z))
    → Agree (size_times m size) (mip_times_by mode_known m size v) (λ x y z. Some (mip_times m size w x y z))
mips-known m size v w known x y z inside =
    mips-agree mode_known m size v (λ x y z. Some (w x y z)) known x y z inside
    ∙ (λ i. mips-map Some mode_of mode_known (λ a b c d. refl) m size w i x y z)

pub own-known : (m : ℕ) (space b : Box3) (v : Labels (Option ℕ)) (from out : Voxels) → IsAligned m space b → IsKnown v b from → HasMip m from out
    → IsKnown (scale_mips m space v) (halved_box m space.lo b) out
own-known m space b v from out aligned known mip =
    let size : out.size ≡ size_times m (size_of b) = mip.size ∙ ap (size_times m) known.size in
    let here : Agree (size_of b) (part b.lo v) (λ x y z. Some (voxel from x y z))
    = λ x y z inside. known.each x y z (subst (λ (s : Point). IsInside s x y z) (sym known.size) inside) in
    record {
      size = size ∙ sym (own-size m space b aligned);
      each = λ x y z inside.
          let within : IsInside (size_times m (size_of b)) x y z = subst (λ (s : Point). IsInside s x y z) size inside in
          sym (own-part mode_known m space b v aligned x y z within)
          ∙ mips-known m (size_of b) (part b.lo v) (voxel from) here x y z within
          ∙ ap Some (ap (λ (s : Point). mip_times m s (voxel from) x y z) (sym known.size) ∙ sym (mip.each x y z inside));
    }

-- ---- volumes that agree in a box
in-part : (b : Box3) (x y z : ℕ) → IsInside (size_of b) x y z → IsIn b (b.lo.x + x) (b.lo.y + y) (b.lo.z + z)
in-part b x y z h = record {
  x_from = omega arith;
  x_to = omega (arith, h.x_below);
  y_from = omega arith;
  y_to = omega (arith, h.y_below);
  z_from = omega arith;
  z_to = omega (arith, h.z_below);
}

pub own-agree : {A : Type 0} (mode : Mode A) (m : ℕ) (space b : Box3) (v w : Labels A) → IsAligned m space b → AgreeIn b v w
    → AgreeIn (halved_box m space.lo b) (scale_mips_by mode m space.lo (size_of space) v) (scale_mips_by mode m space.lo (size_of space) w)
own-agree {A = A} mode m space b v w aligned same x y z inside =
    let box = halved_box m space.lo b in
    let at_x : box.lo.x + (x - box.lo.x) ≡ x = omega (arith, inside.x_from) in
    let at_y : box.lo.y + (y - box.lo.y) ≡ y = omega (arith, inside.y_from) in
    let at_z : box.lo.z + (z - box.lo.z) ≡ z = omega (arith, inside.z_from) in
    let in_box : IsInside (size_of box) (x - box.lo.x) (y - box.lo.y) (z - box.lo.z) = record {
      x_below = omega (arith, inside.x_from, inside.x_to);
      y_below = omega (arith, inside.y_from, inside.y_to);
      z_below = omega (arith, inside.z_from, inside.z_to);
    } in
    let within : IsInside (size_times m (size_of b)) (x - box.lo.x) (y - box.lo.y) (z - box.lo.z)
    = subst (λ (s : Point). IsInside s (x - box.lo.x) (y - box.lo.y) (z - box.lo.z)) (own-size m space b aligned) in_box in
    let parts : Agree (size_of b) (part b.lo v) (part b.lo w) = λ p q r h. same (b.lo.x + p) (b.lo.y + q) (b.lo.z + r) (in-part b p q r h) in
    let whole : Labels A → Labels A = scale_mips_by mode m space.lo (size_of space) in
    (λ i. whole v (sym at_x i) (sym at_y i) (sym at_z i))
    ∙ sym (own-part mode m space b v aligned _ _ _ within)
    ∙ mips-agree mode m (size_of b) (part b.lo v) (part b.lo w) parts _ _ _ within
    ∙ own-part mode m space b w aligned _ _ _ within
    ∙ (λ i. whole w (at_x i) (at_y i) (at_z i))

-- ---- more that becomes known
known-lasts : (a b c d p q r s : Option ℕ) → ((k : ℕ) → a ≡ Some k → p ≡ Some k) → ((k : ℕ) → b ≡ Some k → q ≡ Some k)
    → ((k : ℕ) → c ≡ Some k → r ≡ Some k) → ((k : ℕ) → d ≡ Some k → s ≡ Some k) → (k : ℕ) → mode_known a b c d ≡ Some k → mode_known p q r s ≡ Some k
known-lasts (Some a) (Some b) (Some c) (Some d) p q r s in_p in_q in_r in_s k is =
    let e = in_p a refl in
    let f = in_q b refl in
    let g = in_r c refl in
    let h = in_s d refl in
    (λ i. mode_known (e i) (f i) (g i) (h i)) ∙ is
known-lasts None b c d p q r s in_p in_q in_r in_s k is = absurd (cc)
known-lasts (Some a) None c d p q r s in_p in_q in_r in_s k is = absurd (cc)
known-lasts (Some a) (Some b) None d p q r s in_p in_q in_r in_s k is = absurd (cc)
known-lasts (Some a) (Some b) (Some c) None p q r s in_p in_q in_r in_s k is = absurd (cc)

mips_last : (m : ℕ) (offset size : Point) (v w : Labels (Option ℕ)) → Lasts v w → Lasts (scale_mips_by mode_known m offset size v) (scale_mips_by mode_known m offset size w)
mips_last zero offset size v w lasts = lasts
mips_last (suc m) offset size v w lasts =
    mips_last m (halved_offset offset) (halved_size size) (scale_mip_by mode_known offset size v) (scale_mip_by mode_known offset size w)
    (λ x y z. known-lasts _ _ _ _ _ _ _ _ (lasts _ _ _) (lasts _ _ _) (lasts _ _ _) (lasts _ _ _))

pub mips-last : (m : ℕ) (space : Box3) (v w : Labels (Option ℕ)) → Lasts v w → Lasts (scale_mips m space v) (scale_mips m space w)
mips-last m space v w lasts = mips_last m space.lo (size_of space) v w lasts

-- ---- what all labels have
one_of : (P : ℕ → Type 0) (a b d : ℕ) (s t : Bool) → P a → P b → P d → P (if s then a else if t then b else d)
one_of P a b d true t in_a in_b in_d = in_a
one_of P a b d false true in_a in_b in_d = in_b
one_of P a b d false false in_a in_b in_d = in_d

-- the mode is one of the four
mode-keeps : (P : ℕ → Type 0) (a b c d : ℕ) → P a → P b → P c → P d → P (mode_of a b c d)
mode-keeps P a b c d in_a in_b in_c in_d = one_of P a b d (a == b || a == c) (b == c) in_a in_b in_d

abbrev Have : (ℕ → Type 0) → Point → Labels ℕ → Type 0
Have P size v = (x y z : ℕ) → IsInside size x y z → P (v x y z)

mips-have : (P : ℕ → Type 0) (m : ℕ) (size : Point) (v : Labels ℕ) → Have P size v → Have P (size_times m size) (mip_times m size v)
mips-have P zero size v have = have
mips-have P (suc m) size v have =
    mips-have P m (halved_size size) (mip_by mode_of size v)
    (λ x y z inside. let four = block-of size (λ x y z. P (v x y z)) have x y z inside in mode-keeps P _ _ _ _ four.0 four.1 four.2 four.3)

has-mip_have : (P : ℕ → Type 0) (m : ℕ) (from out : Voxels) → HasMip m from out → Have P from.size (voxel from) → Have P out.size (voxel out)
has-mip_have P m from out mip have x y z inside =
    subst P (sym (mip.each x y z inside))
    (mips-have P m from.size (voxel from) have x y z (subst (λ (s : Point). IsInside s x y z) mip.size inside))

pub all-pass : (test : ℕ → Bool) (m : ℕ) (from out : Voxels) → HasMip m from out → AllPass test from → AllPass test out
all-pass test m from out mip = has-mip_have (λ label. test label ≡ true) m from out mip

pub all-fit : (width : Width) (m : ℕ) (from out : Voxels) → HasMip m from out → IsWhole from.size from.labels → IsWhole out.size out.labels
    → AllFit width from.labels → AllFit width out.labels
all-fit width m from out mip whole whole_out fit k below =
    let small : k < count out.size = omega (arith, below, whole_out.length) in
    let x_some : 0 < out.size.x = grind arith in
    let y_some : 0 < out.size.y = grind arith in
    let p = point_at out.size k in
    let inside = point_at-inside out.size k x_some y_some small in
    let have = has-mip_have (FitsWidth width) m from out mip
    (λ x y z h. fit (place_of from.size x y z) (omega (arith, whole.length, number-below from.size (record { x = x; y = y; z = z }) (record { x = h.x_below; y = h.y_below; z = h.z_below })))) in
    subst (λ n. FitsWidth width (slice_index out.labels n)) (place_of-point_at out.size k) (have p.x p.y p.z inside)

known-passes : (test : ℕ → Bool) (a b c d : Option ℕ) → ((k : ℕ) → a ≡ Some k → test k ≡ true) → ((k : ℕ) → b ≡ Some k → test k ≡ true)
    → ((k : ℕ) → c ≡ Some k → test k ≡ true) → ((k : ℕ) → d ≡ Some k → test k ≡ true) → (k : ℕ) → mode_known a b c d ≡ Some k → test k ≡ true
known-passes test (Some a) (Some b) (Some c) (Some d) in_a in_b in_c in_d k is =
    let same : mode_of a b c d ≡ k = cc in
    subst (λ n. test n ≡ true) same (mode-keeps (λ n. test n ≡ true) a b c d (in_a a refl) (in_b b refl) (in_c c refl) (in_d d refl))
known-passes test None b c d in_a in_b in_c in_d k is = absurd (cc)
known-passes test (Some a) None c d in_a in_b in_c in_d k is = absurd (cc)
known-passes test (Some a) (Some b) None d in_a in_b in_c in_d k is = absurd (cc)
known-passes test (Some a) (Some b) (Some c) None in_a in_b in_c in_d k is = absurd (cc)

mips_pass : (test : ℕ → Bool) (m : ℕ) (offset size : Point) (v : Labels (Option ℕ)) → KnownPass test v → KnownPass test (scale_mips_by mode_known m offset size v)
mips_pass test zero offset size v pass = pass
mips_pass test (suc m) offset size v pass =
    mips_pass test m (halved_offset offset) (halved_size size) (scale_mip_by mode_known offset size v)
    (λ x y z. known-passes test _ _ _ _ (pass _ _ _) (pass _ _ _) (pass _ _ _) (pass _ _ _))

pub mips-pass : (test : ℕ → Bool) (m : ℕ) (space : Box3) (v : Labels (Option ℕ)) → KnownPass test v → KnownPass test (scale_mips m space v)
mips-pass test m space v pass = mips_pass test m space.lo (size_of space) v pass
