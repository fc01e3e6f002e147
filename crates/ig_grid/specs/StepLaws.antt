-- A step is one up along an axis, one way or the other.
use Rattle.std.proofs.Common.{ℕ, ◌+◌, true, ◌≡◌, ◌&&◌, ◌||◌, eqb, refl, sym, ◌⊎◌, inl, inr}
use Rattle.std.proofs.lemmas.Bool.{and_parts, and_from, or_cases, eqb-true, eq-eqb, or_left, or_right}
use Rattle.ig_space.specs.declared.point.Point.{Point}
use Rattle.ig_label.specs.VoxelGraph.{differ_by_one, are_beside}
use Rattle.ig_grid.specs.BoxGraph.{label_of}
use Rattle.ig_grid.specs.BoxLaws.{are_alike}
use Rattle.ig_grid.specs.Links.{Axis, x_axis, y_axis, z_axis, up}

-- one point is one up from the other along some axis
pub data AreNext (a b : Point) : Type 0 where
  next_up : (axis : Axis) → b ≡ up axis a → AreNext a b
  next_down : (axis : Axis) → a ≡ up axis b → AreNext a b

differs : (a b : ℕ) → differ_by_one a b ≡ true → (a + 1 ≡ b) ⊎ (b + 1 ≡ a)
differs a b h = by_case (or_cases (eqb (a + 1) b) (eqb (b + 1) a) h) where
  by_case : (eqb (a + 1) b ≡ true) ⊎ (eqb (b + 1) a ≡ true) → (a + 1 ≡ b) ⊎ (b + 1 ≡ a)
  by_case (inl e) = inl (eqb-true (a + 1) b e)
  by_case (inr e) = inr (eqb-true (b + 1) a e)

module _ (a b : Point) where
  x_way : (a.x + 1 ≡ b.x) ⊎ (b.x + 1 ≡ a.x) → a.y ≡ b.y → a.z ≡ b.z → AreNext a b
  x_way (inl e) ey ez = next_up x_axis (λ i. record { x = sym e i; y = sym ey i; z = sym ez i })
  x_way (inr e) ey ez = next_down x_axis (λ i. record { x = sym e i; y = ey i; z = ez i })

  y_way : a.x ≡ b.x → (a.y + 1 ≡ b.y) ⊎ (b.y + 1 ≡ a.y) → a.z ≡ b.z → AreNext a b
  y_way ex (inl e) ez = next_up y_axis (λ i. record { x = sym ex i; y = sym e i; z = sym ez i })
  y_way ex (inr e) ez = next_down y_axis (λ i. record { x = ex i; y = sym e i; z = ez i })

  z_way : a.x ≡ b.x → a.y ≡ b.y → (a.z + 1 ≡ b.z) ⊎ (b.z + 1 ≡ a.z) → AreNext a b
  z_way ex ey (inl e) = next_up z_axis (λ i. record { x = sym ex i; y = sym ey i; z = sym e i })
  z_way ex ey (inr e) = next_down z_axis (λ i. record { x = ex i; y = ey i; z = sym e i })

  by_rest : ((eqb a.x b.x && (differ_by_one a.y b.y && eqb a.z b.z)) ≡ true) ⊎ ((eqb a.x b.x && (eqb a.y b.y && differ_by_one a.z b.z)) ≡ true) → AreNext a b
  by_rest (inl h) =
      let s = and_parts _ _ h in
      let t = and_parts _ _ s.1 in
      y_way (eqb-true a.x b.x s.0) (differs a.y b.y t.0) (eqb-true a.z b.z t.1)
  by_rest (inr h) =
      let s = and_parts _ _ h in
      let t = and_parts _ _ s.1 in
      z_way (eqb-true a.x b.x s.0) (eqb-true a.y b.y t.0) (differs a.z b.z t.1)

  by_axis : ((differ_by_one a.x b.x && (eqb a.y b.y && eqb a.z b.z)) ≡ true)
      ⊎ (((eqb a.x b.x && (differ_by_one a.y b.y && eqb a.z b.z)) || (eqb a.x b.x && (eqb a.y b.y && differ_by_one a.z b.z))) ≡ true) → AreNext a b
  by_axis (inl h) =
      let s = and_parts _ _ h in
      let t = and_parts _ _ s.1 in
      x_way (differs a.x b.x s.0) (eqb-true a.y b.y t.0) (eqb-true a.z b.z t.1)
  by_axis (inr h) = by_rest (or_cases _ _ h)

  pub beside-next : are_beside a b ≡ true → AreNext a b
  beside-next h = by_axis (or_cases _ _ h)

-- and the points one up are beside
one-differs : (n : ℕ) → differ_by_one n (n + 1) ≡ true
one-differs n = or_left (eqb (n + 1) (n + 1)) (eqb (n + 1 + 1) n) (eq-eqb (n + 1) (n + 1) refl)

self-eqb : (n : ℕ) → eqb n n ≡ true
self-eqb n = eq-eqb n n refl

pub up-beside : (axis : Axis) (a : Point) → are_beside a (up axis a) ≡ true
up-beside x_axis a = or_left _ _ (and_from _ _ (one-differs a.x) (and_from _ _ (self-eqb a.y) (self-eqb a.z)))
up-beside y_axis a = or_right _ _ (or_left _ _ (and_from _ _ (self-eqb a.x) (and_from _ _ (one-differs a.y) (self-eqb a.z))))
up-beside z_axis a = or_right _ _ (or_right _ _ (and_from _ _ (self-eqb a.x) (and_from _ _ (self-eqb a.y) (one-differs a.z))))

pub up-alike : (volume : ℕ → ℕ → ℕ → ℕ) (axis : Axis) (a : Point) → label_of volume a ≡ label_of volume (up axis a) → are_alike volume a (up axis a) ≡ true
up-alike volume axis a e = and_from _ _ (up-beside axis a) (eq-eqb (label_of volume a) (label_of volume (up axis a)) e)
