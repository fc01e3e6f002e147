-- Facts on layouts and sizes that are equal to others.
use Rattle.std.proofs.Common.{arith, ◌≡◌, ◌≤◌, ◌*◌, ◌^◌, ℕ, List, subst, sym}
use Rattle.std.proofs.Math.Nat.{mul-le-mul_right}
use Rattle.ig_space.specs.declared.point.Point.{Point}
use Rattle.ig_cutout.specs.declared.layout.Layout.{Layout}
use Rattle.ig_cutout.specs.Area.{HasRoom, IsInOrder}
use Rattle.ig_cutout.specs.Laid.{IsLaid}

pub room-at : (each : ℕ) (l l' : Layout) (p p' : Point) (n n' : ℕ) → l ≡ l' → p ≡ p' → n ≡ n' → HasRoom each l' p' n' → HasRoom each l p n
room-at each l l' p p' n n' el ep en h =
    subst (λ (a : Layout). HasRoom each a p n) (sym el) (subst (λ (a : Point). HasRoom each l' a n) (sym ep) (subst (λ a. HasRoom each l' p' a) (sym en) h))

pub order-at : (l l' : Layout) (p p' : Point) → l ≡ l' → p ≡ p' → IsInOrder l' p' → IsInOrder l p
order-at l l' p p' el ep h = subst (λ (a : Layout). IsInOrder a p) (sym el) (subst (λ (a : Point). IsInOrder l' a) (sym ep) h)

pub laid-at : (number : ℕ → ℕ) (s s' t t' : Layout) (p p' : Point) (old new : List ℕ) → s ≡ s' → t ≡ t' → p ≡ p' → IsLaid number s t p old new → IsLaid number s' t' p' old new
laid-at number s s' t t' p p' old new es et ep h =
    subst (λ (a : Layout). IsLaid number a t' p' old new) es (subst (λ (a : Layout). IsLaid number s a p' old new) et (subst (λ (a : Point). IsLaid number s t a old new) ep h))

-- few labels of few bytes have few bytes
pub few_bytes : (each n : ℕ) → each ≤ 8 → n ≤ 2 ^ 24 → each * n ≤ 2 ^ 27
few_bytes each n few less =
    let h : each * n ≤ 8 * n = mul-le-mul_right n few in
    omega arith
