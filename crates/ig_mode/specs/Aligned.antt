-- Boxes of a space that hold whole blocks, where the scale is halved so often.
use Rattle.std.specs.Prelude.{ℕ, ◌+◌, ◌*◌, ◌^◌, ◌≤◌, ◌≡◌, ◌⊎◌}
use Rattle.ig_space.specs.declared.point.Box3.{Box3}

-- Along one axis: the part begins so many times 2^m from the side's begin, and ends so too, or where the side ends.
pub record IsAlignedAlong (m lo hi from to : ℕ) : Type 0 where
  pub place : ℕ
  pub begins : from ≡ lo + 2 ^ m * place
  pub order : from ≤ to
  pub within : to ≤ hi
  pub ends : ((n : ℕ) × (to ≡ lo + 2 ^ m * n)) ⊎ (to ≡ hi)

-- The box lies in the space, and is aligned in x and y.
pub record IsAligned (m : ℕ) (space b : Box3) : Type 0 where
  pub x : IsAlignedAlong m space.lo.x space.hi.x b.lo.x b.hi.x
  pub y : IsAlignedAlong m space.lo.y space.hi.y b.lo.y b.hi.y
  pub z_from : space.lo.z ≤ b.lo.z
  pub z_to : b.hi.z ≤ space.hi.z
