-- What the mips of a scale stand on.
use Rattle.std.specs.Prelude.{◌≤◌, ◌*◌, ◌^◌, ℕ, List, All}
use Rattle.ig_space.specs.declared.point.Point.{Point}
use Rattle.ig_info.specs.declared.scale.Scale.{Scale}
use Rattle.ig_info.specs.Added.{HasWidth}

-- doubled so often in x and y, no side is above 2^40
pub record CanDouble (times : ℕ) (resolution : Point) : Type 0 where
  pub x : 2 ^ times * resolution.x ≤ 2 ^ 40
  pub y : 2 ^ times * resolution.y ≤ 2 ^ 40
  pub z : resolution.z ≤ 2 ^ 40

-- the labels of each of the new scales are as wide as those of an old one
abbrev pub AreAsWide : List Scale → List Scale → Type 0
AreAsWide old new = All (λ (s : Scale). HasWidth old s.geometry.width) new
