-- Mips of volumes whose labels may be unknown.
use Rattle.std.specs.Prelude.{◌≡◌, ℕ, ◌+◌, Option, None, Some, Bool, true}
use Rattle.ig_space.specs.declared.point.Point.{Point}
use Rattle.ig_space.specs.declared.point.Box3.{Box3}
use Rattle.ig_space.specs.Grid.{IsIn, size_of}
use Rattle.ig_space.specs.Volume.{IsInside, Voxels, voxel}
use Rattle.ig_mode.specs.Mode.{mode_of}
use Rattle.ig_mode.specs.Mips.{Labels, scale_mips_by}

-- the mode of four labels a at (0, 0), b at (1, 0), c at (0, 1), d at (1, 1), whatever the labels are
abbrev pub Mode : Type 0 → Type 0
Mode A = A → A → A → A → A

-- the mode of four labels, which is known where they are
abbrev pub mode_known : Option ℕ → Option ℕ → Option ℕ → Option ℕ → Option ℕ
mode_known (Some a) (Some b) (Some c) (Some d) = Some (mode_of a b c d)
mode_known a b c d = None

-- the mip of a scale's volume, taken m times, by the coordinates of the volume
abbrev pub scale_mips : ℕ → Box3 → Labels (Option ℕ) → Labels (Option ℕ)
scale_mips m space v = scale_mips_by mode_known m space.lo (size_of space) v

-- the volume is known in the box, and has these labels there
pub record IsKnown (v : Labels (Option ℕ)) (b : Box3) (labels : Voxels) : Type 0 where
  pub size : labels.size ≡ size_of b
  pub each : (x y z : ℕ) → IsInside labels.size x y z → v (b.lo.x + x) (b.lo.y + y) (b.lo.z + z) ≡ Some (voxel labels x y z)

-- the volumes have the same labels in the box
abbrev pub AgreeIn : {A : Type 0} → Box3 → Labels A → Labels A → Type 0
AgreeIn b v w = (x y z : ℕ) → IsIn b x y z → v x y z ≡ w x y z

-- what is known in v is known in w, and is the same there
abbrev pub Lasts : Labels (Option ℕ) → Labels (Option ℕ) → Type 0
Lasts v w = (x y z label : ℕ) → v x y z ≡ Some label → w x y z ≡ Some label

-- each label that is known passes the test
abbrev pub KnownPass : (ℕ → Bool) → Labels (Option ℕ) → Type 0
KnownPass test v = (x y z label : ℕ) → v x y z ≡ Some label → test label ≡ true

-- each label of a volume passes the test
abbrev pub AllPass : (ℕ → Bool) → Voxels → Type 0
AllPass test v = (x y z : ℕ) → IsInside v.size x y z → test (voxel v x y z) ≡ true
