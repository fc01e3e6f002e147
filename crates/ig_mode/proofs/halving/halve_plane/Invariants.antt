-- So far the first rows are written.
use Rattle.std.proofs.Common.{◌≡◌, ℕ, ◌+◌, ◌*◌, ◌<◌, slice_index}
use Rattle.ig_mode.specs.Mode.{half_up, plane_mode}
use Rattle.ig_mode.proofs.halving.halve_plane.Given as goal

abbrev pub invariant-loop-y : goal.invariant-loop-y
invariant-loop-y l = (x y : ℕ) → x < half_up l.wide → y < l.y → slice_index l.out (x + half_up l.wide * y) ≡ plane_mode l.wide l.tall l.plane x y
