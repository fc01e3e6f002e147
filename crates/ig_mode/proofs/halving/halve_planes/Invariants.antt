-- So far the first planes are written.
use Rattle.std.proofs.Common.{◌≡◌, ℕ, ◌<◌, slice_index}
use Rattle.ig_space.specs.Volume.{place_of}
use Rattle.ig_mode.specs.HasMips.{labels_of}
use Rattle.ig_mode.specs.Mips.{halved_size, mip}
use Rattle.ig_mode.specs.Mode.{half_up}
use Rattle.ig_mode.proofs.halving.halve_planes.Given as goal

abbrev pub invariant-loop-z : goal.invariant-loop-z
invariant-loop-z l = (x y z : ℕ) → x < half_up l.fn.size.x → y < half_up l.fn.size.y → z < l.z → slice_index l.out (place_of (halved_size l.fn.size) x y z) ≡ mip l.fn.size (labels_of l.fn.size l.labels) x y z
