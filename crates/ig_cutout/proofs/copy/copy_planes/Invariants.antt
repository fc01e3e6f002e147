-- So far the first planes were copied.
use Rattle.std.proofs.Common.{slice_index}
use Rattle.ig_space.specs.declared.geometry.Width.{Width}
use Rattle.ig_space.specs.Raw.{AllFit}
use Rattle.ig_cutout.specs.Laid.{IsLaid}
use Rattle.ig_cutout.proofs.copy.copy_planes.Given as goal

abbrev pub invariant-loop-z : goal.invariant-loop-z
invariant-loop-z l =
    IsLaid (slice_index l.source) l.from l.to (record { x = l.fn.size.x; y = l.fn.size.y; z = l.z }) l.fn.labels l.labels
    × ((width : Width) → AllFit width l.source → AllFit width l.fn.labels → AllFit width l.labels)
