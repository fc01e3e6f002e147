-- So far the first rows were copied.
use Rattle.std.proofs.Common.{slice_index}
use Rattle.ig_space.specs.declared.geometry.Width.{Width}
use Rattle.ig_space.specs.Raw.{AllFit}
use Rattle.ig_cutout.specs.Laid.{IsLaid}
use Rattle.ig_cutout.proofs.copy.copy_rows.Given as goal

abbrev pub invariant-loop-y : goal.invariant-loop-y
invariant-loop-y l =
    IsLaid (slice_index l.source) l.from l.to (record { x = l.fn.size.x; y = l.y; z = 1 }) l.fn.labels l.labels
    × ((width : Width) → AllFit width l.source → AllFit width l.fn.labels → AllFit width l.labels)
