-- So far the first planes were read.
use Rattle.ig_space.specs.Raw.{AllFit}
use Rattle.ig_cutout.specs.Laid.{IsLaid, number_in}
use Rattle.ig_cutout.proofs.read.read_planes.Given as goal

abbrev pub invariant-loop-z : goal.invariant-loop-z
invariant-loop-z l =
    IsLaid (number_in l.width l.text) l.source l.target (record { x = l.fn.size.x; y = l.fn.size.y; z = l.z }) l.fn.labels l.labels × (AllFit l.width l.fn.labels → AllFit l.width l.labels)
