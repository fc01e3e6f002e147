-- So far the first rows were read.
use Rattle.ig_space.specs.Raw.{AllFit}
use Rattle.ig_cutout.specs.Laid.{IsLaid, number_in}
use Rattle.ig_cutout.proofs.read.read_rows.Given as goal

abbrev pub invariant-loop-y : goal.invariant-loop-y
invariant-loop-y l =
    IsLaid (number_in l.width l.text) l.source l.target (record { x = l.fn.size.x; y = l.y; z = 1 }) l.fn.labels l.labels × (AllFit l.width l.fn.labels → AllFit l.width l.labels)
