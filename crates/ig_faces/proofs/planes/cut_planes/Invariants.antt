-- So far the first planes are cut.
use Rattle.std.proofs.Common.{◌≡◌, length, map, sum, take}
use Rattle.std.specs.List.{concat}
use Rattle.ig_faces.proofs.planes.cut_planes.Given as goal

abbrev pub invariant-loop-size : goal.invariant-loop-size
invariant-loop-size l =
    (l.from ≡ sum (take l.size-index l.sizes)) × (concat l.planes ≡ take l.from l.numbers) × (map length l.planes ≡ take l.size-index l.sizes)
