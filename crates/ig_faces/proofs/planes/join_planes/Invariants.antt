-- So far the numbers are those of the first planes.
use Rattle.std.proofs.Common.{◌≡◌, take}
use Rattle.std.specs.List.{concat}
use Rattle.ig_faces.proofs.planes.join_planes.Given as goal

abbrev pub invariant-loop-plane : goal.invariant-loop-plane
invariant-loop-plane l = l.numbers.items ≡ concat (take l.plane-index l.planes)
