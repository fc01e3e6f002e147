-- So far the first rows are there.
use Rattle.std.proofs.Common.{◌≡◌}
use Rattle.ig_faces.specs.Faces.{grid_plane}
use Rattle.ig_faces.proofs.faces.plane.Given as goal

abbrev pub invariant-loop-row : goal.invariant-loop-row
invariant-loop-row l = l.parts.items ≡ grid_plane l.local l.from l.step l.width l.leap l.row
