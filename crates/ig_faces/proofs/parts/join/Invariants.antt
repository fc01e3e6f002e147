-- So far the first parts are joined.
use Rattle.std.proofs.Common.{◌≡◌, take, map}
use Rattle.ig_faces.specs.PartsFile.{first_of, label_of}
use Rattle.ig_faces.proofs.parts.join.Given as goal

abbrev pub invariant-loop-place : goal.invariant-loop-place
invariant-loop-place l = (map first_of l.parts.items ≡ take l.place l.firsts) × (map label_of l.parts.items ≡ take l.place l.values)
