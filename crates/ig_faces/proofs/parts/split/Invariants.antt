-- So far the first parts are split.
use Rattle.std.proofs.Common.{◌≡◌, take, map}
use Rattle.ig_faces.specs.PartsFile.{first_of, label_of}
use Rattle.ig_faces.proofs.parts.split.Given as goal

abbrev pub invariant-loop-part : goal.invariant-loop-part
invariant-loop-part l = (l.firsts.items ≡ map first_of (take l.part-index l.parts)) × (l.values.items ≡ map label_of (take l.part-index l.parts))
