-- So far the text begins with the first planes, and the rest is as it was.
use Rattle.std.proofs.Common.{◌≡◌, ◌*◌, ◌++◌, drop}
use Rattle.ig_space.specs.Geometry.{label_len}
use Rattle.ig_space.specs.Raw.{raw_text}
use Rattle.ig_cutout.specs.Gathered.{planes_of}
use Rattle.ig_cutout.proofs.write.write_planes.Given as goal

abbrev pub invariant-loop-z : goal.invariant-loop-z
invariant-loop-z l =
    l.text ≡ raw_text l.width (planes_of l.labels l.source l.fn.size.x l.fn.size.y l.z) ++ drop (label_len l.width * l.fn.size.x * l.fn.size.y * l.z) l.fn.text
