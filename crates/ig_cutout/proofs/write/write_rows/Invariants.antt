-- So far the text begins with the first rows, and the rest is as it was.
use Rattle.std.proofs.Common.{◌≡◌, ◌*◌, ◌++◌, drop}
use Rattle.ig_space.specs.Geometry.{label_len}
use Rattle.ig_space.specs.Raw.{raw_text}
use Rattle.ig_cutout.specs.Gathered.{rows_of}
use Rattle.ig_cutout.proofs.write.write_rows.Given as goal

abbrev pub invariant-loop-y : goal.invariant-loop-y
invariant-loop-y l = l.text ≡ raw_text l.width (rows_of l.labels l.source l.fn.size.x l.y) ++ drop (label_len l.width * l.fn.size.x * l.y) l.fn.text
