-- So far the text has the bytes of the first labels, and the rest is as it was.
use Rattle.std.proofs.Common.{◌≡◌, ◌*◌, ◌++◌, drop, take}
use Rattle.std.specs.List.{flat_map}
use Rattle.std.specs.Int.{bytes_low_first}
use Rattle.ig_space.proofs.raw.write_each.Given as goal

abbrev pub invariant-loop-place : goal.invariant-loop-place
invariant-loop-place g l = l.text ≡ flat_map (bytes_low_first 0 g.row.N) (take l.place l.labels) ++ drop (g.row.N * l.place) l.fn.text
