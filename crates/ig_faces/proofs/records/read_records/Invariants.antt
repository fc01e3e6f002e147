-- So far the first records are read.
use Rattle.std.proofs.Common.{◌≡◌, ◌*◌, take}
use Rattle.std.specs.List.{flat_map}
use Rattle.ig_faces.specs.Records.{records_in}
use Rattle.ig_faces.proofs.records.read_records.Given as goal

abbrev pub invariant-loop-place : goal.invariant-loop-place
invariant-loop-place g l =
    (l.records.items ≡ records_in g.R.Record.read g.R.Record.EACH l.place l.bytes)
    × (flat_map g.R.Record.text l.records.items ≡ take (g.R.Record.EACH * l.place) l.bytes)
