-- So far the bytes have the first records, and the rest is as it was.
use Rattle.std.proofs.Common.{◌≡◌, ◌*◌, ◌++◌, take, drop}
use Rattle.std.specs.List.{flat_map}
use Rattle.ig_faces.specs.Records.{AllReadBack}
use Rattle.ig_faces.proofs.records.write_records.Given as goal

abbrev pub invariant-loop-place : goal.invariant-loop-place
invariant-loop-place g l =
    (l.bytes ≡ flat_map g.R.Record.text (take l.place l.records) ++ drop (g.R.Record.EACH * l.place) l.fn.bytes)
    × AllReadBack g.R.Record.EACH g.R.Record.read g.R.Record.text (take l.place l.records)
