-- So far no record is wrong: what is wrong in the rest is what is wrong in all.
use Rattle.std.proofs.Common.{◌≡◌, ◌+◌, ◌*◌, drop, None}
use Rattle.ig_faces.specs.Records.{first_wrong}
use Rattle.ig_faces.proofs.records.find_wrong.Given as goal

abbrev pub invariant-loop-place : goal.invariant-loop-place
invariant-loop-place g l =
    first_wrong (g.T.Rule.wrong l.rule) g.R.Record.EACH (l.head + g.R.Record.EACH * l.place) l.before (drop l.place l.records)
    ≡ first_wrong (g.T.Rule.wrong l.rule) g.R.Record.EACH l.head None l.records
