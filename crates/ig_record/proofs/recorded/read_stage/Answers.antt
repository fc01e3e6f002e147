use Rattle.std.proofs.Common.{ℕ, ◌^◌, ◌<◌, lt_of_lt_of_le, lit≤}
use Rattle.ig_record.specs.Reading.{record_in}
use Rattle.ig_record.specs.ReadingLaws.{record_in-IsRecord, IsRecord-record_in}
use Rattle.ig_record.specs.Record.{IsRecord}
use Rattle.ig_record.proofs.Verdicts.{gives-ok, gives-back, gives-refused}
use Rattle.ig_record.proofs.recorded.read_stage.Goals as goal

wide : (n : ℕ) → n < 2 ^ 32 → n < 2 ^ 64
wide n h = lt_of_lt_of_le h (lit≤ tt)

pub returns-clause-ok : goal.returns-clause-ok
returns-clause-ok c =
    gives-ok c.read_record.result (record_in c.args.number c.args.bytes.now) (λ stage. IsRecord c.args.number stage c.args.bytes.now)
    (λ stage. record_in-IsRecord c.args.number stage c.args.bytes.now) c.read_record.ensures

pub returns-clause-back : goal.returns-clause-back
returns-clause-back c =
    λ stage is.
    gives-back c.read_record.result (record_in c.args.number c.args.bytes.now) stage
    (IsRecord-record_in c.args.number stage c.args.bytes.now (wide c.args.number c.ranges.number.fits) is) c.read_record.ensures

pub returns-clause-refused : goal.returns-clause-refused
returns-clause-refused c =
    gives-refused c.read_record.result (record_in c.args.number c.args.bytes.now) (λ stage. IsRecord c.args.number stage c.args.bytes.now)
    (λ stage. IsRecord-record_in c.args.number stage c.args.bytes.now (wide c.args.number c.ranges.number.fits)) c.read_record.ensures
