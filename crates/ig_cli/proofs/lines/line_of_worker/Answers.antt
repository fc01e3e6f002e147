use Rattle.std.proofs.Common.{ap}
use Rattle.ig_meaning.specs.Refusal as refusal
use Rattle.ig_cli.specs.Report.{ending_of_worker}
use Rattle.ig_cli.proofs.Reports.{tells_refusal}
use Rattle.ig_cli.proofs.lines.line_of_worker.Goals as goal

pub returns-in-Absent : goal.returns-in-Absent
returns-in-Absent c =
    tells_refusal (refusal.Missing c.as_str.result.now) (refusal.Missing c.in-Absent.path) _ _ (ap (λ p. refusal.Missing p) c.as_str.ensures.value)
    (ap ending_of_worker c.in-Absent.is) (c.refused.ensures _ c.missing.ensures)

pub returns-in-BadRecord : goal.returns-in-BadRecord
returns-in-BadRecord c =
    tells_refusal (refusal.BadRecord c.as_str-in-BadRecord.result.now c.as_str-in-BadRecord-2.result.now) (refusal.BadRecord c.in-BadRecord.path c.in-BadRecord.member) _ _
    (λ i. refusal.BadRecord (c.as_str-in-BadRecord.ensures.value i) (c.as_str-in-BadRecord-2.ensures i)) (ap ending_of_worker c.in-BadRecord.is)
    (c.refused-in-BadRecord.ensures (refusal.BadRecord c.as_str-in-BadRecord.result.now c.as_str-in-BadRecord-2.result.now) c.bad_record.ensures)
