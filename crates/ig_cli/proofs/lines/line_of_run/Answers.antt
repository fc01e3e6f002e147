use Rattle.std.proofs.Common.{ap, refl}
use Rattle.ig_meaning.specs.Refusal as refusal
use Rattle.ig_cutout.specs.Inputs.{cause_of}
use Rattle.ig_stage.specs.Running.{ending_of_run}
use Rattle.ig_cli.proofs.Reports.{tells_refusal}
use Rattle.ig_cli.proofs.lines.line_of_run.Goals as goal

pub returns-in-Missing : goal.returns-in-Missing
returns-in-Missing c =
    tells_refusal (refusal.Missing c.as_str.result.now) (refusal.Missing c.in-Missing.path) _ _ (ap (λ p. refusal.Missing p) c.as_str.ensures.value)
    (ap ending_of_run c.in-Missing.is) (c.refused.ensures _ c.missing.ensures)

pub returns-in-Malformed : goal.returns-in-Malformed
returns-in-Malformed c =
    tells_refusal (refusal.Malformed c.as_str-in-Malformed.result.now (cause_of c.in-Malformed.cause)) (refusal.Malformed c.in-Malformed.path (cause_of c.in-Malformed.cause)) _ _
    (ap (λ p. refusal.Malformed p (cause_of c.in-Malformed.cause)) c.as_str-in-Malformed.ensures.value)
    (ap ending_of_run c.in-Malformed.is) (c.refused-in-Malformed.ensures (refusal.Malformed c.as_str-in-Malformed.result.now (cause_of c.in-Malformed.cause)) c.bad_file.ensures)

pub returns-in-TooManyParts : goal.returns-in-TooManyParts
returns-in-TooManyParts c =
    tells_refusal (refusal.TooManyParts c.in-TooManyParts.count) (refusal.TooManyParts c.in-TooManyParts.count) _ _ refl
    (ap ending_of_run c.in-TooManyParts.is) (c.refused-in-TooManyParts.ensures (refusal.TooManyParts c.in-TooManyParts.count) c.too_many_parts.ensures)
