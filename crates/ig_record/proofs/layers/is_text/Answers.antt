use Rattle.std.proofs.Common.{◌∙◌}
use Rattle.ig_record.proofs.Splits.{utf8-tested}
use Rattle.ig_record.proofs.layers.is_text.Goals as goal

pub returns : goal.returns
returns c = c.is_ok.ensures.value ∙ utf8-tested c.args.bytes.now c.from_utf8.result (λ s. s.now) _ c.from_utf8.ensures.cases
