use Rattle.ig_record.proofs.Texts.{utf8-ok}
use Rattle.ig_record.proofs.writing.text_of.Goals as goal

pub unwrap-requires : goal.unwrap-requires
unwrap-requires c = utf8-ok c.args.bytes.now c.from_utf8.result (λ s. s.now) _ c.from_utf8.ensures.cases c.requires
