use Rattle.ig_stage.proofs.InfoTexts.{utf8-info}
use Rattle.ig_stage.proofs.mipping.mips_info.Goals as goal

pub returns-in_ok-write_info-in-Ok-clause-text : goal.returns-in_ok-write_info-in-Ok-clause-text
returns-in_ok-write_info-in-Ok-clause-text c = utf8-info _ _ c.in_ok-write_info-in-Ok.ensures.reads_back
