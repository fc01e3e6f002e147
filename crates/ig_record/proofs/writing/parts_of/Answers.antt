use Rattle.ig_record.proofs.Texts.{sound-text}
use Rattle.ig_record.proofs.writing.parts_of.Goals as goal

pub info_value-requires : goal.info_value-requires
info_value-requires c = sound-text c.args.stage.now c.requires
