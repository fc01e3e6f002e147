use Rattle.ig_record.specs.SoundFacts.{chunk-small}
use Rattle.ig_record.proofs.soundness.unit.Goals as goal

pub before_mips-requires-clause-x : goal.before_mips-requires-clause-x
before_mips-requires-clause-x c = (chunk-small c.args.stage.now.source.geometry c.requires.fits).0

pub before_mips-requires-clause-y : goal.before_mips-requires-clause-y
before_mips-requires-clause-y c = (chunk-small c.args.stage.now.source.geometry c.requires.fits).1
