use Rattle.std.proofs.Common.{arith}
use Rattle.ig_record.specs.SoundStages.{IsSound-from}
use Rattle.ig_record.proofs.lists.source_chunks.Goals as goal

pub chunks_of-requires-clause-fits : goal.chunks_of-requires-clause-fits
chunks_of-requires-clause-fits c = (IsSound-from c.args.stage.now c.requires.sound).fits

pub chunks_of-requires-clause-short : goal.chunks_of-requires-clause-short
chunks_of-requires-clause-short c = let short = (IsSound-from c.args.stage.now c.requires.sound).layers.dir.short in omega (arith, short)
