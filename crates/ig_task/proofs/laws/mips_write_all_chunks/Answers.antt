use Rattle.ig_task.specs.WholeMips.{mips-write}
use Rattle.ig_task.proofs.laws.mips_write_all_chunks.Goals as goal

pub returns : goal.returns
returns c = mips-write
