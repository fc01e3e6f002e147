use Rattle.ig_task.specs.WholeCopies.{copy-writes}
use Rattle.ig_task.proofs.laws.copies_write_all_chunks.Goals as goal

pub returns : goal.returns
returns c = copy-writes
