use Rattle.std.proofs.Common.{rules, append_assoc}
use Rattle.ig_space.proofs.chunk.chunk_text.Goals as goal

pub returns : goal.returns
returns c = simp append_assoc (search rules)
