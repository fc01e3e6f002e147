use Rattle.std.proofs.Common.{ap}
use Rattle.ig_info.specs.Answer.{or_error}
use Rattle.ig_info.specs.declared.error.InfoError.TheVariants.{NotJson}
use Rattle.ig_info.proofs.Ascends.{read-ascends}
use Rattle.ig_info.proofs.Parsed.{parsed-some, parsed-none}
use Rattle.ig_info.proofs.read.parse.Goals as goal

pub returns-in-Ok-clause-value : goal.returns-in-Ok-clause-value
returns-in-Ok-clause-value c = ap (or_error NotJson) (parsed-some _ _ c.in-Ok.ensures.ok.0 c.in-Ok.ensures.ok.1)

pub returns-in-Ok-clause-ordered : goal.returns-in-Ok-clause-ordered
returns-in-Ok-clause-ordered c = read-ascends _ _ c.in-Ok.ensures.ok.1

pub returns-else-is_memory-clause-value : goal.returns-else-is_memory-clause-value
returns-else-is_memory-clause-value c = ap (or_error NotJson) (parsed-none _ (c.in-Err.ensures.err (λ h. let t = c.is_memory.ensures.1 h in let f = c.if-is_memory.false in cc)))
