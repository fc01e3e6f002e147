use Rattle.ig_record.proofs.Verdicts.{parsed-some, parsed-none, still-fails}
use Rattle.ig_record.proofs.parse.parse.Goals as goal

pub returns-in-Ok : goal.returns-in-Ok
returns-in-Ok c = parsed-some _ _ c.in-Ok.ensures.ok.0 c.in-Ok.ensures.ok.1

pub returns-else-is_memory : goal.returns-else-is_memory
returns-else-is_memory c =
    still-fails c.bad_record.result _ _ (parsed-none _ (c.in-Err.ensures.err (λ h. let t = c.is_memory.ensures.1 h in let f = c.if-is_memory.false in absurd cc))) c.bad_record.ensures
