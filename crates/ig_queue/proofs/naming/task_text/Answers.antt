use Rattle.std.proofs.Common.{◌≡◌, ◌++◌, ◌∷◌, ℕ, List, IfOk, string_bytes, codes, ap, subst, ◌∙◌, arith}
use Rattle.std.specs.Fmt.{styled_decimal}
use Rattle.ig_defs.specs.QueueNames.{digits}
use Rattle.ig_defs.specs.QueueNameLaws.{IsTask-fits}
use Rattle.ig_defs.specs.Padded.{written}
use Rattle.ig_queue.proofs.naming.task_text.Goals as goal

pub returns : goal.returns
returns c =
    let bounds = IsTask-fits c.args.id c.requires in
    let stage : styled_decimal c.laid_out.result c.args.id.stage ≡ digits 4 c.args.id.stage =
    ap (λ s. styled_decimal s c.args.id.stage) c.laid_out.ensures ∙ written 3 c.args.id.stage bounds.stage (omega (arith, bounds.stage)) in
    let task : styled_decimal c.laid_out-2.result c.args.id.task ≡ digits 6 c.args.id.task =
    ap (λ s. styled_decimal s c.args.id.task) c.laid_out-2.ensures ∙ written 5 c.args.id.task bounds.task (omega (arith, bounds.task)) in
    subst (λ (bs : List ℕ). IfOk c.format.result (λ text. string_bytes text ≡ bs)) (λ i. stage i ++ 45 ∷ (task i ++ codes ".json")) c.format.ensures.ok
