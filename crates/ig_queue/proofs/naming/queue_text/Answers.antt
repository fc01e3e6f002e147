use Rattle.std.proofs.Common.{◌≡◌, ◌++◌, ◌∷◌, ℕ, List, IfOk, string_bytes, codes, ap, subst, ◌∙◌, arith}
use Rattle.std.specs.Fmt.{styled_decimal}
use Rattle.ig_defs.specs.QueueNames.{digits}
use Rattle.ig_defs.specs.QueueNameLaws.{IsName-fits}
use Rattle.ig_defs.specs.Padded.{written}
use Rattle.ig_queue.proofs.naming.queue_text.Goals as goal

pub returns : goal.returns
returns c =
    let name = c.args.name in
    let bounds = IsName-fits name c.requires in
    let visible : styled_decimal c.laid_out.result name.visible ≡ digits 10 name.visible =
    ap (λ s. styled_decimal s name.visible) c.laid_out.ensures ∙ written 9 name.visible bounds.visible (omega (arith, bounds.visible)) in
    let stage : styled_decimal c.laid_out-2.result name.stage ≡ digits 4 name.stage =
    ap (λ s. styled_decimal s name.stage) c.laid_out-2.ensures ∙ written 3 name.stage bounds.stage (omega (arith, bounds.stage)) in
    let task : styled_decimal c.laid_out-3.result name.task ≡ digits 6 name.task =
    ap (λ s. styled_decimal s name.task) c.laid_out-3.ensures ∙ written 5 name.task bounds.task (omega (arith, bounds.task)) in
    let attempt : styled_decimal c.laid_out-4.result name.attempt ≡ digits 3 name.attempt =
    ap (λ s. styled_decimal s name.attempt) c.laid_out-4.ensures ∙ written 2 name.attempt bounds.attempt (omega (arith, bounds.attempt)) in
    subst (λ (bs : List ℕ). IfOk c.format.result (λ text. string_bytes text ≡ bs))
    (λ i. visible i ++ 45 ∷ 45 ∷ (stage i ++ 45 ∷ (task i ++ 45 ∷ (attempt i ++ codes ".json")))) c.format.ensures.ok
