use Rattle.std.proofs.Common.{◌≡◌, ◌<◌, ◌^◌, ◌++◌, ℕ, List, IfOk, string_bytes, codes, ap, subst, ◌∙◌, arith}
use Rattle.std.proofs.lemmas.Bool.{ltb-true}
use Rattle.std.specs.Fmt.{styled_decimal}
use Rattle.ig_defs.specs.QueueNames.{digits}
use Rattle.ig_defs.specs.Padded.{written}
use Rattle.ig_queue.proofs.naming.stage_text.Goals as goal

pub returns : goal.returns
returns c =
    let small : c.args.stage < 10 ^ 4 = ltb-true c.args.stage (10 ^ 4) c.requires in
    let stage : styled_decimal c.laid_out.result c.args.stage ≡ digits 4 c.args.stage =
    ap (λ s. styled_decimal s c.args.stage) c.laid_out.ensures ∙ written 3 c.args.stage small (omega (arith, small)) in
    subst (λ (ds : List ℕ). IfOk c.format.result (λ text. string_bytes text ≡ ds ++ codes ".json")) stage c.format.ensures.ok
