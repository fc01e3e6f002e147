use Rattle.std.proofs.Common.{◌≡◌, ◌++◌, ℕ, List, IfOk, string_bytes, ap, subst, ◌∙◌, arith}
use Rattle.std.specs.Fmt.{styled_decimal}
use Rattle.ig_defs.specs.Padded.{written}
use Rattle.ig_defs.specs.QueueNames.{digits}
use Rattle.ig_record.proofs.files.number_name.Goals as goal

pub returns : goal.returns
returns c =
    let number : styled_decimal c.laid_out.result c.args.number ≡ digits 6 c.args.number =
    ap (λ s. styled_decimal s c.args.number) c.laid_out.ensures ∙ written 5 c.args.number c.requires.small (let small = c.requires.small in omega (arith, small)) in
    subst (λ (ds : List ℕ). IfOk c.format.result (λ text. string_bytes text ≡ ds ++ c.args.ending.now)) number c.format.ensures.ok
