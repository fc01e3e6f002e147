use Rattle.std.proofs.Common.{◌≡◌, ◌<◌, ◌%◌, ◌^◌, ℕ, List, IfOk, string_bytes, ap, subst, ◌∙◌, arith}
use Rattle.std.specs.Fmt.{styled_decimal}
use Rattle.ig_defs.specs.QueueNames.{digits}
use Rattle.ig_defs.specs.Padded.{written}
use Rattle.ig_cli.proofs.Digits.{last_six}
use Rattle.ig_cli.proofs.worker_lines.six_digits.Goals as goal

pub returns : goal.returns
returns c =
    let last = c.args.number % 1000000 in
    let small : last < 10 ^ 6 = omega arith in
    let same : styled_decimal c.laid_out.result last ≡ digits 6 c.args.number =
    ap (λ s. styled_decimal s last) c.laid_out.ensures ∙ written 5 last small (omega (arith, small)) ∙ last_six c.args.number in
    subst (λ (ds : List ℕ). IfOk c.format.result (λ text. string_bytes text ≡ ds)) same c.format.ensures.ok
