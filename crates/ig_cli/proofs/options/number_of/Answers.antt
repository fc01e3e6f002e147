use Rattle.std.proofs.Common.{ap, sym, ◌∙◌}
use Rattle.ig_cli.proofs.Numbers.{is_number, number-is}
use Rattle.ig_cli.proofs.options.number_of.Goals as goal

pub returns-then-is_number : goal.returns-then-is_number
returns-then-is_number c =
    let test = ap is_number (sym c.as_bytes.ensures.value) ∙ sym c.if-is_number.ensures in
    c.ok.ensures.value ∙ number-is c.args.text.now c.parse.result test c.parse.ensures.value.0
