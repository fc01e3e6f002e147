use Rattle.std.proofs.Common.{rules, tests, sym, ◌∙◌}
use Rattle.std.specs.Char.{is_ascii_digit}
use Rattle.std.proofs.lemmas.Iterator.{YieldsList-from_slice}
use Rattle.std.proofs.lemmas.Iterator.Search.{all_from_yields_List}
use Rattle.ig_cli.proofs.Numbers.{digits-list_all}
use Rattle.ig_cli.proofs.options.are_digits.Goals as goal

pub returns : goal.returns
returns c =
    let xs = c.args.text.now in
    all_from_yields_List is_ascii_digit _ _ c.all.result c.all.ensures.ran (YieldsList-from_slice xs cc) (λ x b q k. search (rules, tests)) ∙ sym (digits-list_all xs)
