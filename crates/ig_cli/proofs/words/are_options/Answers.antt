use Rattle.std.proofs.Common.{rules, tests, ◌∙◌}
use Rattle.std.proofs.lemmas.Iterator.{YieldsList-from_slice}
use Rattle.std.proofs.lemmas.Iterator.Search.{all_from_yields_List}
use Rattle.ig_meaning.specs.Words.{is_option}
use Rattle.ig_cli.proofs.OptionNames.{all-both, is_named}
use Rattle.ig_cli.proofs.words.are_options.Goals as goal

pub returns : goal.returns
returns c =
    let options = c.args.options.now in
    let named = is_option c.args.kind in
    all_from_yields_List (is_named named) _ _ c.all.result c.all.ensures.ran (YieldsList-from_slice options cc) (λ x b q k. search (rules, tests)) ∙ all-both named options
