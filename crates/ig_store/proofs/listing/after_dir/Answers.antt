use Rattle.std.proofs.Common.{sym, ◌∙◌, ap, ◌++◌, lit<}
use Rattle.std.proofs.lemmas.Str.Pattern.{strip_prefix_char}
use Rattle.ig_store.proofs.Listings.{none_after}
use Rattle.ig_store.proofs.listing.after_dir.Goals as goal

pub returns-clause-none : goal.returns-clause-none
returns-clause-none c =
    let cut = c.in_ok-strip_prefix.ensures.cases in
    none_after c.args.dir.now c.args.path.now c.in_ok-strip_prefix.field-0.now c.strip_prefix-2.result
    (cut.1.1 ∙ ap (λ rest. c.args.dir.now ++ rest) (sym cut.2))
    (strip_prefix_char 47 _ _ c.strip_prefix-2.ensures.cases (lit< tt))
