use Rattle.std.proofs.Common.{◌∙◌}
use Rattle.ig_store.proofs.Listings.{listed}
use Rattle.ig_store.proofs.listing.list_names.Goals as goal

pub returns-clause-lists : goal.returns-clause-lists
returns-clause-lists c =
    listed _ _ _ _ c.args.files.now.entries c.loop-path.invariant.0 c.in-None.ensures.steps.0 (c.into_iter-path-iterator.ensures.into_iter_gives ∙ c.keys-path-items.ensures.rest) c.keys-path-items.ensures.ordered c.keys-path-items.ensures.found c.loop-path.invariant.1
