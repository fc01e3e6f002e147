use Rattle.std.proofs.Common.{rules}
use Rattle.std.proofs.lemmas.List.Filters.{dedup_is}
use Rattle.std.proofs.lemmas.List.Sorted.{answers_always}
use Rattle.ig_faces.specs.Linking.{rank}
use Rattle.ig_faces.proofs.Linked.{alike, rises, same_links}
use Rattle.ig_faces.proofs.linking.arrange.Goals as goal

pub returns-clause-sorted : goal.returns-clause-sorted
returns-clause-sorted c =
    let sorted = c.sort_unstable_by_key.ensures.sorted rank (answers_always _ _ _ (λ f a r g called. search rules)) in
    rises c.sort_unstable_by_key.new.self.items c.dedup.new.self.items (dedup_is alike _ _ c.dedup.ensures.filtered) sorted

pub returns-clause-same : goal.returns-clause-same
returns-clause-same c = same_links c.args.links.now.items c.sort_unstable_by_key.new.self.items c.dedup.new.self.items (dedup_is alike _ _ c.dedup.ensures.filtered) c.sort_unstable_by_key.ensures.permutation
