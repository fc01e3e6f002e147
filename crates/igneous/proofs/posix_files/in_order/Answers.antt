use Rattle.std.proofs.lemmas.List.Filters.{dedup_is}
use Rattle.std.proofs.lemmas.List.Kept.{IsStrictlySortedBy-dedup}
use Rattle.std.specs.Cmp.Lexicographic.{texts_ties}
use Rattle.std.specs.String.{string_cmp_total}
use Rattle.igneous.proofs.posix_files.in_order.Goals as goal

pub returns : goal.returns
returns c =
    rw (dedup_is _ _ _ c.dedup.ensures.filtered)
    (IsStrictlySortedBy-dedup string_cmp_total (λ x y. texts_ties x.bytes.items y.bytes.items) _ c.sort_unstable.ensures.sorted)
