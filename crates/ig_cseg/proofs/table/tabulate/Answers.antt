use Rattle.std.proofs.lemmas.List.Filters.{dedup_is}
use Rattle.std.proofs.lemmas.List.Kept.{Contains-dedup_nat, Contains-from_dedup}
use Rattle.std.proofs.lemmas.List.Sorted.{Contains-permutation, IsPermutation-sym}
use Rattle.std.proofs.lemmas.Map.Keys.{IsStrictlyIncreasing-dedup}
use Rattle.ig_cseg.proofs.Rising.{distinct-is}
use Rattle.ig_cseg.proofs.table.tabulate.Goals as goal

pub returns : goal.returns
returns c =
    let is = dedup_is _ _ _ c.dedup.ensures.filtered in
    let moved = c.sort_unstable.ensures.permutation in
    let runs = c.in_ok-collect_runs.ensures in
    distinct-is c.dedup.new.self.items c.args.labels.now
    (rw is (IsStrictlyIncreasing-dedup _ c.sort_unstable.ensures.sorted))
    (λ x h. (runs x).0 (Contains-permutation _ _ x (IsPermutation-sym _ _ moved) (Contains-from_dedup _ _ x (rw is at h))))
    (λ x h. rw is (Contains-dedup_nat _ x (Contains-permutation _ _ x moved ((runs x).1 h))))
