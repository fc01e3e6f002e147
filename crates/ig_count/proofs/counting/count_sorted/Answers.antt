use Rattle.std.proofs.Common.{subst, sym}
use Rattle.std.proofs.lemmas.List.Sorted.{IsNonDecreasingBy-from_sort}
use Rattle.std.specs.List.Sorted.{IsNonDecreasing}
use Rattle.ig_count.specs.Tables.{AreCounts}
use Rattle.ig_count.proofs.SortedRuns.{counts-permuted}
use Rattle.ig_count.proofs.counting.count_sorted.Goals as goal

pub list_runs-requires : goal.list_runs-requires
list_runs-requires c =
    subst IsNonDecreasing (sym c.as_slice.ensures.value) (IsNonDecreasingBy-from_sort (λ x. x) c.sort_unstable.new.self.items c.sort_unstable.ensures.sorted)

pub returns : goal.returns
returns c =
    subst (AreCounts c.args.labels.now) (sym c.of.ensures)
    (counts-permuted c.args.labels.now c.in_ok-sorted.sorted.items c.sort_unstable.new.self.items c.as_slice.result.now c.in_ok-list_runs.field-0.items
    c.in_ok-sorted.ensures.items c.sort_unstable.ensures.permutation c.as_slice.ensures.value c.in_ok-list_runs.ensures)
