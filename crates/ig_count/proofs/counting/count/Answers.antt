use Rattle.std.proofs.Common.{rules, IfOk, ap, ◌∙◌, subst, sym}
use Rattle.std.proofs.lemmas.List.Sorted.{IsNonDecreasingBy-from_sort_by_key}
use Rattle.ig_count.specs.Tables.{AreCounts, counts_of, label_of, times}
use Rattle.ig_count.proofs.EntryLaws.{table-sorted, tally-sorted}
use Rattle.ig_count.proofs.TableLaws.{one-table}
use Rattle.ig_count.proofs.TablesOf.{counts-of, is-counts_of}
use Rattle.ig_count.proofs.counting.count.Goals as goal

pub of-requires : goal.of-requires
of-requires c =
    let order = IsNonDecreasingBy-from_sort_by_key label_of c.sort_unstable_by_key.new.self.items c.sort_unstable_by_key.ensures.sorted (λ a r q k. search rules) in
    let listed = c.in_ok-items.ensures in
    table-sorted c.in_ok-tallies.tallies.entries c.in_ok-items.items.items c.sort_unstable_by_key.new.self.items listed.items c.sort_unstable_by_key.ensures.permutation
    order listed.unique listed.found c.in_ok-tallies.ensures.some

pub returns-then-branch-clause-table : goal.returns-then-branch-clause-table
returns-then-branch-clause-table c =
    is-counts_of c.args.volume.now.labels c.count_sorted.result (subst (λ labels. IfOk c.count_sorted.result (AreCounts labels)) c.labels-then-branch.ensures.labels c.count_sorted.ensures)

pub returns : goal.returns
returns c =
    let labels = c.args.volume.now.labels in
    let order = IsNonDecreasingBy-from_sort_by_key label_of c.sort_unstable_by_key.new.self.items c.sort_unstable_by_key.ensures.sorted (λ a r q k. search rules) in
    let listed = c.in_ok-items.ensures in
    let are : AreCounts labels c.of.result = subst (AreCounts labels) (sym c.of.ensures) (record {
      is_table = table-sorted c.in_ok-tallies.tallies.entries c.in_ok-items.items.items c.sort_unstable_by_key.new.self.items listed.items
          c.sort_unstable_by_key.ensures.permutation order listed.unique listed.found c.in_ok-tallies.ensures.some;
      each = λ label.
          tally-sorted c.in_ok-tallies.tallies.entries c.in_ok-items.items.items c.sort_unstable_by_key.new.self.items label listed.items
          c.sort_unstable_by_key.ensures.permutation listed.unique
          ∙ c.in_ok-tallies.ensures.tallies label ∙ ap (λ labels. times labels label) c.labels-2.ensures.labels;
    }) in
    record { counts = are; table = one-table labels c.of.result (counts_of labels) are (counts-of labels) }
