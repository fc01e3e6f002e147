use Rattle.std.proofs.Common.{ltb, arith, rules, sym}
use Rattle.std.proofs.lemmas.List.Sorted.{IsPartitionPoint-from_clause, IsPartitionedBy-ltb}
use Rattle.ig_global.proofs.TableLaws.{count-split}
use Rattle.ig_global.proofs.numbering.count_below.Goals as goal

pub returns : goal.returns
returns c =
    let xs = c.args.ascending.now in
    let parted = IsPartitionedBy-ltb (λ x. x) xs c.args.bound c.requires in
    let point = IsPartitionPoint-from_clause (λ x. ltb x c.args.bound) xs _ c.partition_point.ensures.partitioned parted (λ a r q k. search rules) in
    sym (count-split (λ x. ltb x c.args.bound) xs c.partition_point.result c.partition_point.ensures.bound
    (λ k l. point.0 k 0 (omega arith) l) (λ k from to. point.1 k 0 from to))
