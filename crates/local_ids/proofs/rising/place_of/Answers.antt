use Rattle.std.proofs.Common.{ltb, rules}
use Rattle.std.proofs.lemmas.List.Sorted.{IsPartitionPoint-from_clause, IsPartitionedBy-ltb}
use Rattle.local_ids.proofs.RisingLaws.{point_is, rises}
use Rattle.local_ids.proofs.rising.place_of.Goals as goal

pub returns-clause-value : goal.returns-clause-value
returns-clause-value c =
    let xs = c.args.list.now in
    let x = c.args.local in
    let point = IsPartitionPoint-from_clause (λ y. ltb y x) _ _ c.partition_point.ensures.partitioned (IsPartitionedBy-ltb (λ y. y) xs x (rises xs c.requires)) (λ a r q k. search rules) in
    point_is (λ y. ltb y x) xs c.partition_point.result c.partition_point.ensures.bound point
