use Rattle.std.proofs.Common.{ltb, rules}
use Rattle.std.proofs.lemmas.Bool.{ltb-true, ltb-false}
use Rattle.std.proofs.lemmas.List.Sorted.{IsPartitionPoint-from_clause, IsPartitionedBy-ltb}
use Rattle.bucket_ids.specs.Printed.{number_of}
use Rattle.bucket_db.proofs.RowLists.{rows_rise}
use Rattle.bucket_db.proofs.search.first_from.Goals as goal

pub returns-clause-before : goal.returns-clause-before
returns-clause-before c k d low high =
    let point = IsPartitionPoint-from_clause (λ r. ltb (number_of r.bucket) c.args.number) _ _ c.partition_point.ensures.partitioned
    (IsPartitionedBy-ltb (λ r. number_of r.bucket) _ _ (rows_rise _ c.requires.rising)) (λ a r q k. search rules) in
    ltb-true _ _ (point.0 k d low high)

pub returns-clause-from : goal.returns-clause-from
returns-clause-from c k d low high =
    let point = IsPartitionPoint-from_clause (λ r. ltb (number_of r.bucket) c.args.number) _ _ c.partition_point.ensures.partitioned
    (IsPartitionedBy-ltb (λ r. number_of r.bucket) _ _ (rows_rise _ c.requires.rising)) (λ a r q k. search rules) in
    ltb-false _ _ (point.1 k d low high)
