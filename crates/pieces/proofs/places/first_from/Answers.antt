use Rattle.bucket_ids.specs.Paths.{last_path}
use Rattle.std.proofs.Common.{ltb, rules}
use Rattle.std.proofs.lemmas.Bool.{ltb-true, ltb-false}
use Rattle.std.proofs.lemmas.List.Sorted.{IsPartitionPoint-from_clause, IsPartitionedBy-ltb}
use Rattle.pieces.proofs.places.first_from.Goals as goal

pub returns-clause-before : goal.returns-clause-before
returns-clause-before c k d low high =
    let point = IsPartitionPoint-from_clause (λ s. ltb (last_path s.bucket) c.args.path) _ _ c.partition_point.ensures.partitioned (IsPartitionedBy-ltb (λ s. (last_path s.bucket)) _ _ c.requires.rising) (λ a r q k. search rules) in
    ltb-true _ _ (point.0 k d low high)

pub returns-clause-from : goal.returns-clause-from
returns-clause-from c k d low high =
    let point = IsPartitionPoint-from_clause (λ s. ltb (last_path s.bucket) c.args.path) _ _ c.partition_point.ensures.partitioned (IsPartitionedBy-ltb (λ s. (last_path s.bucket)) _ _ c.requires.rising) (λ a r q k. search rules) in
    ltb-false _ _ (point.1 k d low high)
