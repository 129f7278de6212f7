use Rattle.bucket_ids.specs.Paths.{first_path}
use Rattle.std.proofs.Common.{leb, rules}
use Rattle.std.proofs.lemmas.Bool.{leb-true, leb-false}
use Rattle.std.proofs.lemmas.List.Sorted.{IsPartitionPoint-from_clause, IsPartitionedBy-leb}
use Rattle.pieces.proofs.places.first_past.Goals as goal

pub returns-clause-before : goal.returns-clause-before
returns-clause-before c k d low high =
    let point = IsPartitionPoint-from_clause (λ s. leb (first_path s.bucket) c.args.path) _ _ c.partition_point.ensures.partitioned (IsPartitionedBy-leb (λ s. (first_path s.bucket)) _ _ c.requires.rising) (λ a r q k. search rules) in
    leb-true _ _ (point.0 k d low high)

pub returns-clause-past : goal.returns-clause-past
returns-clause-past c k d low high =
    let point = IsPartitionPoint-from_clause (λ s. leb (first_path s.bucket) c.args.path) _ _ c.partition_point.ensures.partitioned (IsPartitionedBy-leb (λ s. (first_path s.bucket)) _ _ c.requires.rising) (λ a r q k. search rules) in
    leb-false _ _ (point.1 k d low high)
