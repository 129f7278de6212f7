use Rattle.std.proofs.Common.{rules}
use Rattle.std.proofs.lemmas.List.Sorted.{IsPartitionPoint-from_clause}
use Rattle.entry_rows.specs.Order.{is_low}
use Rattle.entry_rows.proofs.seeks.first_at.Goals as goal

pub returns-clause-before : goal.returns-clause-before
returns-clause-before c =
    (IsPartitionPoint-from_clause (is_low c.args.path) _ _ c.partition_point.ensures.partitioned c.requires (λ a r q k. search rules)).0

pub returns-clause-from : goal.returns-clause-from
returns-clause-from c =
    (IsPartitionPoint-from_clause (is_low c.args.path) _ _ c.partition_point.ensures.partitioned c.requires (λ a r q k. search rules)).1
