use Rattle.std.proofs.Common.{rules}
use Rattle.std.proofs.lemmas.List.Sorted.{IsPartitionPoint-from_clause}
use Rattle.entry_rows.specs.Order.{is_below}
use Rattle.entry_rows.proofs.slots.first_from.Goals as goal

pub returns-clause-before : goal.returns-clause-before
returns-clause-before c =
    (IsPartitionPoint-from_clause (is_below c.args.path c.args.id.now) _ _ c.partition_point.ensures.partitioned c.requires (λ a r q k. search rules)).0

pub returns-clause-from : goal.returns-clause-from
returns-clause-from c =
    (IsPartitionPoint-from_clause (is_below c.args.path c.args.id.now) _ _ c.partition_point.ensures.partitioned c.requires (λ a r q k. search rules)).1
