use Rattle.std.proofs.Common.{nat_lt, rules}
use Rattle.std.proofs.lemmas.Bool.{ltb-true, ltb-false}
use Rattle.std.proofs.lemmas.List.Sorted.{IsPartitionPoint-from_clause}
use Rattle.messages.proofs.Falling.{partitioned}
use Rattle.messages.proofs.late_list.place_of.Goals as goal

pub returns-clause-later : goal.returns-clause-later
returns-clause-later c k d low high =
    let point = IsPartitionPoint-from_clause (λ l. nat_lt c.args.due l.due) _ _ c.partition_point.ensures.partitioned
    (partitioned c.args.due _ c.requires.falling) (λ a r q k. search rules) in
    ltb-true _ _ (point.0 k d low high)

pub returns-clause-due : goal.returns-clause-due
returns-clause-due c k d low high =
    let point = IsPartitionPoint-from_clause (λ l. nat_lt c.args.due l.due) _ _ c.partition_point.ensures.partitioned
    (partitioned c.args.due _ c.requires.falling) (λ a r q k. search rules) in
    ltb-false _ _ (point.1 k d low high)
