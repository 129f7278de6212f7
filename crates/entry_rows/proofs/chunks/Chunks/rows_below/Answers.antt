use Rattle.std.proofs.Common.{rules}
use Rattle.std.proofs.lemmas.List.Sorted.{IsPartitionPoint-from_clause}
use Rattle.entry_rows.specs.Order.{is_below}
use Rattle.entry_rows.specs.Chunks.{begins}
use Rattle.entry_rows.proofs.OrderLaws.{parted}
use Rattle.entry_rows.proofs.ChunkLaws.{rows_parted}
use Rattle.entry_rows.proofs.chunks.Chunks.rows_below.Goals as goal

pub returns-clause-before : goal.returns-clause-before
returns-clause-before c k d low high =
    let test = is_below c.args.path c.args.id.now in
    (IsPartitionPoint-from_clause (λ r. begins test r.items) _ _ (rw c.deref.ensures.value at c.partition_point.ensures.partitioned) (rows_parted (λ r. r.items) _ c.requires.some test (parted c.args.path c.args.id.now _ c.requires.rising)) (λ a r q k. search rules)).0 k d low high

pub returns-clause-from : goal.returns-clause-from
returns-clause-from c k d low high =
    let test = is_below c.args.path c.args.id.now in
    (IsPartitionPoint-from_clause (λ r. begins test r.items) _ _ (rw c.deref.ensures.value at c.partition_point.ensures.partitioned) (rows_parted (λ r. r.items) _ c.requires.some test (parted c.args.path c.args.id.now _ c.requires.rising)) (λ a r q k. search rules)).1 k d low high
