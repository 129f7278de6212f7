use Rattle.std.proofs.Common.{◌∙◌, List, ltb, ap, rules}
use Rattle.std.specs.List.{prefix_len}
use Rattle.std.proofs.lemmas.List.Sorted.{IsPartitionPoint-from_clause, IsPartitionedBy-ltb}
use Rattle.bucket_db.specs.declared.row.Row.{Row}
use Rattle.pass_machine.proofs.Points.{point_is}
use Rattle.pass_machine.proofs.Rising.{bits_rise_in}
use Rattle.pass_machine.proofs.places.first_with.Goals as goal

pub returns : goal.returns
returns c =
    let xs = c.rows-rows.result.now in
    let rise = bits_rise_in c.args.part.now c.rows-rows.ensures.whole xs c.rows-rows.ensures.list in
    let point = IsPartitionPoint-from_clause (λ r. ltb r.bucket.bits c.args.bits) _ _ c.partition_point.ensures.partitioned
    (IsPartitionedBy-ltb (λ r. r.bucket.bits) _ _ rise) (λ a r q k. search rules) in
    point_is (λ r. ltb r.bucket.bits c.args.bits) xs c.partition_point.result c.partition_point.ensures.bound point
    ∙ ap (λ (ys : List Row). prefix_len (λ r. ltb r.bucket.bits c.args.bits) ys) c.rows-rows.ensures.list
