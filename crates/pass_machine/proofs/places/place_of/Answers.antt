use Rattle.std.proofs.Common.{◌∙◌, ℕ, List, ltb, ap₂, rules}
use Rattle.std.specs.List.{prefix_len}
use Rattle.std.proofs.lemmas.List.Sorted.{IsPartitionPoint-from_clause, IsPartitionedBy-ltb}
use Rattle.bucket_ids.specs.Printed.{number_of}
use Rattle.bucket_db.specs.declared.row.Row.{Row}
use Rattle.pass_machine.proofs.Points.{point_is}
use Rattle.pass_machine.proofs.Rising.{rows_rise_in}
use Rattle.pass_machine.proofs.places.place_of.Goals as goal

pub returns : goal.returns
returns c =
    let xs = c.rows-rows.result.now in
    let n = c.number_of-number.result in
    let rise = rows_rise_in c.args.part.now c.rows-rows.ensures.whole xs c.rows-rows.ensures.list in
    let point = IsPartitionPoint-from_clause (λ r. ltb (number_of r.bucket) n) _ _ c.partition_point.ensures.partitioned
    (IsPartitionedBy-ltb (λ r. number_of r.bucket) _ _ rise) (λ a r q k. search rules) in
    point_is (λ r. ltb (number_of r.bucket) n) xs c.partition_point.result c.partition_point.ensures.bound point
    ∙ ap₂ (λ (m : ℕ) (ys : List Row). prefix_len (λ r. ltb (number_of r.bucket) m) ys) c.number_of-number.ensures.value c.rows-rows.ensures.list
