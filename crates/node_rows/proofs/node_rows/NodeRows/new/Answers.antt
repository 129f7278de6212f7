use Rattle.std.proofs.Common.{subst, sym}
use Rattle.field_indexes.specs.Told.{fields_of}
use Rattle.node_rows.specs.Kept.{documents_in, IsKept}
use Rattle.node_rows.proofs.KeptLaws.{kept_empty}
use Rattle.node_rows.proofs.node_rows.NodeRows.new.Goals as goal

pub invariant_of-result : goal.invariant_of-result
invariant_of-result c =
    subst (λ xs. IsKept c.in_ok-copy.field-0 c.new.result (documents_in xs) c.new-3.result.types (fields_of c.new-3.result.fields)) (sym c.new-2.ensures.items)
    (kept_empty c.in_ok-copy.field-0 c.new.result c.new-3.result.types (fields_of c.new-3.result.fields) c.new.ensures c.new-3.ensures.listed c.new-3.ensures.fields)
