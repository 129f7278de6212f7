use Rattle.std.proofs.Common.{◌≡◌, map, take}
use Rattle.doc_types.specs.SchemaMaps.{field_pair}
use Rattle.doc_types.proofs.schema.copy_fields.Given as goal

-- the fields so far are copied
abbrev pub invariant-loop-field : goal.invariant-loop-field
invariant-loop-field l = map field_pair l.copies.items ≡ map field_pair (take l.field-index l.fields)
