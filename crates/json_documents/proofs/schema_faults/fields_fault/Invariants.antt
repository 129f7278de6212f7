use Rattle.std.proofs.Common.{◌≡◌}
use Rattle.serde_json.specs.View.{members_view}
use Rattle.json_documents.specs.Schemas.{fields_fault}
use Rattle.json_documents.proofs.schema_faults.fields_fault.Given as goal

-- what is left says what the whole says
abbrev pub invariant-loop-name : goal.invariant-loop-name
invariant-loop-name l = fields_fault l.type_at l.field_at (members_view l.name-iterator) ≡ fields_fault l.type_at 0 (members_view l.fields.entries)
