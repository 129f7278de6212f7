use Rattle.std.proofs.Common.{◌≡◌}
use Rattle.serde_json.specs.View.{members_view}
use Rattle.json_documents.specs.Schemas.{field_fault}
use Rattle.json_documents.proofs.schema_faults.field_fault.Given as goal

-- what is left says what the whole says
abbrev pub invariant-loop-name : goal.invariant-loop-name
invariant-loop-name l = field_fault l.type_at (members_view l._name-iterator) ≡ field_fault 0 (members_view l.members.entries)
