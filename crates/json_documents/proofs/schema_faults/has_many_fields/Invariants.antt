use Rattle.std.proofs.Common.{◌≡◌}
use Rattle.serde_json.specs.View.{members_view}
use Rattle.json_documents.specs.Schemas.{has_many_fields}
use Rattle.json_documents.proofs.schema_faults.has_many_fields.Given as goal

-- what is left says what the whole says
abbrev pub invariant-loop-name : goal.invariant-loop-name
invariant-loop-name l = has_many_fields (members_view l._name-iterator) ≡ has_many_fields (members_view l.members.entries)
