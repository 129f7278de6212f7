use Rattle.std.proofs.Common.{◌≡◌, ◌++◌, map}
use Rattle.serde_json.specs.View.{members_view}
use Rattle.json_documents.specs.Schemas.{fields_of}
use Rattle.doc_types.specs.SchemaMaps.{field_pair}
use Rattle.json_documents.proofs.schema_json.fields_of.Given as goal

-- the fields so far and those that are left are all
abbrev pub invariant-loop-name : goal.invariant-loop-name
invariant-loop-name l = map field_pair l.list.items ++ fields_of (members_view l.name-iterator) ≡ fields_of (members_view l.fields.entries)
