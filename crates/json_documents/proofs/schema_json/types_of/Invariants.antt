use Rattle.std.proofs.Common.{◌≡◌, ◌++◌, map}
use Rattle.serde_json.specs.View.{members_view}
use Rattle.json_documents.specs.Schemas.{types_of}
use Rattle.doc_types.specs.SchemaMaps.{type_pair}
use Rattle.json_documents.proofs.schema_json.types_of.Given as goal

-- the types so far and those that are left are all
abbrev pub invariant-loop-name : goal.invariant-loop-name
invariant-loop-name l = map type_pair l.list.items ++ types_of (members_view l.name-iterator) ≡ types_of (members_view l.members.entries)
