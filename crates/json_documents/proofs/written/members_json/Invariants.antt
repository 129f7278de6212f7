use Rattle.std.proofs.Common.{◌≡◌, take}
use Rattle.serde_json.specs.View.{members_view}
use Rattle.documents.specs.Fields.{pairs}
use Rattle.json_documents.specs.Json.{members_json}
use Rattle.json_documents.proofs.written.members_json.Given as goal

abbrev pub invariant-loop-field : goal.invariant-loop-field
invariant-loop-field l = members_view l.members.entries ≡ members_json (pairs (take l.field-index l.fields))
