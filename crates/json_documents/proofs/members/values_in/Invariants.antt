use Rattle.std.proofs.Common.{◌≡◌, drop, ◌++◌}
use Rattle.line_values.specs.View.{members_view}
use Rattle.json_documents.specs.DocumentFaults.{first_name, is_wrong}
use Rattle.documents.specs.Fields.{pairs}
use Rattle.documents.specs.Kinds.{kinds_of}
use Rattle.json_documents.specs.Json.{values_in}
use Rattle.json_documents.proofs.members.values_in.Given as goal

-- the fields so far and those that are left are all, and none so far was wrong
abbrev pub invariant-loop-member : goal.invariant-loop-member
invariant-loop-member l =
    (first_name (is_wrong (kinds_of l.schema l.type_name)) (members_view (drop l.member-index l.members)) ≡ first_name (is_wrong (kinds_of l.schema l.type_name)) (members_view l.members))
    × (pairs l.list.items ++ values_in (kinds_of l.schema l.type_name) (members_view (drop l.member-index l.members)) ≡ values_in (kinds_of l.schema l.type_name) (members_view l.members))
