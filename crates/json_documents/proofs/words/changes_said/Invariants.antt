use Rattle.std.proofs.Common.{◌≡◌, drop, ◌++◌}
use Rattle.line_values.specs.View.{members_view}
use Rattle.json_documents.specs.DocumentFaults.{first_name}
use Rattle.documents.specs.Kinds.{kinds_of}
use Rattle.json_documents.specs.Json.{said}
use Rattle.doc_updates.specs.Updates.{pairs}
use Rattle.json_documents.specs.Updates.{is_wrong}
use Rattle.json_documents.specs.Words.{change_in}
use Rattle.json_documents.proofs.words.changes_said.Given as goal

-- the changes so far and those that are left are all, and none so far was wrong
abbrev pub invariant-loop-member : goal.invariant-loop-member
invariant-loop-member l =
    (first_name (is_wrong (kinds_of l.schema l.type_name)) (members_view (drop l.member-index l.members)) ≡ first_name (is_wrong (kinds_of l.schema l.type_name)) (members_view l.members))
    × (pairs l.list.items ++ said (change_in (kinds_of l.schema l.type_name)) (members_view (drop l.member-index l.members)) ≡ said (change_in (kinds_of l.schema l.type_name)) (members_view l.members))
