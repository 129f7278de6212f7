use Rattle.std.proofs.Common.{◌≡◌, drop}
use Rattle.line_values.specs.View.{members_view}
use Rattle.json_documents.specs.DocumentFaults.{first_name, is_unknown}
use Rattle.documents.specs.Kinds.{kinds_of}
use Rattle.json_documents.proofs.members.unknown_in.Given as goal

-- what is left says what the whole says
abbrev pub invariant-loop-member : goal.invariant-loop-member
invariant-loop-member l = first_name (is_unknown (kinds_of l.schema l.type_name)) (members_view (drop l.member-index l.members)) ≡ first_name (is_unknown (kinds_of l.schema l.type_name)) (members_view l.members)
