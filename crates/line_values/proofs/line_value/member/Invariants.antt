use Rattle.std.proofs.Common.{◌≡◌, drop}
use Rattle.serde_json.specs.Find.{get_member}
use Rattle.line_values.specs.View.{members_view}
use Rattle.line_values.proofs.line_value.member.Given as goal

-- what is left has what the whole has
abbrev pub invariant-loop-entry : goal.invariant-loop-entry
invariant-loop-entry l = get_member l.key (members_view (drop l.entry-index l.members)) ≡ get_member l.key (members_view l.members)
