use Rattle.std.proofs.Common.{◌≡◌, drop}
use Rattle.line_values.specs.View.{members_view}
use Rattle.feed_lines.specs.Keys.{with_verb, verbs_in}
use Rattle.feed_lines.proofs.keys.only_verb.Given as goal

-- the verb so far and those that are left are all
abbrev pub invariant-loop-member : goal.invariant-loop-member
invariant-loop-member l = with_verb l.found (verbs_in (members_view (drop l.member-index l.members))) ≡ verbs_in (members_view l.members)
