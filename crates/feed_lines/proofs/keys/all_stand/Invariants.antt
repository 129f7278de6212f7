use Rattle.std.proofs.Common.{◌≡◌, drop}
use Rattle.line_values.specs.View.{members_view}
use Rattle.feed_lines.specs.Keys.{all_stand}
use Rattle.feed_lines.proofs.keys.all_stand.Given as goal

-- what is left says what the whole says
abbrev pub invariant-loop-member : goal.invariant-loop-member
invariant-loop-member l = all_stand l.verb (members_view (drop l.member-index l.members)) ≡ all_stand l.verb (members_view l.members)
