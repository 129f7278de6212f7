use Rattle.std.proofs.Common.{◌≡◌, drop}
use Rattle.line_values.specs.View.{members_view}
use Rattle.feed_lines.specs.Keys.{are_net_keys}
use Rattle.feed_lines.proofs.keys.are_net_keys.Given as goal

-- what is left says what the whole says
abbrev pub invariant-loop-member : goal.invariant-loop-member
invariant-loop-member l = are_net_keys (members_view (drop l.member-index l.members)) ≡ are_net_keys (members_view l.members)
