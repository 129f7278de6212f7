use Rattle.std.proofs.Common.{sym}
use Rattle.line_values.proofs.Lengths.{members_len-members_view}
use Rattle.feed_lines.proofs.values.size_of.Goals as goal

pub returns : goal.returns
returns c = sym (members_len-members_view c.args.members.now)
