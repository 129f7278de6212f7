use Rattle.std.proofs.Common.{sym}
use Rattle.line_values.proofs.Lengths.{items_len-items_view}
use Rattle.feed_lines.proofs.values.count_items.Goals as goal

pub returns : goal.returns
returns c = sym (items_len-items_view c.args.items.now)
