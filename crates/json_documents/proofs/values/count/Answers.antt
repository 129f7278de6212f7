use Rattle.std.proofs.Common.{sym}
use Rattle.line_values.proofs.Lengths.{items_len-items_view}
use Rattle.json_documents.proofs.values.count.Goals as goal

pub returns : goal.returns
returns c = sym (items_len-items_view c.args.items.now)
