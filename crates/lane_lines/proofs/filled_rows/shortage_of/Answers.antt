use Rattle.lane_lines.proofs.FilledRows.{short-of-reads}
use Rattle.lane_lines.proofs.filled_rows.shortage_of.Goals as goal

pub returns-else-end-2 : goal.returns-else-end-2
returns-else-end-2 c = short-of-reads c.args.end.now c.args.serving c.args.acks c.difference.result _ _ _ c.if-end.false c.if-end-2.false c.difference.ensures c.len-else-end-2.ensures.value c.len-else-end-2-2.ensures.value c.absent_in-else-end-2.ensures
