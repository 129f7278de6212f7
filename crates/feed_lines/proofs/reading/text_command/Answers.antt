use Rattle.feed_lines.proofs.TextLaws.{of_text, of_no_text}
use Rattle.feed_lines.proofs.reading.text_command.Goals as goal

pub returns-in-Ok : goal.returns-in-Ok
returns-in-Ok c = rw (of_text c.args.schema.now c.args.bits c.args.bytes.now c.in-Ok.ensures.1, ← c.in-Ok.ensures.0) c.json_command.ensures

pub returns-in-Err : goal.returns-in-Err
returns-in-Err c = rw c.bad.ensures (of_no_text c.args.schema.now c.args.bits c.args.bytes.now c.in-Err.ensures)
