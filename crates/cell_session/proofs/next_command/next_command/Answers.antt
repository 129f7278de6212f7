use Rattle.cell_session.proofs.LongLines.{long_asked}
use Rattle.cell_session.proofs.LastReads.{command_ends}
use Rattle.cell_session.proofs.next_command.next_command.Goals as goal

pub returns-in-TooLong-clause-shows : goal.returns-in-TooLong-clause-shows
returns-in-TooLong-clause-shows g c text stands =
    let told = c.in-TooLong.ensures.told text stands in
    ((told.0.0, (told.0.1.0, long_asked c.args.schema.now c.args.bits told.0.0 told.0.1.1)), told.1)

pub returns-in-Line-clause-ends : goal.returns-in-Line-clause-ends
returns-in-Line-clause-ends g c text stands near = command_ends _ text c.args.reader.now c.next.new.self _ (c.in-Line.ensures.ends text stands near)
