use Rattle.std.proofs.Common.{arith}
use Rattle.node_journal.proofs.Openings.{text_whole}
use Rattle.node_journal.proofs.records.text_at.Goals as goal

pub returns-clause-text : goal.returns-clause-text
returns-clause-text g c =
    text_whole (g.D.Disk.state c.args.disk.now).seen (g.D.Disk.state c.length_at.new.disk).seen c.in_ok-bytes_at.field-0.items c.args.at c.in_ok-count.count c.length_at.ensures.rests.seen c.in_ok-count.ensures.length (omega (arith, c.requires.size, c.requires.within, c.if-room-lt4.false, c.if-room-from.false, c.from.ensures)) c.in_ok-bytes_at.ensures.bytes
