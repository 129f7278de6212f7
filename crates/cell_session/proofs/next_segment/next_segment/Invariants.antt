use Rattle.std.proofs.Common.{◌≤◌, ◌-◌, length}
use Rattle.cell_session.specs.SegmentReads.{ReadsOn}
use Rattle.session_segments.specs.Parts.{AreStill, AreOwn, most_together}
use Rattle.cell_session.proofs.next_segment.next_segment.Given as goal

-- the reader went on over these lines of the segment
abbrev pub invariant-loop-alloc : goal.invariant-loop-alloc
invariant-loop-alloc g l =
    ReadsOn l.schema l.bits l.initial.reader l.reader (g.S.Source.left l.initial.source) (g.S.Source.left l.source) l.commands.items
    × AreStill l.commands.items
    × AreOwn l.bits l.commands.items
    × (g.S.Source.faults l.initial.source ≤ g.S.Source.faults l.source)
    × (length l.commands.items ≤ most_together)

abbrev pub decreases-loop-alloc : goal.decreases-loop-alloc
decreases-loop-alloc g l = (l.reader).max_lines - (l.reader).lines
