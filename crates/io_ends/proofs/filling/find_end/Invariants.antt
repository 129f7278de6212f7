use Rattle.std.proofs.Common.{◌+◌, ◌-◌, ◌≤◌, length}
use Rattle.io_ends.proofs.Seeking.{IsSought}
use Rattle.io_ends.proofs.filling.find_end.Given as goal

-- nothing is lost, and the bytes seen so far have no line feed
abbrev pub invariant-loop-at : goal.invariant-loop-at
invariant-loop-at g l =
    IsSought l.initial.window (g.S.Source.left l.initial.source) l.window (g.S.Source.left l.source) l.room l.seen (g.S.Source.gave l.initial.source) (g.S.Source.gave l.source)
    × (g.S.Source.faults l.initial.source ≤ g.S.Source.faults l.source)

abbrev pub decreases-loop-at : goal.decreases-loop-at
decreases-loop-at g l = (l.room + 1) - (l.window.passed + length l.window.ahead)
