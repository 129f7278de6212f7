use Rattle.std.proofs.Common.{◌≡◌, ◌-◌, ◌+◌, ◌≤◌, ℕ, List, []}
use Rattle.carriers.specs.declared.fate.Fate.{Fate}
use Rattle.session_cluster.specs.Keeping.{IsKept}
use Rattle.session_cluster.specs.Steps.{AreSettled}
use Rattle.session_segments.specs.Parts.{AreEnded}
use Rattle.cell_session.specs.Limits.{most_lines, most_bytes}
use Rattle.cell_session.proofs.FedLoops.{IsFedTo}
use Rattle.cell_session.proofs.feeding.feed_segments.Given as goal

-- each segment so far, and the line that ended it, was dealt with, and what they did is shown
abbrev pub invariant-loop-commands : goal.invariant-loop-commands
invariant-loop-commands g l =
    ((plans : ℕ → List Fate) → IsKept l.setting plans [] l.initial.session.cell
    → IsFedTo AreEnded l.setting l.setting.schema l.feeders plans (g.S.Source.left l.initial.source) l.reader (g.S.Source.left l.source) l.counts l.session.cell (g.K.Sink.written l.initial.sink) (g.K.Sink.written l.sink))
    × ((l.reader.max_lines ≡ most_lines) × (l.reader.max_bytes ≡ most_bytes))
    × (l.reader.lines ≤ most_lines)
    × ((g.S.Source.faults l.initial.source ≤ g.S.Source.faults l.source) × (g.K.Sink.faults l.initial.sink ≤ g.K.Sink.faults l.sink))
    × AreSettled l.session
    × (l.first ≡ l.reader.lines + 1)

abbrev pub decreases-loop-commands : goal.decreases-loop-commands
decreases-loop-commands g l = most_lines - l.reader.lines
