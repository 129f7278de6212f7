use Rattle.std.proofs.Common.{◌≡◌, ◌-◌, ◌≤◌, ℕ, List, []}
use Rattle.carriers.specs.declared.fate.Fate.{Fate}
use Rattle.io_ends.specs.Reading.{IsNearEnd}
use Rattle.session_cluster.specs.Keeping.{IsKept}
use Rattle.session_cluster.specs.Steps.{AreSettled}
use Rattle.cell_session.specs.SoFar.{IsSoFar}
use Rattle.cell_session.specs.Limits.{most_lines, most_bytes}
use Rattle.cell_session.proofs.running.serve_lines.Given as goal

-- the lines so far were dealt with, and what they did is shown; what was read behind them came with the source's last call
abbrev pub invariant-loop-number : goal.invariant-loop-number
invariant-loop-number g l =
    ((plans : ℕ → List Fate) → IsKept l.setting plans [] l.initial.session.cell
    → IsSoFar l.setting l.setting.schema plans (g.S.Source.left l.initial.source) l.reader (g.S.Source.left l.source) l.counts l.session.cell (g.K.Sink.written l.initial.sink) (g.K.Sink.written l.sink))
    × ((l.reader.max_lines ≡ most_lines) × (l.reader.max_bytes ≡ most_bytes))
    × (l.reader.lines ≤ most_lines)
    × ((g.S.Source.faults l.initial.source ≤ g.S.Source.faults l.source) × (g.K.Sink.faults l.initial.sink ≤ g.K.Sink.faults l.sink))
    × AreSettled l.session
    × IsNearEnd (g.S.Source.gave l.source) l.reader.ahead

abbrev pub decreases-loop-number : goal.decreases-loop-number
decreases-loop-number g l = most_lines - l.reader.lines
