use Rattle.std.proofs.Common.{◌≤◌}
use Rattle.cell_session.proofs.ReportLaws.{TookFirst}
use Rattle.cell_session.proofs.reporting.report_lines.Given as goal

-- the sink took the reports of the lines so far
abbrev pub invariant-loop-at : goal.invariant-loop-at
invariant-loop-at g l = TookFirst l.first l.answers l.at (g.K.Sink.written l.initial.sink) (g.K.Sink.written l.sink) × (g.K.Sink.faults l.initial.sink ≤ g.K.Sink.faults l.sink)
