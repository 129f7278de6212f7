use Rattle.std.proofs.Common.{arith}
use Rattle.cell_session.proofs.ReportLaws.{took_none, took_more, took_all, left_some}
use Rattle.cell_session.proofs.reporting.report_lines.Goals as goal

pub loop-at-init : goal.loop-at-init
loop-at-init g c = (took_none _ _ _, omega arith)

pub loop-at-preserved : goal.loop-at-preserved
loop-at-preserved g c =
    let so = c.loop-at.invariant in
    (took_more _ _ _ _ _ _ _ so.0 c.loop-at-test.true c.index-answers-at.is c.in_default.ensures.written, omega (arith, so.1, c.in_default.ensures.count))

pub returns-clause-written : goal.returns-clause-written
returns-clause-written g c = took_all _ _ _ _ _ c.loop-at.invariant.0 c.loop-at-test.false

pub returns-clause-count : goal.returns-clause-count
returns-clause-count g c = c.loop-at.invariant.1

pub returns-in-Err-clause-stopped : goal.returns-in-Err-clause-stopped
returns-in-Err-clause-stopped g c = left_some _ _ _ _ _ _ _ _ c.loop-at.invariant.0 c.loop-at-test.true c.index-answers-at.is c.in-Err.ensures.stopped
