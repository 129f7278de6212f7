use Rattle.std.proofs.Common.{arith}
use Rattle.feeder_tables.proofs.Asking.{still_above}
use Rattle.feeder_tables.proofs.lines.list_of.Goals as goal

pub loop-line-preserved : goal.loop-line-preserved
loop-line-preserved c =
    let i = c.loop-line.invariant in
    let fewer = i.2 in
    let off = c.if-number-eq-MOST_LINES.false in
    (tt, tt, omega (arith, fewer, off), i.3, still_above _ _ i.4, i.5)
