use Rattle.lane_lines.specs.Steps.{StandsIn}
use Rattle.lane_core.proofs.Stepping.{comes-by, left-then}
use Rattle.lane_core.proofs.operations.step_phase.Goals as goal

pub returns-in-Ok-clause-comes : goal.returns-in-Ok-clause-comes
returns-in-Ok-clause-comes g c =
    let m = c.in-Prepared.machine in
    let row = c.in-Prepared.row in
    let stands : StandsIn c.args.state.now c.args.line row c.in-Prepared.written m = rw c.in-Prepared.is at c.requires.stands in
    rw c.in-Prepared.is
    (comes-by c.operations_shorten.ensures.asks c.operations_shorten.ensures.falls c.send_next.new.lane c.args.line row m c.send_next.new.machine c.send_next.new.written _
    c.in-Ok.ensures.told c.in-Ok.ensures.over c.in-Ok.ensures.same (c.in-Ok.ensures.stands row stands) c.bring_on.new.phase c.bring_on.result c.bring_on.ensures)

pub returns-in-Ok-clause-one : goal.returns-in-Ok-clause-one
returns-in-Ok-clause-one g c = λ more. c.in-Ok.ensures.one (left-then c.in-Prepared.row c.send_next.new.written _ c.send_next.new.machine c.bring_on.new.phase c.bring_on.result c.in-Ok.ensures.over c.bring_on.ensures more)
