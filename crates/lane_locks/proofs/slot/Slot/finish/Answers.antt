use Rattle.std.proofs.Common.{◌∙◌, ap}
use Rattle.lane_locks.proofs.Idling.{idle-over}
use Rattle.lane_locks.proofs.slot.Slot.finish.Goals as goal

pub returns-clause-idle : goal.returns-clause-idle
returns-clause-idle g c = ap (λ l. l.lane.under_way) c.into_parts.ensures.own.1 ∙ c.finish_lines.ensures.idle

pub returns-clause-over : goal.returns-clause-over
returns-clause-over g c =
    let p = c.into_parts in
    let n = p.result.0 in
    idle-over g.S.Segment.feeders (g.S.Segment.lines n) (g.S.Segment.began n) p.result.1.lane p.result.2.items p.result.3.items p.ensures.kept
    (ap (λ l. l.lane.under_way) p.ensures.own.1 ∙ c.finish_lines.ensures.idle)
