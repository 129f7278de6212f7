use Rattle.std.proofs.Common.{◌∙◌, subst}
use Rattle.lane_locks.specs.Lines.{AreLines, AreOfLane, AreFresh}
use Rattle.lane_locks.proofs.Turning.{first-kept}
use Rattle.lane_locks.proofs.slot.Slot.new.Goals as goal

pub invariant_of-result : goal.invariant_of-result
invariant_of-result g c =
    let p = c.into_parts-lines in (
      c.requires.number,
      c.requires.mark.0,
      c.requires.mark.1,
      c.requires.shelf,
      first-kept g.S.Segment.feeders (g.S.Segment.lines c.args.number) (g.S.Segment.began c.args.number) c.args.lane.lane p.result.0.items p.result.1.items c.requires.began c.journal-journal.ensures.lane c.requires.idle
          (p.ensures.lines ∙ c.requires.lines.1) (subst (λ n. AreLines n p.result.0.items) c.requires.lines.0 p.ensures.are) (subst (λ xs. AreOfLane c.args.lane.lane xs) c.requires.lines.1 c.requires.of_lane)
          (subst (λ xs. AreFresh c.args.lane.lane xs) c.requires.lines.1 c.requires.fresh) p.ensures.waiting,
    )
